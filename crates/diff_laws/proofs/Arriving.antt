-- Facts with which packets come to a stage are of the box, and in the stage's set.
use Rattle.std.specs.Prelude.{◌<◌, ◌≤◌, ◌==◌, IfSome}
use Rattle.std.specs.Option.{option_map}
use Rattle.std.proofs.Common.{◌≡◌, ◌∙◌, ℕ, ◌&&◌, Bool, true, false, not, cond, Option, Some, None, is_some, refl, ap, subst, sym, arith, nat_le}
use Rattle.std.proofs.lemmas.Bool.Decides.{nat_tests}
use Rattle.nft_tree.specs.ValueTypes.{STATE_NEW}
use Rattle.box_file.specs.Box.{PlantTree}
use Rattle.ip_headers.specs.declared.transport.Transport.{Transport}
use Rattle.ip_headers.specs.declared.transport.Transport.TheVariants.{Tcp, Udp, Icmp, Other}
use Rattle.ip_headers.specs.Transport.{icmp_type_of}
use Rattle.rule_check.specs.WellFormed.{WellFormed}
use Rattle.rule_meaning.specs.declared.facts.Facts.{Facts}
use Rattle.rule_meaning.specs.declared.facts.Interface.{Interface}
use Rattle.rule_meaning.specs.declared.stage.HookStage.{HookStage}
use Rattle.rule_meaning.specs.declared.stage.HookStage.TheVariants as stages
use Rattle.rule_meaning.specs.Matches.{tests}
use Rattle.rule_meaning.specs.Selectors.{ct_state, tcp_source, udp_source}
use Rattle.history.specs.Setup.{Setup, limits_of}
use Rattle.history.specs.History.{tracked_of}
use Rattle.translation.specs.declared.ct_info.CtInfo.{CtInfo}
use Rattle.translation.specs.declared.ct_info.CtInfo.TheVariants.{Tracked, Related, New, Invalid, Untracked}
use Rattle.stepping.specs.Next.{live_at_record, moment_after}
use Rattle.stepping.specs.Paths.{PathState}
use Rattle.diff_laws.specs.Coming.{ComesTo, IsSeenBy}
use Rattle.fact_sets.specs.Boxes.{IsInterface, IsOfBox}
use Rattle.rule_sets.specs.Interfaces.{interfaces_of}
use Rattle.coming_sets.specs.Coming.{can_come_to, has_headers, has_input, has_length, has_output, has_state_in, hook_of, is_packet}
use Rattle.diff_laws.specs.Addresses.{AddressesFit, Every}
use Rattle.diff_laws.proofs.Boxes.{BoxFits, IsOurs}
use Rattle.diff_laws.proofs.Bytes.{IsHeaderOf}
use Rattle.diff_laws.proofs.Fits.{EntryFits, live_fit}
use Rattle.diff_laws.proofs.Histories.{history_fits, received}
use Rattle.diff_laws.proofs.Standing.{Before, IsOutput, IsReceived, Standing, stands}
use Rattle.diff_laws.proofs.Translations.{IsStateOf}

-- ---- tests

and_true : (a b : Bool) → a ≡ true → b ≡ true → (a && b) ≡ true
and_true true b e f = f
and_true false b e f = absurd cc

any_value : (n : ℕ) → nat_le 0 n ≡ true
any_value n = grind (arith, nat_tests)

not_zero : (n : ℕ) → 0 < n → not (nat_le 0 n && nat_le n 0) ≡ true
not_zero n h = grind (arith, nat_tests)

reached : (n k : ℕ) → k ≤ n → nat_le k n ≡ true
reached n k h = grind (arith, nat_tests)

other_number : (n k : ℕ) → (n == k) ≡ false → (nat_le k n && nat_le n k) ≡ false
other_number n k h = grind (arith, nat_tests)

-- ---- headers

field : ℕ → ℕ → Option ℕ → Bool
field k n value = cond (nat_le k n && nat_le n k) (tests value (λ x. nat_le 0 x)) (not (tests value (λ x. nat_le 0 x)))

has_field : (k n : ℕ) (value : Option ℕ) → (nat_le k n && nat_le n k) ≡ true → is_some value ≡ true → field k n value ≡ true
unfolding field
has_field k n None e f = absurd cc
has_field k n (Some x) e f = ap (λ b. cond b (nat_le 0 x) (not (nat_le 0 x))) e ∙ any_value x

lacks_field : (k n : ℕ) (value : Option ℕ) → (nat_le k n && nat_le n k) ≡ false → value ≡ None → field k n value ≡ true
unfolding field
lacks_field k n value e f = ap (λ b. cond b (tests value (λ x. nat_le 0 x)) (not (tests value (λ x. nat_le 0 x)))) e
    ∙ ap (λ v. not (tests v (λ x. nat_le 0 x))) f

headers_by : (n : ℕ) (t : Transport) → IsHeaderOf n t
    → ((field 6 n (tcp_source t) && field 17 n (udp_source t)) && field 1 n (icmp_type_of t)) ≡ true
headers_by n (Tcp source destination flags) h = subst (λ m. ((field 6 m (Some source) && field 17 m None) && field 1 m None) ≡ true) (sym h)
    (and_true _ _ (and_true _ _ (has_field 6 6 (Some source) refl refl) (lacks_field 17 6 None refl refl)) (lacks_field 1 6 None refl refl))
headers_by n (Udp source destination) h = subst (λ m. ((field 6 m None && field 17 m (Some source)) && field 1 m None) ≡ true) (sym h)
    (and_true _ _ (and_true _ _ (lacks_field 6 17 None refl refl) (has_field 17 17 (Some source) refl refl)) (lacks_field 1 17 None refl refl))
headers_by n (Icmp message) h = subst (λ m. ((field 6 m None && field 17 m None) && field 1 m (Some message)) ≡ true) (sym h)
    (and_true _ _ (and_true _ _ (lacks_field 6 1 None refl refl) (lacks_field 17 1 None refl refl)) (has_field 1 1 (Some message) refl refl))
headers_by n Other h = and_true _ _ (and_true _ _ (lacks_field 6 n None (other_number n 6 h.0) refl) (lacks_field 17 n None (other_number n 17 h.1) refl))
    (lacks_field 1 n None (other_number n 1 h.2) refl)

headers_true : (f : Facts) → IsHeaderOf f.packet.protocol f.packet.transport → has_headers f ≡ true
unfolding field
headers_true f h = headers_by f.packet.protocol f.packet.transport h

-- ---- outputs

without_output : (network : PlantTree) (o : Option Interface) → IsOutput network false o
    → not (tests (option_map (λ i. i.index) o) (λ n. nat_le 0 n)) ≡ true
without_output network None h = refl
without_output network (Some o) h = absurd h

with_output : (network : PlantTree) (o : Option Interface) → IsOutput network true o
    → tests (option_map (λ i. i.index) o) (λ n. not (nat_le 0 n && nat_le n 0)) ≡ true
with_output network None h = absurd h
with_output network (Some o) (n, ours, e) = ap (λ (i : Interface). not (nat_le 0 i.index && nat_le i.index 0)) e ∙ not_zero n ours.1

-- ---- states

some_state : (x : Option ℕ) → is_some x ≡ true → tests x (λ n. nat_le 0 n) ≡ true
some_state None e = absurd cc
some_state (Some n) e = any_value n

looked_up_state : (info : CtInfo) (x : Option ℕ) → IsStateOf info x → tests x (λ n. nat_le 0 n) ≡ true
looked_up_state (New n) x h = subst (λ y. tests y (λ n. nat_le 0 n) ≡ true) (sym h) refl
looked_up_state (Tracked c) x h = some_state x h
looked_up_state (Related c) x h = some_state x h
looked_up_state Invalid x h = some_state x h
looked_up_state Untracked x h = some_state x h

new_state : (x : Option ℕ) → x ≡ Some STATE_NEW → tests x (λ n. nat_le STATE_NEW n && nat_le n STATE_NEW) ≡ true
new_state x h = subst (λ y. tests y (λ n. nat_le STATE_NEW n && nat_le n STATE_NEW) ≡ true) (sym h) refl

-- only new connections come to chains of type nat
first_before : (info : CtInfo) → IsSeenBy stages.PreroutingNat info → (x : Option ℕ) → IsStateOf info x → x ≡ Some STATE_NEW
first_before (New n) seen x h = h
first_before (Tracked c) seen x h = absurd seen
first_before (Related c) seen x h = absurd seen
first_before Invalid seen x h = absurd seen
first_before Untracked seen x h = absurd seen

first_after : (info : CtInfo) → IsSeenBy stages.PostroutingNat info → (x : Option ℕ) → IsStateOf info x → x ≡ Some STATE_NEW
first_after (New n) seen x h = h
first_after (Tracked c) seen x h = absurd seen
first_after (Related c) seen x h = absurd seen
first_after Invalid seen x h = absurd seen
first_after Untracked seen x h = absurd seen

-- ---- facts

output_of_box : (network : PlantTree) (out : Bool) (o : Option Interface) → IsOutput network out o → IfSome o (IsInterface (interfaces_of network))
output_of_box network out None h = tt
output_of_box network false (Some o) h = absurd h
output_of_box network true (Some o) (n, ours, e) = subst (IsInterface (interfaces_of network)) (sym e) ours.0

of_box : (network : PlantTree) (index : ℕ) (out : Bool) (f : Facts) → IsOurs network index → Standing network index out f → IsOfBox (interfaces_of network) f
of_box network index out f ours h = record {
  packet = h.packet.fits;
  input = subst (IsInterface (interfaces_of network)) (sym h.input) ours.0;
  output = output_of_box network out f.output h.output;
  mark = h.marks.0;
  ct = h.marks.1;
}

packet_true : (network : PlantTree) (index : ℕ) (out : Bool) (f : Facts) → IsOurs network index → Standing network index out f → is_packet f ≡ true
packet_true network index out f ours h = and_true (has_input f) (has_length f && has_headers f)
    (ap (λ (i : Interface). not (nat_le 0 i.index && nat_le i.index 0)) h.input ∙ not_zero index ours.1)
    (and_true (has_length f) (has_headers f) (reached f.packet.length 20 h.packet.long) (headers_true f h.packet.header))

abbrev Comes : PlantTree → HookStage → Facts → Type 0
Comes network stage f = IsOfBox (interfaces_of network) f × (can_come_to stage f ≡ true)

there : (network : PlantTree) (index : ℕ) (stage : HookStage) (out : Bool) (f : Facts) → IsOurs network index → Standing network index out f
    → has_output (hook_of stage) f ≡ true → has_state_in stage f ≡ true → Comes network stage f
there network index stage out f ours h output state = (
  of_box network index out f ours h,
  and_true (is_packet f) (has_output (hook_of stage) f && has_state_in stage f) (packet_true network index out f ours h)
      (and_true (has_output (hook_of stage) f) (has_state_in stage f) output state),
)

module _ (setup : Setup) (well : WellFormed setup.rules setup.network) (fits : AddressesFit setup.rules) (box : BoxFits setup.network) (index : ℕ)
    (ours : IsOurs setup.network index) where
  abbrev network : PlantTree
  network = setup.network

  comes_before : (stage : HookStage) (s : PathState) → IsSeenBy stage s.info → Before setup well fits box index stage s → Comes network stage s.facts
  comes_before stages.PreroutingRaw s seen h = there network index stages.PreroutingRaw false s.facts ours h.0 (without_output network s.facts.output h.0.output)
      (ap (λ x. not (tests x (λ n. nat_le 0 n))) h.1)
  comes_before stages.PreroutingBeforeNat s seen h = there network index stages.PreroutingBeforeNat false s.facts ours h.stands
      (without_output network s.facts.output h.stands.output) (looked_up_state s.info (ct_state s.facts.ct) h.state)
  comes_before stages.PreroutingNat s seen h = there network index stages.PreroutingNat false s.facts ours h.stands
      (without_output network s.facts.output h.stands.output)
      (new_state (ct_state s.facts.ct) (first_before s.info seen (ct_state s.facts.ct) h.state))
  comes_before stages.PreroutingAfterNat s seen h = there network index stages.PreroutingAfterNat false s.facts ours h.stands
      (without_output network s.facts.output h.stands.output) (looked_up_state s.info (ct_state s.facts.ct) h.state)
  comes_before stages.Input s seen h = there network index stages.Input false s.facts ours h.stands
      (without_output network s.facts.output h.stands.output) (looked_up_state s.info (ct_state s.facts.ct) h.state)
  comes_before stages.Forward s seen h = there network index stages.Forward true s.facts ours h.stands
      (with_output network s.facts.output h.stands.output) (looked_up_state s.info (ct_state s.facts.ct) h.state)
  comes_before stages.PostroutingBeforeNat s seen h = there network index stages.PostroutingBeforeNat true s.facts ours h.stands
      (with_output network s.facts.output h.stands.output) (looked_up_state s.info (ct_state s.facts.ct) h.state)
  comes_before stages.PostroutingNat s seen h = there network index stages.PostroutingNat true s.facts ours h.stands
      (with_output network s.facts.output h.stands.output)
      (new_state (ct_state s.facts.ct) (first_after s.info seen (ct_state s.facts.ct) h.state))
  comes_before stages.PostroutingAfterNat s seen h = there network index stages.PostroutingAfterNat true s.facts ours h.stands
      (with_output network s.facts.output h.stands.output) (looked_up_state s.info (ct_state s.facts.ct) h.state)

pub comes : (setup : Setup) → WellFormed setup.rules setup.network → AddressesFit setup.rules → BoxFits setup.network → (stage : HookStage) (f : Facts)
    → ComesTo setup stage f → IsOfBox (interfaces_of setup.network) f × (can_come_to stage f ≡ true)
comes setup well fits box stage f c =
    let got : IsReceived setup.network c.a = received setup box c.a c.r c.bytes c.carries in
    let live : Every EntryFits (live_at_record setup c.history c.r) = live_fit (limits_of setup) (tracked_of c.history) (moment_after c.history c.r)
    (history_fits setup well fits box c.history c.of_bytes) in
    subst (λ (g : Facts). IsOfBox (interfaces_of setup.network) g × (can_come_to stage g ≡ true)) (sym c.facts)
    (comes_before setup well fits box c.a.interface got.ours stage c.state c.seen
    (stands setup well fits box c.a.interface (live_at_record setup c.history c.r) live c.a refl got c.stands).0)
