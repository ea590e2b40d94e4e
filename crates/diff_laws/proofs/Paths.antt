-- One packet's path by two rulesets on one box, of which each stage that it comes to does the same.
use Rattle.std.specs.Prelude.{nat_lt}
use Rattle.box_file.specs.Box.{is_own, route}
use Rattle.std.proofs.Common.{◌≡◌, ℕ, Bool, true, false, List, [], Option, Some, None, ap, if◌then◌else◌, refl, subst, sym, ◌∙◌}
use Rattle.nft_tree.specs.Tree.{TableTree}
use Rattle.conntrack.specs.declared.connection.ConntrackEntry.{ConntrackEntry}
use Rattle.ip_headers.specs.declared.tuple.Mapping.{Mapping}
use Rattle.rule_meaning.specs.declared.facts.Facts.{Facts}
use Rattle.rule_meaning.specs.declared.facts.Interface.{Interface}
use Rattle.rule_meaning.specs.declared.event.Event.{Event}
use Rattle.rule_meaning.specs.declared.event.HookVerdict.{HookVerdict}
use Rattle.rule_meaning.specs.declared.event.HookVerdict.TheVariants.{Accepted, Dropped}
use Rattle.rule_meaning.specs.declared.stage.HookStage.{HookStage}
use Rattle.rule_meaning.specs.declared.stage.HookStage.TheVariants as stages
use Rattle.rule_meaning.specs.Hooks.{HookResult, Stage, chains_in_stage}
use Rattle.history.specs.declared.outcome.Cause.{Cause}
use Rattle.history.specs.declared.outcome.Cause.TheVariants as causes
use Rattle.history.specs.Setup.{Setup}
use Rattle.translation.specs.declared.ct_info.CtInfo.{CtInfo}
use Rattle.translation.specs.declared.ct_info.CtInfo.TheVariants.{New}
use Rattle.translation.specs.declared.ct_info.NewConnection.{NewConnection}
use Rattle.translation.specs.CtInfos.{ct_facts_of, facts_after_destination_nat, facts_after_source_nat}
use Rattle.translation.specs.Nat.{after_destination_nat, after_source_nat}
use Rattle.translation.specs.LiveMappings.{mappings_in}
use Rattle.stepping.specs.Carried.{ReceivedPacket, interface_facts}
use Rattle.stepping.specs.Lookups.{looked_up_info, others_beside}
use Rattle.stepping.specs.Paths.{AfterRouting, Continue, DestinationNat, Drop, Hooks, InputOrForward, NatChains, PathState}
use Rattle.stepping.specs.Paths.{Prerouting, Routing, RunsStage, SourceNat, Step, StepResult, after_chains, destination_nat_result}
use Rattle.stepping.specs.Paths.{forwarded_by, goes_on, on_arrival, routed, source_nat_result, stops}
use Rattle.stepping.specs.Paths.{unless_dropped, ◌⨾◌}
use Rattle.stepping.specs.Confirmations.{Confirm, confirmed, refusal, reply_to, unless_refused}
use Rattle.stepping.specs.Next.{AfterLookUp, HooksAndConfirm, LookUp, Path, entry_of_packet, with_info}
use Rattle.diff_laws.specs.Coming as coming
use Rattle.diff_laws.specs.Coming.{IsSeenBy, StandsBefore, stage_behind_routing}
use Rattle.diff_laws.proofs.Events.{chains_blind}
use Rattle.rule_meaning.specs.Same.{GoesOn, SameAt, SameResult}
use Rattle.diff_laws.specs.Same.{with_rules, without_events}

-- ---- steps

-- the same but for events
abbrev pub SameState : PathState → PathState → Type 0
SameState s t = (s.facts ≡ t.facts) × (s.info ≡ t.info)

-- the same, where a dropped packet's facts don't count
abbrev pub SameStep : StepResult → StepResult → Type 0
SameStep (Continue s) (Continue t) = SameState s t
SameStep (Drop cause s) (Drop other t) = (cause ≡ other) × (s.info ≡ t.info)
SameStep _ _ = ⊥

-- two steps lead from these states to the same results
abbrev pub LeadAlike : Step → Step → PathState → PathState → Type 0
LeadAlike step other s t = (r q : StepResult) → step s r → other t q → SameStep r q

-- what follows leads alike wherever the first step continues
abbrev GoOnAlike : Step → Step → Step → PathState → Type 0
GoOnAlike first second rest s =
    (u v : PathState) → first s (Continue u) → SameState u v → LeadAlike second rest u v

then_alike : (first other second rest : Step) (s t : PathState) → LeadAlike first other s t → GoOnAlike first second rest s
    → LeadAlike (first ⨾ second) (other ⨾ rest) s t
then_alike first other second rest s t one two r q (stops c u x) (stops d v y) = one (Drop c u) (Drop d v) x y
then_alike first other second rest s t one two r q (stops c u x) (goes_on v q' y z) =
    absurd (one (Drop c u) (Continue v) x y)
then_alike first other second rest s t one two r q (goes_on u r' x z) (stops d v y) =
    absurd (one (Continue u) (Drop d v) x y)
then_alike first other second rest s t one two r q (goes_on u r' x z) (goes_on v q' y w) =
    two u v x (one (Continue u) (Continue v) x y) r' q' z w

-- ---- what states come to

ap_both : {A B C : Type 0} (g : A → B → C) {a c : A} {b d : B} → a ≡ c → b ≡ d → g a b ≡ g c d
ap_both g p q = λ i. g (p i) (q i)

with_verdict_alike : (v w : HookVerdict) (s t : PathState) → v ≡ w → (GoesOn v → s.facts ≡ t.facts) → s.info ≡ t.info
    → SameStep (unless_dropped v s) (unless_dropped w t)
with_verdict_alike v w s t same facts info = subst (λ (x : HookVerdict). SameStep (unless_dropped v s) (unless_dropped x t)) same (on v facts)
  where
    on : (v : HookVerdict) → (GoesOn v → s.facts ≡ t.facts) → SameStep (unless_dropped v s) (unless_dropped v t)
    on Dropped facts = (refl, info)
    on _ facts = (facts tt, info)

module _ (setup : Setup) (mappings : List Mapping) where
  destination_alike : (v w : HookVerdict) (s t : PathState) → v ≡ w → (GoesOn v → s.facts ≡ t.facts) → s.info ≡ t.info
      → SameStep (destination_nat_result v (after_destination_nat setup.network mappings s.facts s.info v) s)
      (destination_nat_result w (after_destination_nat setup.network mappings t.facts t.info w) t)
  destination_alike v w s t same facts info =
      subst (λ (x : HookVerdict). SameStep (destination_nat_result v (after_destination_nat setup.network mappings s.facts s.info v) s)
      (destination_nat_result x (after_destination_nat setup.network mappings t.facts t.info x) t)) same (on v facts)
    where
      on : (v : HookVerdict) → (GoesOn v → s.facts ≡ t.facts)
          → SameStep (destination_nat_result v (after_destination_nat setup.network mappings s.facts s.info v) s)
          (destination_nat_result v (after_destination_nat setup.network mappings t.facts t.info v) t)
      on Dropped facts = (refl, info)
      on v facts = (
        ap_both (λ (f : Facts) (i : CtInfo). facts_after_destination_nat (after_destination_nat setup.network mappings f i v) f)
            (facts tt) info,
        ap_both (λ (f : Facts) (i : CtInfo). after_destination_nat setup.network mappings f i v) (facts tt) info,
      )

  source_alike : (v w : HookVerdict) (s t : PathState) → v ≡ w → (GoesOn v → s.facts ≡ t.facts) → s.info ≡ t.info
      → SameStep (source_nat_result v (after_source_nat setup.network mappings s.facts s.info v) s)
      (source_nat_result w (after_source_nat setup.network mappings t.facts t.info w) t)
  source_alike v w s t same facts info =
      subst (λ (x : HookVerdict). SameStep (source_nat_result v (after_source_nat setup.network mappings s.facts s.info v) s)
      (source_nat_result x (after_source_nat setup.network mappings t.facts t.info x) t)) same (on v facts)
    where
      found : (v : HookVerdict) (o : Option CtInfo) → s.facts ≡ t.facts → GoesOn v
          → SameStep (source_nat_result v o s) (source_nat_result v o t)
      found Dropped o facts on = absurd on
      found v None facts on = (refl, info)
      found v (Some next) facts on = (ap (facts_after_source_nat next) facts, refl)

      on : (v : HookVerdict) → (GoesOn v → s.facts ≡ t.facts)
          → SameStep (source_nat_result v (after_source_nat setup.network mappings s.facts s.info v) s)
          (source_nat_result v (after_source_nat setup.network mappings t.facts t.info v) t)
      on Dropped facts = (refl, info)
      on v facts = subst (λ (o : Option CtInfo). SameStep (source_nat_result v
          (after_source_nat setup.network mappings s.facts s.info v) s) (source_nat_result v o t))
          (ap_both (λ (f : Facts) (i : CtInfo). after_source_nat setup.network mappings f i v) (facts tt) info)
          (found v (after_source_nat setup.network mappings s.facts s.info v) (facts tt) tt)

-- the state with these events
abbrev with_events : List Event → PathState → PathState
with_events es t = record t { events = es }

routed_so : (setup : Setup) (es : List Event) (t : PathState) → SameStep (routed setup (with_events es t)) (routed setup t)
routed_so setup es t =
    by_owner (is_own setup.network t.facts.packet.destination) (route setup.network t.facts.packet.destination)
  where
    by_ttl : (spent : Bool) (u v : PathState) → SameState u v
        → SameStep (if spent then Drop causes.Ttl (with_events es t) else Continue u) (if spent then Drop causes.Ttl t else Continue v)
    by_ttl true u v like = (refl, refl)
    by_ttl false u v like = like

    by_route : (way : Option ℕ) → SameStep (forwarded_by setup way (with_events es t)) (forwarded_by setup way t)
    by_route None = (refl, refl)
    by_route (Some interface) = by_ttl (nat_lt t.facts.packet.ttl 2) _ _ (refl, refl)

    by_owner : (own : Bool) (way : Option ℕ)
        → SameStep (if own then Continue (with_events es t) else forwarded_by setup way (with_events es t))
        (if own then Continue t else forwarded_by setup way t)
    by_owner true way = (refl, refl)
    by_owner false way = by_route way

routed_alike : (setup : Setup) (s t : PathState) → SameState s t → SameStep (routed setup s) (routed setup t)
routed_alike setup s t same =
    let is : s ≡ with_events s.events t = λ i. record { facts = same.0 i; info = same.1 i; events = s.events } in
    subst (λ (x : PathState). SameStep (routed setup x) (routed setup t)) (sym is) (routed_so setup s.events t)

confirmed_alike : (others : List ConntrackEntry) (s t : PathState) → SameState s t
    → SameStep (confirmed others s.info s) (confirmed others t.info t)
confirmed_alike others s t same =
    subst (λ (x : CtInfo). SameStep (confirmed others s.info s) (confirmed others x t)) same.1 (by_info s.info)
  where
    by_refusal : (refused : Option Cause) → SameStep (unless_refused refused s) (unless_refused refused t)
    by_refusal None = same
    by_refusal (Some cause) = (refl, same.1)

    by_info : (info : CtInfo) → SameStep (confirmed others info s) (confirmed others info t)
    by_info (New d) = by_refusal (refusal (reply_to d) others)
    by_info _ = same

looked_up_alike : (live : List ConntrackEntry) (p : List ℕ) (s t : PathState) → SameState s t
    → SameState (with_info (looked_up_info s.facts.ct live p) s) (with_info (looked_up_info t.facts.ct live p) t)
looked_up_alike live p s t same = (
  ap (λ (f : Facts). record f { ct = ct_facts_of (looked_up_info f.ct live p) }) same.0,
  ap (λ (f : Facts). looked_up_info f.ct live p) same.0,
)

pub entry_alike : (now : ℕ) (live : List ConntrackEntry) (p : List ℕ) (r q : StepResult) → SameStep r q
    → without_events (entry_of_packet now live p r) ≡ without_events (entry_of_packet now live p q)
entry_alike now live p (Continue s) (Continue t) same =
    ap_both (λ (f : Facts) (i : CtInfo). without_events (entry_of_packet now live p (Continue (record { facts = f; info = i; events = [] }))))
    same.0 same.1
entry_alike now live p (Drop cause s) (Drop other t) same =
    ap_both (λ (c : Cause) (i : CtInfo). without_events (entry_of_packet now live p (Drop c (record { facts = s.facts; info = i; events = [] }))))
    same.0 same.1
entry_alike now live p (Continue s) (Drop other t) same = absurd same
entry_alike now live p (Drop cause s) (Continue t) same = absurd same

-- ---- the path

module _ (setup : Setup) (new : List TableTree) where
  abbrev after : Setup
  after = with_rules new setup

  abbrev Does : HookStage → Facts → Type 0
  Does = SameAt setup.network setup.rules new

  -- whatever events are before
  results_same : (stage : HookStage) (f : Facts) (es later : List Event) → Does stage f → (end other : HookResult)
      → Stage stage setup.network setup.rules f es end → Stage stage setup.network new f later other → SameResult end other
  results_same stage f es later does end other x y =
      let a = chains_blind setup.network setup.rules (chains_in_stage stage) f es [] end x in
      let b = chains_blind setup.network new (chains_in_stage stage) f later [] other y in
      let k : SameResult a.0 b.0 = does a.0 b.0 a.1 b.1 in
      record {
        verdict = a.2.0 ∙ k.verdict ∙ sym b.2.0;
        facts = λ on. a.2.1 ∙ k.facts (subst GoesOn a.2.0 on) ∙ sym b.2.1;
      }

  stage_alike : (stage : HookStage) (s t : PathState) → Does stage s.facts → SameState s t
      → LeadAlike (RunsStage setup stage) (RunsStage after stage) s t
  stage_alike stage s t does same r q x y =
      let k : SameResult x.end y.end = results_same stage s.facts s.events t.events does x.end y.end x.ran
      (subst (λ (f : Facts). Stage stage setup.network new f t.events y.end) (sym same.0) y.ran) in
      subst (SameStep r) (sym y.is) (subst (λ (z : StepResult). SameStep z (unless_dropped y.end.verdict (after_chains y.end t))) (sym x.is)
      (with_verdict_alike x.end.verdict y.end.verdict (after_chains x.end s) (after_chains y.end t) k.verdict k.facts same.1))

  -- chains of type nat have the same results, where they run
  nat_same : (stage : HookStage) (info : CtInfo) (f : Facts) (es later : List Event)
      → ((d : NewConnection) → info ≡ New d → Does stage f) → (end other : HookResult)
      → NatChains setup stage info f es end → NatChains after stage info f later other → SameResult end other
  nat_same stage (New d) f es later does end other x y = results_same stage f es later (does d refl) end other x y
  nat_same stage info f es later does end other x y =
      let e : record { verdict = Accepted; facts = f; events = es } ≡ end = sym x in
      let o : record { verdict = Accepted; facts = f; events = later } ≡ other = sym y in
      subst (SameResult end) o (subst (λ (z : HookResult). SameResult z (record { verdict = Accepted; facts = f; events = later })) e
      (record { verdict = refl; facts = λ on. refl }))

  module _ (mappings : List Mapping) where
    -- the results of chains of type nat, from states alike
    nat_results : (stage : HookStage) (s t : PathState) → SameState s t → ((d : NewConnection) → s.info ≡ New d → Does stage s.facts)
        → (end other : HookResult) → NatChains setup stage s.info s.facts s.events end
        → NatChains after stage t.info t.facts t.events other → SameResult end other
    nat_results stage s t same does end other x y = nat_same stage s.info s.facts s.events t.events does end other x
        (subst (λ (f : Facts). NatChains after stage s.info f t.events other) (sym same.0)
        (subst (λ (i : CtInfo). NatChains after stage i t.facts t.events other) (sym same.1) y))

    destination_leads : (s t : PathState) → SameState s t
        → ((d : NewConnection) → s.info ≡ New d → Does stages.PreroutingNat s.facts)
        → LeadAlike (DestinationNat setup mappings) (DestinationNat after mappings) s t
    destination_leads s t same does r q x y =
        let k : SameResult x.end y.end = nat_results stages.PreroutingNat s t same does x.end y.end x.ran y.ran in
        subst (SameStep r) (sym y.is) (subst (λ (z : StepResult). SameStep z (destination_nat_result y.end.verdict
        (after_destination_nat setup.network mappings y.end.facts t.info y.end.verdict) (after_chains y.end t))) (sym x.is)
        (destination_alike setup mappings x.end.verdict y.end.verdict (after_chains x.end s) (after_chains y.end t) k.verdict k.facts
        same.1))

    source_leads : (s t : PathState) → SameState s t
        → ((d : NewConnection) → s.info ≡ New d → Does stages.PostroutingNat s.facts)
        → LeadAlike (SourceNat setup mappings) (SourceNat after mappings) s t
    source_leads s t same does r q x y =
        let k : SameResult x.end y.end = nat_results stages.PostroutingNat s t same does x.end y.end x.ran y.ran in
        subst (SameStep r) (sym y.is) (subst (λ (z : StepResult). SameStep z (source_nat_result y.end.verdict
        (after_source_nat setup.network mappings y.end.facts t.info y.end.verdict) (after_chains y.end t))) (sym x.is)
        (source_alike setup mappings x.end.verdict y.end.verdict (after_chains x.end s) (after_chains y.end t) k.verdict k.facts
        same.1))

  -- of a packet among these live connections
  module _ (live : List ConntrackEntry) (a : ReceivedPacket)
      (does : (stage : HookStage) (others : List ConntrackEntry) (s : PathState) → StandsBefore setup live a stage others s
      → IsSeenBy stage s.info → Does stage s.facts)
    where
      seen_new : (stage : HookStage) (others : List ConntrackEntry) (s : PathState) → StandsBefore setup live a stage others s
          → ((d : NewConnection) → IsSeenBy stage (New d)) → (d : NewConnection) → s.info ≡ New d → Does stage s.facts
      seen_new stage others s stands seen d is = does stage others s stands (subst (IsSeenBy stage) (sym is) (seen d))

      -- the stages behind routing
      beyond_leads : (others : List ConntrackEntry) (output : Option Interface) (s t : PathState)
          → StandsBefore setup live a (stage_behind_routing output) others s → SameState s t
          → LeadAlike (InputOrForward setup (mappings_in others) output) (InputOrForward after (mappings_in others) output) s t
      beyond_leads others None s t stands same = stage_alike stages.Input s t (does stages.Input others s stands tt) same
      beyond_leads others (Some output) s t stands same =
          then_alike _ _ _ _ s t (stage_alike stages.Forward s t (does stages.Forward others s stands tt) same) (λ u v x like.
          let second = coming.forwarded others s u stands x in
          then_alike _ _ _ _ u v (stage_alike stages.PostroutingBeforeNat u v (does stages.PostroutingBeforeNat others u second tt) like)
          (λ u2 v2 x2 like2.
          let third = coming.before_source_nat others u u2 second x2 in
          then_alike _ _ _ _ u2 v2 (source_leads (mappings_in others) u2 v2 like2
          (seen_new stages.PostroutingNat others u2 third (λ d. tt))) (λ u3 v3 x3 like3.
          let fourth = coming.behind_source_nat others u2 u3 third x3 in
          stage_alike stages.PostroutingAfterNat u3 v3 (does stages.PostroutingAfterNat others u3 fourth tt) like3)))

      -- the state in which it stood before the last stage of prerouting
      record PassedNat (others : List ConntrackEntry) (u : PathState) : Type 0 where
        pub state : PathState
        pub stands : StandsBefore setup live a stages.PreroutingAfterNat others state
        pub passes : RunsStage setup stages.PreroutingAfterNat state (Continue u)

      parted : (first second : Step) (s u : PathState) → (first ⨾ second) s (Continue u)
          → (t : PathState) × first s (Continue t) × second t (Continue u)
      parted first second s u (goes_on t r x y) = (t, x, y)

      passed_nat : (others : List ConntrackEntry) (s u : PathState) → StandsBefore setup live a stages.PreroutingBeforeNat others s
          → Prerouting setup (mappings_in others) s (Continue u) → PassedNat others u
      passed_nat others s u stands x =
          let one = parted _ _ s u x in
          let two = parted _ _ one.0 u one.2 in
          record {
            state = two.0;
            stands = coming.behind_destination_nat others one.0 two.0
                (coming.before_destination_nat others s one.0 stands one.1) two.1;
            passes = two.2;
          }

      prerouting_leads : (others : List ConntrackEntry) (s t : PathState)
          → StandsBefore setup live a stages.PreroutingBeforeNat others s → SameState s t
          → LeadAlike (Prerouting setup (mappings_in others)) (Prerouting after (mappings_in others)) s t
      prerouting_leads others s t stands same =
          then_alike _ _ _ _ s t (stage_alike stages.PreroutingBeforeNat s t (does stages.PreroutingBeforeNat others s stands tt) same)
          (λ u v x like.
          let second = coming.before_destination_nat others s u stands x in
          then_alike _ _ _ _ u v (destination_leads (mappings_in others) u v like
          (seen_new stages.PreroutingNat others u second (λ d. tt))) (λ u2 v2 x2 like2.
          let third = coming.behind_destination_nat others u u2 second x2 in
          stage_alike stages.PreroutingAfterNat u2 v2 (does stages.PreroutingAfterNat others u2 third tt) like2))

      routing_leads : (s t : PathState) → SameState s t → LeadAlike (Routing setup) (Routing after) s t
      routing_leads s t same r q x y = subst (SameStep r) (sym y)
          (subst (λ (z : StepResult). SameStep z (routed setup t)) (sym x) (routed_alike setup s t same))

      after_routing_leads : (others : List ConntrackEntry) (s t : PathState)
          → StandsBefore setup live a (stage_behind_routing s.facts.output) others s → SameState s t
          → LeadAlike (AfterRouting setup (mappings_in others)) (AfterRouting after (mappings_in others)) s t
      after_routing_leads others s t stands same r q x y = beyond_leads others s.facts.output s t stands same r q x
          (subst (λ (f : Facts). InputOrForward after (mappings_in others) f.output t q) (sym same.0) y)

      hooks_lead : (others : List ConntrackEntry) (s t : PathState) → StandsBefore setup live a stages.PreroutingBeforeNat others s
          → SameState s t → LeadAlike (Hooks setup (mappings_in others)) (Hooks after (mappings_in others)) s t
      hooks_lead others s t stands same =
          then_alike _ _ _ _ s t (prerouting_leads others s t stands same) (λ u v x like.
          let passed = passed_nat others s u stands x in
          then_alike _ _ _ _ u v (routing_leads u v like) (λ u2 v2 x2 like2.
          after_routing_leads others u2 v2 (coming.routed others passed.state u u2 passed.stands passed.passes x2) like2))

      confirm_leads : (others : List ConntrackEntry) (s t : PathState) → SameState s t
          → LeadAlike (Confirm others) (Confirm others) s t
      confirm_leads others s t same r q x y = subst (SameStep r) (sym y)
          (subst (λ (z : StepResult). SameStep z (confirmed others t.info t)) (sym x) (confirmed_alike others s t same))

      looked_up_leads : (s t : PathState) → StandsBefore setup live a stages.PreroutingBeforeNat (others_beside s.info live a.packet) s
          → SameState s t → LeadAlike (AfterLookUp setup live a.packet) (AfterLookUp after live a.packet) s t
      looked_up_leads s t stands same r q x y =
          let others = others_beside s.info live a.packet in
          then_alike _ _ _ _ s t (hooks_lead others s t stands same) (λ u v z like. confirm_leads others u v like) r q x
          (subst (λ (i : CtInfo). HooksAndConfirm after (others_beside i live a.packet) t q) (sym same.1) y)

      look_up_leads : (s t : PathState) → SameState s t → LeadAlike (LookUp live a.packet) (LookUp live a.packet) s t
      look_up_leads s t same r q x y = subst (SameStep r) (sym y) (subst (λ (z : StepResult). SameStep z
          (Continue (with_info (looked_up_info t.facts.ct live a.packet) t))) (sym x) (looked_up_alike live a.packet s t same))

      abbrev start : PathState
      start = on_arrival a.packet (interface_facts setup.network a.interface)

      pub path_leads : LeadAlike (Path setup live a.packet) (Path after live a.packet) start start
      path_leads =
          then_alike _ _ _ _ start start (stage_alike stages.PreroutingRaw start start
          (does stages.PreroutingRaw live start coming.arrived tt) (refl, refl)) (λ u v x like.
          then_alike _ _ _ _ u v (look_up_leads u v like) (λ u2 v2 x2 like2.
          looked_up_leads u2 v2 (coming.looked_up start u u2 coming.arrived x x2) like2))
