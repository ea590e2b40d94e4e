-- Cases, and the sets that they are made of.
use Rattle.std.proofs.Common.{◌≡◌, ◌∙◌, ◌&&◌, ◌||◌, not, nat_le, ℕ, ◌*◌, ◌+◌, ◌^◌, List, []}
use Rattle.std.proofs.Common.{◌∷◌, ◌++◌, map, drop, Bool, true, false, cond, refl, ap, sym, subst, arith}
use Rattle.std.proofs.Common.{length, get_or, ◌<◌, ◌≤◌, Result, IfOk, Option, Some, None, is_some}
use Rattle.std.specs.Option.{option_map, option_and_then, option_or}
use Rattle.std.proofs.lemmas.Bool.Decides.{nat_tests}
use Rattle.std.proofs.lemmas.List.{drop_all, drop_more}
use Rattle.packet_sets.specs.declared.fault.SetError.{SetError}
use Rattle.packet_sets.specs.declared.packet_set.PacketSet.{PacketSet}
use Rattle.packet_sets.specs.Sets.{DiagramsView, IsSet, Keeps, Means, holds}
use Rattle.set_intervals.specs.declared.range.Range.{Range}
use Rattle.set_intervals.specs.Pairs.{first_value, in_range}
use Rattle.nft_values.specs.Values.{span_of}
use Rattle.nft_tree.specs.declared.selector.Selector.{Selector}
use Rattle.nft_tree.specs.declared.statement.MarkField.{MarkField}
use Rattle.nft_tree.specs.declared.statement.Operator.TheVariants as operators
use Rattle.nft_tree.specs.ValueTypes.{selector_width}
use Rattle.rule_meaning.specs.declared.facts.Facts.{Facts}
use Rattle.rule_meaning.specs.declared.event.NatAction.TheVariants as nat
use Rattle.rule_meaning.specs.declared.event.RuleVerdict.TheVariants.{Translate}
use Rattle.rule_meaning.specs.Matches.{compares, tests}
use Rattle.rule_meaning.specs.Selectors.{joined_value, value}
use Rattle.rule_meaning.specs.Statements.{StatementEffect, passes_if, with_value, writes}
use Rattle.fact_sets.specs.declared.cases.Case.{Case}
use Rattle.action_cases.specs.declared.cases.Outcome.{Outcome}
use Rattle.action_cases.specs.declared.cases.Outcome.TheVariants as outcomes
use Rattle.fact_sets.specs.declared.readings.Reader.{Reader}
use Rattle.fact_sets.specs.declared.written.MarkSource.{MarkSource}
use Rattle.fact_sets.specs.declared.written.MarkSource.TheVariants as sources
use Rattle.fact_sets.specs.Cases.{AreCases, picked, seen}
use Rattle.action_cases.specs.Effects.{Decides, outcome_effect}
use Rattle.fact_sets.specs.Facts.{mark_number}
use Rattle.action_cases.specs.steps.Picking.{Always, Picks, ReadsMarks, with_outcome}
use Rattle.list_laws.specs.Elements.{or-assoc}
use Rattle.fact_sets.proofs.SetLaws.{without_ok, ok_as}

-- ---- tests of values

pub single : (s : Selector) (f : Facts) → joined_value (s ∷ []) f ≡ value s f
single s f = elim (value s f) as (λ v. option_and_then (λ n. Some (0 * 2 ^ selector_width s + n)) v ≡ v) [
  | None ↦ refl
  | Some n ↦ ap Some (omega arith)
]

pub both_pass : (v : Option ℕ) (t u : ℕ → Bool) → tests v t && tests v u ≡ tests v (λ n. t n && u n)
both_pass None t u = refl
both_pass (Some n) t u = refl

pub some_passes : (v : Option ℕ) (t : ℕ → Bool) → tests v (λ n. true) && not (tests v t) ≡ tests v (λ n. not (t n))
some_passes None t = refl
some_passes (Some n) t = refl

pub present_is : (v : Option ℕ) → tests v (nat_le 0) ≡ tests v (λ n. true)
present_is None = refl
present_is (Some n) = grind (arith, nat_tests)

pub unequal_is : (v : Option ℕ) (r : Range) → tests v (λ n. true) && not (tests v (in_range r)) ≡ tests v (compares operators.Unequal (span_of r))
unequal_is None r = refl
unequal_is (Some n) r = refl

pub below_is : (v : Option ℕ) (r : Range) → tests v (λ n. true) && not (tests v (nat_le r.low)) ≡ tests v (compares operators.Below (span_of r))
below_is None r = refl
below_is (Some n) r = grind (arith, nat_tests)

pub above_is : (v : Option ℕ) (r : Range) → tests v (λ n. true) && not (tests v (λ n. nat_le n r.high)) ≡ tests v (compares operators.Above (span_of r))
above_is None r = refl
above_is (Some n) r = grind (arith, nat_tests)

pub either_passes : (v : Option ℕ) (t u : ℕ → Bool) → tests v t || tests v u ≡ tests v (λ n. t n || u n)
either_passes None t u = refl
either_passes (Some n) t u = refl

-- ---- sets of the diagrams before

pub set_kept : (a b : DiagramsView) (set : PacketSet) → Keeps a b → IsSet a set → Means b set (holds a set)
set_kept a b set k is = record { is_set = k.sets set is; same = λ f. k.same set f is }

pub others_ok : (a b new : DiagramsView) (all set : PacketSet) (p : (ℕ → Bool) → Bool) (r : Result PacketSet SetError) → Keeps a b → IsSet a set
    → Means b all p → IfOk r (λ s. Means new s (λ f. holds b all f && not (holds b set f))) → IfOk r (λ s. Means new s (λ f. p f && not (holds a set f)))
others_ok a b new all set p r k is ha ok = without_ok b new all set p (holds a set) r ha (set_kept a b set k is) ok

-- what isn't in a set that means the test
pub not_ok : (a new : DiagramsView) (set : PacketSet) (p q r : (ℕ → Bool) → Bool) (res : Result PacketSet SetError) → Means a set q
    → ((f : ℕ → Bool) → p f && not (q f) ≡ r f) → IfOk res (λ s. Means new s (λ f. p f && not (holds a set f))) → IfOk res (λ s. Means new s r)
not_ok a new set p q r res is e ok = ok_as new _ _ res (λ f. ap (λ x. p f && not x) (is.same f) ∙ e f) ok

-- ---- what cases pick

pub picked_kept : {V : Type 0} (a b : DiagramsView) (cs : List (Case V)) (f : ℕ → Bool) → Keeps a b → AreCases a cs → picked b cs f ≡ picked a cs f
picked_kept a b [] f k are = refl
picked_kept a b (c ∷ cs) f k are =
    ap (λ x. cond x (Some c.outcome) (picked b cs f)) (k.same c.set f are.0) ∙ ap (λ x. cond (holds a c.set f) (Some c.outcome) x)
    (picked_kept a b cs f k are.1)

pub are_kept : {V : Type 0} (a b : DiagramsView) (cs : List (Case V)) → Keeps a b → AreCases a cs → AreCases b cs
are_kept a b [] k are = tt
are_kept a b (c ∷ cs) k are = (k.sets c.set are.0, are_kept a b cs k are.1)

pub picked_more : {V : Type 0} (d : DiagramsView) (cs : List (Case V)) (c : Case V) (f : ℕ → Bool)
    → picked d (cs ++ c ∷ []) f ≡ option_or (picked d cs f) (cond (holds d c.set f) (Some c.outcome) None)
picked_more d [] c f = refl
picked_more d (x ∷ xs) c f = elim (holds d x.set f) as (λ b. cond b (Some x.outcome) (picked d (xs ++ c ∷ []) f)
    ≡ option_or (cond b (Some x.outcome) (picked d xs f)) (cond (holds d c.set f) (Some c.outcome) None)) [
      | true ↦ refl
      | false ↦ picked_more d xs c f
    ]

pub are_more : {V : Type 0} (d : DiagramsView) (cs : List (Case V)) (c : Case V) → AreCases d cs → IsSet d c.set → AreCases d (cs ++ c ∷ [])
are_more d [] c are is = (is, tt)
are_more d (x ∷ xs) c are is = (are.0, are_more d xs c are.1 is)

picked-map : {V W : Type 0} (d : DiagramsView) (g : V → W) (cs : List (Case V)) (f : ℕ → Bool)
    → picked d (map (with_outcome g) cs) f ≡ option_map g (picked d cs f)
picked-map d g [] f = refl
picked-map d g (c ∷ cs) f = elim (holds d c.set f) as (λ b. cond b (Some (g c.outcome)) (picked d (map (with_outcome g) cs) f)
    ≡ option_map g (cond b (Some c.outcome) (picked d cs f))) [ true ↦ refl | false ↦ picked-map d g cs f ]

are-map : {V W : Type 0} (d : DiagramsView) (g : V → W) (cs : List (Case V)) → AreCases d cs → AreCases d (map (with_outcome g) cs)
are-map d g [] are = tt
are-map d g (c ∷ cs) are = (are.0, are-map d g cs are.1)

-- cases with other outcomes decide, where the outcomes have the wanted effect
pub decides_map : {V : Type 0} (d : DiagramsView) (r : Reader) (g : V → Outcome) (cs : List (Case V)) (all : List (Case Outcome))
    (effect : Facts → StatementEffect) → all ≡ map (with_outcome g) cs → AreCases d cs
    → ((f : ℕ → Bool) → with_value (λ v. outcome_effect r (g v) f) (picked d cs f) ≡ effect (seen r f)) → Decides d r all effect
decides_map d r g cs all effect is are e = subst (λ xs. Decides d r xs effect) (sym is) (record {
  are = are-map d g cs are;
  same = λ f.
      ap (with_value (λ o. outcome_effect r o f)) (picked-map d g cs f)
      ∙ elim (picked d cs f) as (λ o. with_value (λ o. outcome_effect r o f) (option_map g o) ≡ with_value (λ v. outcome_effect r (g v) f) o) [
        | None ↦ refl
        | Some v ↦ refl
      ] ∙ e f;
})

-- one case
pub decides_test : (d : DiagramsView) (r : Reader) (set : PacketSet) (all : List (Case Outcome))
    (p : Facts → Bool) → all ≡ record { set = set; outcome = outcomes.Passes } ∷ []
    → Means d set (λ f. p (seen r f)) → Decides d r all (λ f. passes_if (p f))
decides_test d r set all p is means = subst (λ xs. Decides d r xs (λ f. passes_if (p f))) (sym is) (record {
  are = (means.is_set, tt);
  same = λ f.
      ap (λ b. with_value (λ o. outcome_effect r o f) (cond b (Some outcomes.Passes) None)) (means.same f)
      ∙ elim (p (seen r f)) as (λ b. with_value (λ o. outcome_effect r o f) (cond b (Some outcomes.Passes) None) ≡ passes_if b) [ true ↦ refl | false ↦ refl ];
})

pub decides_always : (d : DiagramsView) (r : Reader) (all : List (Case Outcome)) (o : Outcome) (effect : Facts → StatementEffect) → Always d all o
    → ((f : ℕ → Bool) → outcome_effect r o f ≡ effect (seen r f)) → Decides d r all effect
decides_always d r all o effect is e = subst (λ xs. Decides d r xs effect) (sym is.one) (record {
  are = (is.all.is_set, tt);
  same = λ f.
      ap (λ b. with_value (λ o. outcome_effect r o f) (cond b (Some is.case.outcome) None)) (is.all.same f)
      ∙ ap (λ o. outcome_effect r o f) is.is ∙ e f;
})

-- ---- tables, range by range

table-split : {V : Type 0} (v : Option ℕ) (x : Range × V) (rest : List (Range × V))
    → tests v (λ n. is_some (first_value (x ∷ rest) n)) ≡ tests v (in_range x.0) || tests v (λ n. is_some (first_value rest n))
table-split None x rest = refl
table-split (Some n) x rest = elim (in_range x.0 n) as (λ b. is_some (cond b (Some x.1) (first_value rest n)) ≡ b || is_some (first_value rest n)) [
  | true ↦ refl
  | false ↦ refl
]

pub table_step : {V : Type 0} (a b new : DiagramsView) (set one all : PacketSet) (v : (ℕ → Bool) → Option ℕ) (x : Range × V) (rest : List (Range × V))
    (total : (ℕ → Bool) → Bool) → Keeps a b → IsSet a set → Means b one (λ f. tests (v f) (in_range x.0))
    → Means new all (λ f. holds b set f || holds b one f)
    → ((f : ℕ → Bool) → holds a set f || tests (v f) (λ n. is_some (first_value (x ∷ rest) n)) ≡ total f) → (f : ℕ → Bool)
    → holds new all f || tests (v f) (λ n. is_some (first_value rest n)) ≡ total f
table_step a b new set one all v x rest total k is ho ha h f =
    ap (λ y. y || tests (v f) (λ n. is_some (first_value rest n))) (ha.same f ∙ ap (λ y. y || holds b one f) (k.same set f is)
    ∙ ap (λ y. holds a set f || y) (ho.same f))
    ∙ sym (or-assoc (holds a set f) (tests (v f) (in_range x.0)) (tests (v f) (λ n. is_some (first_value rest n))))
    ∙ ap (λ y. holds a set f || y) (sym (table-split (v f) x rest)) ∙ h f

found-split : {V : Type 0} (v : Option ℕ) (x : Range × V) (rest : List (Range × V))
    → option_and_then (first_value (x ∷ rest)) v ≡ option_or (cond (tests v (in_range x.0)) (Some x.1) None) (option_and_then (first_value rest) v)
found-split None x rest = refl
found-split (Some n) x rest = elim (in_range x.0 n) as (λ b. cond b (Some x.1) (first_value rest n) ≡ option_or (cond b (Some x.1) None) (first_value rest n)) [
  | true ↦ refl
  | false ↦ refl
]

option_or-assoc : {A : Type 0} (x y z : Option A) → option_or (option_or x y) z ≡ option_or x (option_or y z)
option_or-assoc None y z = refl
option_or-assoc (Some x) y z = refl

pub found_step : {V : Type 0} (a b : DiagramsView) (cs all : List (Case V)) (c : Case V) (v : (ℕ → Bool) → Option ℕ) (x : Range × V) (rest : List (Range × V))
    (total : (ℕ → Bool) → Option V) → all ≡ cs ++ c ∷ [] → c.outcome ≡ x.1 → Keeps a b → AreCases a cs → Means b c.set (λ f. tests (v f) (in_range x.0))
    → ((f : ℕ → Bool) → option_or (picked a cs f) (option_and_then (first_value (x ∷ rest)) (v f)) ≡ total f) → (f : ℕ → Bool)
    → option_or (picked b all f) (option_and_then (first_value rest) (v f)) ≡ total f
found_step a b cs all c v x rest total is o k are hc h f =
    ap (λ y. option_or y (option_and_then (first_value rest) (v f))) (ap (λ l. picked b l f) is ∙ picked_more b cs c f
    ∙ ap (λ y. option_or y (cond (holds b c.set f) (Some c.outcome) None)) (picked_kept a b cs f k are)
    ∙ ap (λ y. option_or (picked a cs f) (cond y (Some c.outcome) None)) (hc.same f)
    ∙ ap (λ y. option_or (picked a cs f) (cond (tests (v f) (in_range x.0)) (Some y) None)) o)
    ∙ option_or-assoc (picked a cs f) (cond (tests (v f) (in_range x.0)) (Some x.1) None) (option_and_then (first_value rest) (v f))
    ∙ ap (option_or (picked a cs f)) (sym (found-split (v f) x rest)) ∙ h f

pub next : {X : Type 0} (xs : List X) (i : ℕ) (x : X) → i < length xs → x ≡ get_or xs i x → drop i xs ≡ x ∷ drop (i + 1) xs
next xs i x inside is = drop_more xs i x inside ∙ ap (λ y. y ∷ drop (i + 1) xs) (sym is)

or-end : (b : Bool) (v : Option ℕ) → b || tests v (λ n. false) ≡ b
or-end true v = refl
or-end false None = refl
or-end false (Some n) = refl

pub table_end : {V : Type 0} (d : DiagramsView) (set : PacketSet) (v : (ℕ → Bool) → Option ℕ) (table : List (Range × V)) (i : ℕ) → length table ≤ i
    → IsSet d set → ((f : ℕ → Bool) → holds d set f || tests (v f) (λ n. is_some (first_value (drop i table) n)) ≡ tests (v f) (λ n. is_some
    (first_value table n))) → Means d set (λ f. tests (v f) (λ n. is_some (first_value table n)))
table_end {V} d set v table i past is h = record {
  is_set = is;
  same = λ f.
      sym (or-end (holds d set f) (v f))
      ∙ subst (λ (l : List (Range × V)). holds d set f || tests (v f) (λ n. is_some (first_value l n)) ≡ tests (v f) (λ n. is_some (first_value table n)))
      (drop_all i table past) (h f);
}

or-none : {A : Type 0} (x : Option A) (v : Option ℕ) → option_or x (option_and_then (λ n. None) v) ≡ x
or-none (Some x) v = refl
or-none None None = refl
or-none None (Some n) = refl

pub found_end : {V : Type 0} (d : DiagramsView) (cs : List (Case V)) (v : (ℕ → Bool) → Option ℕ) (table : List (Range × V)) (i : ℕ) → length table ≤ i
    → AreCases d cs → ((f : ℕ → Bool) → option_or (picked d cs f) (option_and_then (first_value (drop i table)) (v f)) ≡ option_and_then
    (first_value table) (v f)) → Picks d cs (λ f. option_and_then (first_value table) (v f))
found_end {V} d cs v table i past are h = record {
  are = are;
  same = λ f.
      sym (or-none (picked d cs f) (v f))
      ∙ subst (λ (l : List (Range × V)). option_or (picked d cs f) (option_and_then (first_value l) (v f)) ≡ option_and_then (first_value table) (v f))
      (drop_all i table past) (h f);
}

-- ---- marks

abbrev pub case_of : {V : Type 0} → PacketSet → V → Case V
case_of set v = record { set = set; outcome = v }

pub one_reads : (d : DiagramsView) (cs : List (Case MarkSource)) (set : PacketSet) (source : MarkSource) (p : (ℕ → Bool) → Bool)
    (wanted : (ℕ → Bool) → Option ℕ) → cs ≡ case_of set source ∷ [] → Means d set p
    → ((f : ℕ → Bool) → wanted f ≡ cond (p f) (Some (mark_number source f)) None) → ReadsMarks d cs wanted
one_reads d cs set source p wanted is means e = subst (λ xs. ReadsMarks d xs wanted) (sym is) (record {
  are = (means.is_set, tt);
  same = λ f.
      ap (λ b. option_map (λ s. mark_number s f) (cond b (Some source) None)) (means.same f)
      ∙ elim (p f) as (λ b. option_map (λ s. mark_number s f) (cond b (Some source) None) ≡ cond b (Some (mark_number source f)) None) [
        | true ↦ refl
        | false ↦ refl
      ] ∙ sym (e f);
})

pub numbers_read : (d : DiagramsView) (cs : List (Case ℕ)) (all : List (Case MarkSource)) (wanted : (ℕ → Bool) → Option ℕ)
    → all ≡ map (with_outcome sources.Number) cs → Picks d cs wanted → ReadsMarks d all wanted
numbers_read d cs all wanted is picks = subst (λ xs. ReadsMarks d xs wanted) (sym is) (record {
  are = are-map d sources.Number cs picks.are;
  same = λ f.
      ap (option_map (λ s. mark_number s f)) (picked-map d sources.Number cs f)
      ∙ elim (picked d cs f) as (λ o. option_map (λ s. mark_number s f) (option_map sources.Number o) ≡ o) [ None ↦ refl | Some n ↦ refl ] ∙ picks.same f;
})

pub marks_written : (d : DiagramsView) (r : Reader) (field : MarkField) (cs : List (Case MarkSource)) (wanted : (ℕ → Bool) → Option ℕ) (f : ℕ → Bool)
    → ReadsMarks d cs wanted → with_value (λ s. outcome_effect r (outcomes.Marks field s) f) (picked d cs f) ≡ with_value (writes field (seen r f)) (wanted f)
marks_written d r field cs wanted f is =
    elim (picked d cs f) as (λ o. with_value (λ s. outcome_effect r (outcomes.Marks field s) f) o ≡ with_value (writes field (seen r f)) (option_map (λ s.
    mark_number s f) o)) [ None ↦ refl | Some s ↦ refl ] ∙ ap (with_value (writes field (seen r f))) (is.same f)

abbrev pub source_given : ℕ → Outcome
source_given a = outcomes.Gives (Translate (nat.Source a None))

abbrev pub destination_given : ℕ → Outcome
destination_given a = outcomes.Gives (Translate (nat.Destination a None))

-- ---- one selector

pub single_list : (xs : List Selector) (d : Selector) (f : Facts) → 1 ≤ length xs → length xs < 2 → value (get_or xs 0 d) f ≡ joined_value xs f
single_list [] d f some few = absurd (omega arith)
single_list (x ∷ []) d f some few = sym (single x f)
single_list (x ∷ y ∷ ys) d f some few = absurd (omega arith)

pub single_ok : (new : DiagramsView) (r : Reader) (xs : List Selector) (d : Selector) (t : ℕ → Bool) (res : Result PacketSet SetError) → 1 ≤ length xs
    → length xs < 2 → IfOk res (λ s. Means new s (λ f. tests (value (get_or xs 0 d) (seen r f)) t))
    → IfOk res (λ s. Means new s (λ f. tests (joined_value xs (seen r f)) t))
single_ok new r xs d t res some few ok = ok_as new _ _ res (λ f. ap (λ o. tests o t) (single_list xs d (seen r f) some few)) ok
