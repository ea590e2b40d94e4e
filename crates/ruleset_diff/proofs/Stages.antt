-- The differences in a stage, by the cases of both rulesets.
use Rattle.std.proofs.Common.{◌≡◌, ◌∙◌, ◌&&◌, ◌||◌, not, ℕ, Bool, true, false, List, [], ◌∷◌, map, get_or, Contains, ◌⊎◌, inl, inr}
use Rattle.std.proofs.Common.{refl, ap, sym, subst, arith}
use Rattle.std.specs.List.{list_any}
use Rattle.std.proofs.lemmas.Bool.{and_parts, false≢true}
use Rattle.std.proofs.lemmas.List.Elements.{All-contains, Contains-append_cases, Contains-append_right}
use Rattle.nft_tree.specs.Tree.{TableTree}
use Rattle.box_file.specs.Box.{PlantTree}
use Rattle.packet_sets.specs.declared.packet_set.PacketSet.{PacketSet}
use Rattle.packet_sets.specs.Sets.{DiagramsView, Keeps, Means, holds}
use Rattle.rule_meaning.specs.declared.facts.Facts.{Facts}
use Rattle.rule_meaning.specs.declared.facts.Interface.{Interface}
use Rattle.rule_meaning.specs.declared.stage.HookStage.{HookStage}
use Rattle.rule_meaning.specs.Hooks.{HookResult, Stage}
use Rattle.fact_sets.specs.declared.cases.Case.{Case}
use Rattle.fact_sets.specs.Boxes.{HasBits, IsOfBox, NOTHING}
use Rattle.fact_sets.specs.Facts.{facts_of}
use Rattle.fact_sets.proofs.SetLaws.{keeps_trans}
use Rattle.rule_sets.specs.Ends.{outcomes_for}
use Rattle.rule_sets.specs.Interfaces.{interfaces_of}
use Rattle.rule_sets.proofs.Sorting.{outcomes-kept}
use Rattle.chain_ways.specs.BaseWays.{StageEnd, StageRunsAreWays, end_of_chains}
use Rattle.coming_sets.specs.Coming.{can_come_to}
use Rattle.stage_sets.specs.declared.outcome.StageOutcome.{StageOutcome}
use Rattle.stage_sets.specs.Ends.{AreStageEnds, end_with}
use Rattle.rule_meaning.specs.Same.{GoesOn, SameAt, SameResult}
use Rattle.ruleset_diff.specs.declared.differences.Difference.{Difference}
use Rattle.ruleset_diff.specs.Differences.{Comes, DiffersAt, IsAmong, IsDifference}
use Rattle.ruleset_diff.specs.steps.Pieces.{SameOutcome}
use Rattle.ruleset_diff.specs.steps.Pairs.{AreCompared, IsPair, some_differs}
use Rattle.ruleset_diff.specs.steps.Stages.{AddsStage}
use Rattle.ruleset_diff.proofs.Apart.{alike_ends}
use Rattle.ruleset_diff.proofs.BoxBits.{bits_of_box}
use Rattle.ruleset_diff.proofs.Compared.{case_of_outcome, in_one, not_in_none}
use Rattle.ruleset_diff.proofs.Written.{alike_facts, facts_alike}

-- ---- ends by outcomes

or-true : (a b : Bool) → b ≡ true → (a || b) ≡ true
or-true true b e = refl
or-true false b e = e

or-left : (a b : Bool) → a ≡ true → (a || b) ≡ true
or-left a b e = rw e refl

not-true : (b : Bool) → not b ≡ true → b ≡ false
not-true true e = sym e
not-true false e = refl

module _ (f : StageOutcome → StageEnd) (test : StageEnd → Bool) where
  some_mapped : (xs : List StageOutcome) (o : StageOutcome) → Contains xs o → test (f o) ≡ true → list_any test (map f xs) ≡ true
  some_mapped [] o h passes = not_in_none _ o h
  some_mapped (x ∷ xs) o h passes = elim (Contains-append_cases (x ∷ []) xs o h) [
    | inl here ↦ or-left (test (f x)) (list_any test (map f xs)) (ap (λ z. test (f z)) (in_one x o here) ∙ passes)
    | inr there ↦ or-true (test (f x)) (list_any test (map f xs)) (some_mapped xs o there passes)
  ]

  mapped_some : (xs : List StageOutcome) → list_any test (map f xs) ≡ true → (o : StageOutcome) × Contains xs o
  mapped_some [] e = absurd (false≢true e)
  mapped_some (x ∷ xs) e = (x, (0, omega arith, refl))

module _ (interfaces : List Interface) (end : Facts → StageEnd) (d e : DiagramsView) (set : PacketSet) (outcomes : List (Case StageOutcome))
    (ends : AreStageEnds interfaces end d e set outcomes) (p : ℕ → Bool) where
  abbrev came : Facts
  came = facts_of interfaces NOTHING p

  passes_too : (o : StageOutcome) → Contains (outcomes_for e outcomes p) o → (test : StageEnd → Bool) → test (end_with interfaces p o) ≡ true
      → (holds d set p ≡ true) × (test (end came) ≡ true)
  passes_too o h test passes =
      and_parts (holds d set p) (test (end came))
      (sym (ends.they_end p test) ∙ some_mapped (end_with interfaces p) test (outcomes_for e outcomes p) o h passes)

  pub in_set : (o : StageOutcome) → Contains (outcomes_for e outcomes p) o → holds d set p ≡ true
  in_set o h = (passes_too o h (λ z. true) refl).0

  pub ends_with : (o : StageOutcome) → Contains (outcomes_for e outcomes p) o → end_with interfaces p o ≡ end came
  ends_with o h = alike_ends (end_with interfaces p o) (end came) (λ test.
      elim (test (end_with interfaces p o)) as (λ b. test (end_with interfaces p o) ≡ b → b ≡ test (end came)) [
        | true ↦ λ passes. sym (passes_too o h test passes).1
        | false ↦ λ fails. sym (not-true (test (end came)) (passes_too o h (λ z. not (test z)) (ap not fails)).1)
      ] refl)

  pub some_outcome : holds d set p ≡ true → (o : StageOutcome) × Contains (outcomes_for e outcomes p) o
  some_outcome has =
      mapped_some (end_with interfaces p) (λ z. true) (outcomes_for e outcomes p) (ends.they_end p (λ z. true) ∙ ap (λ v. v && true) has)

-- ---- one packet

module _ (network : PlantTree) (old new : List TableTree) (stage : HookStage) (old_ways : StageRunsAreWays network old stage)
    (new_ways : StageRunsAreWays network new stage) (p : ℕ → Bool) where
  abbrev facts : Facts
  facts = facts_of (interfaces_of network) NOTHING p

  -- outcomes by which the packet ends in the stage
  module _ (o n : StageOutcome) (by_old : end_with (interfaces_of network) p o ≡ end_of_chains network old old_ways.order facts)
      (by_new : end_with (interfaces_of network) p n ≡ end_of_chains network new new_ways.order facts) where
    old_verdict : (r : HookResult) → Stage stage network old facts [] r → r.verdict ≡ o.verdict
    old_verdict r runs = (old_ways.ways facts [] r runs).0 ∙ ap (λ e. e.verdict) (sym by_old)

    old_facts : (r : HookResult) → Stage stage network old facts [] r → r.facts ≡ facts_of (interfaces_of network) o.written p
    old_facts r runs = (old_ways.ways facts [] r runs).1 ∙ ap (λ e. e.facts) (sym by_old)

    new_verdict : (r : HookResult) → Stage stage network new facts [] r → r.verdict ≡ n.verdict
    new_verdict r runs = (new_ways.ways facts [] r runs).0 ∙ ap (λ e. e.verdict) (sym by_new)

    new_facts : (r : HookResult) → Stage stage network new facts [] r → r.facts ≡ facts_of (interfaces_of network) n.written p
    new_facts r runs = (new_ways.ways facts [] r runs).1 ∙ ap (λ e. e.facts) (sym by_new)

    pub same_at : SameOutcome o n p → SameAt network old new stage facts
    same_at same = λ r s by_r by_s. record {
      verdict = old_verdict r by_r ∙ same.verdict ∙ sym (new_verdict s by_s);
      facts = λ goes_on. old_facts r by_r
          ∙ facts_alike (interfaces_of network) o.written n.written p (same.written (subst GoesOn (old_verdict r by_r) goes_on))
          ∙ sym (new_facts s by_s);
    }

    same_outcome : (r s : HookResult) → Stage stage network old facts [] r → Stage stage network new facts [] s → SameResult r s → SameOutcome o n p
    same_outcome r s by_r by_s same = record {
      verdict = sym (old_verdict r by_r) ∙ same.verdict ∙ new_verdict s by_s;
      written = λ goes_on. alike_facts (interfaces_of network) o.written n.written p
          (sym (old_facts r by_r) ∙ same.facts (subst GoesOn (sym (old_verdict r by_r)) goes_on) ∙ new_facts s by_s);
    }

    pub differs_at : (SameOutcome o n p → ⊥) → DiffersAt network old new stage facts o.verdict n.verdict
    differs_at differ =
        let r = old_ways.runs facts [] in
        let s = new_ways.runs facts [] in
        record {
          by_old = r.0;
          by_new = s.0;
          is_old = r.1;
          is_new = s.1;
          verdict_by_old = old_verdict r.0 r.1;
          verdict_by_new = new_verdict s.0 s.1;
          differ = λ same. differ (same_outcome r.0 s.0 r.1 s.1 same);
        }

-- ---- all packets that come to the stage

some_difference : (d : DiagramsView) (its : List Difference) (p : ℕ → Bool) → some_differs d its p ≡ true
    → (it : Difference) × Contains its it × (holds d it.set p ≡ true)
some_difference d [] p e = absurd (false≢true e)
some_difference d (x ∷ xs) p e = elim (holds d x.set p) as (λ b. holds d x.set p ≡ b → (b || some_differs d xs p) ≡ true
    → (it : Difference) × Contains (x ∷ xs) it × (holds d it.set p ≡ true)) [
      | true ↦ λ has any. (x, (0, omega arith, refl), has)
      | false ↦ λ has any. let there = some_difference d xs p any in
          (there.0, Contains-append_right (x ∷ []) xs there.0 there.1, there.2)
    ] refl e

module _ (network : PlantTree) (old new : List TableTree) (stage : HookStage) (old_ways : StageRunsAreWays network old stage)
    (new_ways : StageRunsAreWays network new stage) (d1 d2 d3 d4 : DiagramsView) (k12 : Keeps d1 d2) (k23 : Keeps d2 d3) (k34 : Keeps d3 d4)
    (within : Facts → Bool) (coming : PacketSet)
    (means : Means d1 coming (λ p. can_come_to stage (facts_of (interfaces_of network) NOTHING p) && within (facts_of (interfaces_of network) NOTHING p)))
    (olds news : List (Case StageOutcome)) (by_old : AreStageEnds (interfaces_of network) (end_of_chains network old old_ways.order) d1 d2 coming olds)
    (by_new : AreStageEnds (interfaces_of network) (end_of_chains network new new_ways.order) d2 d3 coming news)
    (before after : List Difference) (compared : AreCompared d4 stage olds news before after) where
  k24 : Keeps d2 d4
  k24 = keeps_trans d2 d3 d4 k23 k34

  abbrev facts_for : (ℕ → Bool) → Facts
  facts_for p = facts_of (interfaces_of network) NOTHING p

  old_then : (p : ℕ → Bool) (o : StageOutcome) → Contains (outcomes_for d4 olds p) o → Contains (outcomes_for d2 olds p) o
  old_then p o h = subst (λ l. Contains l o) (outcomes-kept d2 d4 olds p k24 by_old.are) h

  new_then : (p : ℕ → Bool) (o : StageOutcome) → Contains (outcomes_for d4 news p) o → Contains (outcomes_for d3 news p) o
  new_then p o h = subst (λ l. Contains l o) (outcomes-kept d3 d4 news p k34 by_new.are) h

  by_old_end : (p : ℕ → Bool) (o : StageOutcome) → Contains (outcomes_for d4 olds p) o
      → end_with (interfaces_of network) p o ≡ end_of_chains network old old_ways.order (facts_for p)
  by_old_end p o h = ends_with (interfaces_of network) (end_of_chains network old old_ways.order) d1 d2 coming olds by_old p o (old_then p o h)

  by_new_end : (p : ℕ → Bool) (o : StageOutcome) → Contains (outcomes_for d4 news p) o
      → end_with (interfaces_of network) p o ≡ end_of_chains network new new_ways.order (facts_for p)
  by_new_end p o h = ends_with (interfaces_of network) (end_of_chains network new new_ways.order) d2 d3 coming news by_new p o (new_then p o h)

  comes_here : (p : ℕ → Bool) (o : StageOutcome) → Contains (outcomes_for d4 olds p) o → Comes within network stage (facts_for p)
  comes_here p o h =
      let both = and_parts (can_come_to stage (facts_for p)) (within (facts_for p)) (sym (means.same p)
      ∙ in_set (interfaces_of network) (end_of_chains network old old_ways.order) d1 d2 coming olds by_old p o (old_then p o h)) in
      record {
        of_box = bits_of_box (interfaces_of network) p;
        can = both.0;
        assumed = both.1;
      }

  is_difference : (it : Difference) → IsPair d4 stage olds news it → IsDifference network old new within d4 it
  is_difference it pair = record {
    set = pair.set;
    example = pair.example;
    comes = λ p has. subst (λ s. Comes within network s (facts_for p)) (sym pair.here) (comes_here p it.old (pair.by_old p has));
    differ = λ p has. subst (λ s. DiffersAt network old new s (facts_for p) it.old.verdict it.new.verdict) (sym pair.here)
        (differs_at network old new stage old_ways new_ways p it.old it.new (by_old_end p it.old (pair.by_old p has))
        (by_new_end p it.new (pair.by_new p has)) (pair.differ p has));
  }

  covered : (p : ℕ → Bool) → can_come_to stage (facts_for p) ≡ true → within (facts_for p) ≡ true
      → SameAt network old new stage (facts_for p) ⊎ IsAmong network old new d4 compared.more stage (facts_for p)
  covered p can assumed =
      let comes : holds d1 coming p ≡ true = means.same p ∙ ap (λ b. b && within (facts_for p)) can ∙ assumed in
      let one = some_outcome (interfaces_of network) (end_of_chains network old old_ways.order) d1 d2 coming olds by_old p comes in
      let old_has = subst (λ l. Contains l one.0) (sym (outcomes-kept d2 d4 olds p k24 by_old.are)) one.1 in
      let other = some_outcome (interfaces_of network) (end_of_chains network new new_ways.order) d2 d3 coming news by_new p
      (k12.same coming p means.is_set ∙ comes) in
      let new_has = subst (λ l. Contains l other.0) (sym (outcomes-kept d3 d4 news p k34 by_new.are)) other.1 in
      elim (compared.told p one.0 old_has (case_of_outcome d4 p news other.0 new_has)) [
        | inl same ↦ inl (same_at network old new stage old_ways new_ways p one.0 same.0 (by_old_end p one.0 old_has) (by_new_end p same.0 same.1) same.2)
        | inr differs ↦
            let it = some_difference d4 compared.more p differs in
            inr (record {
              it = it.0;
              among = it.1;
              here = (All-contains (IsPair d4 stage olds news) compared.more it.0 compared.pairs it.1).here;
              packet = p;
              facts = refl;
              holds = it.2;
            })
      ]

  pub stage_added : ((f : Facts) → IsOfBox (interfaces_of network) f → HasBits (interfaces_of network) f)
      → AddsStage network old new within d4 stage before after
  stage_added have_bits = record {
    more = compared.more;
    added = compared.added;
    are = λ i any inside. is_difference (get_or compared.more i any) (compared.pairs i any inside);
    all = λ f comes.
        let bits = have_bits f comes.of_box in
        subst (λ g. SameAt network old new stage g ⊎ IsAmong network old new d4 compared.more stage g) bits.1
        (covered bits.0 (subst (λ g. can_come_to stage g ≡ true) (sym bits.1) comes.can)
        (subst (λ g. within g ≡ true) (sym bits.1) comes.assumed));
  }
