-- Differences of two rulesets, stage after stage.
use Rattle.std.proofs.Common.{◌≡◌, ◌∙◌, ◌⊎◌, inl, inr, ℕ, ◌+◌, ◌<◌, ◌≤◌, Bool, true, List, [], ◌++◌, All, slice_get, Some}
use Rattle.std.proofs.Common.{refl, sym, subst, arith, lit<}
use Rattle.std.proofs.lemmas.Bool.{cases_lt}
use Rattle.std.proofs.lemmas.List.Elements.{All-append, All-contains, All-nil, All-weaker, Contains-append_left, Contains-append_right}
use Rattle.nft_tree.specs.Tree.{TableTree}
use Rattle.box_file.specs.Box.{PlantTree}
use Rattle.packet_sets.specs.Sets.{DiagramsView, Keeps, holds}
use Rattle.rule_meaning.specs.declared.facts.Facts.{Facts}
use Rattle.rule_meaning.specs.declared.stage.HookStage.{HookStage}
use Rattle.rule_meaning.specs.declared.stage.HookStage.TheVariants as stages
use Rattle.coming_sets.specs.Bases.{STAGES}
use Rattle.rule_meaning.specs.Same.{SameAt}
use Rattle.ruleset_diff.specs.declared.differences.Difference.{Difference}
use Rattle.ruleset_diff.specs.Differences.{AreDifferences, Comes, IsAmong, IsDifference}
use Rattle.ruleset_diff.specs.steps.Stages.{AddsStage, IsCovered}

module _ (network : PlantTree) (old new : List TableTree) (within : Facts → Bool) where
  difference_kept : (d e : DiagramsView) → Keeps d e → (it : Difference) → IsDifference network old new within d it → IsDifference network old new within e it
  difference_kept d e k it is =
      let back : (p : ℕ → Bool) → holds e it.set p ≡ true → holds d it.set p ≡ true = λ p has. sym (k.same it.set p is.set) ∙ has in
      record {
        set = k.sets it.set is.set;
        example = (is.example.0, k.same it.set is.example.0 is.set ∙ is.example.1);
        comes = λ p has. is.comes p (back p has);
        differ = λ p has. is.differ p (back p has);
      }

  among_kept : (d e : DiagramsView) → Keeps d e → (its more : List Difference) → All (IsDifference network old new within d) its → (stage : HookStage) (f : Facts)
      → IsAmong network old new d its stage f → IsAmong network old new e (its ++ more) stage f
  among_kept d e k its more are stage f among =
      let is = All-contains (IsDifference network old new within d) its among.it are among.among in
      record {
        it = among.it;
        among = Contains-append_left its more among.it among.among;
        here = among.here;
        packet = among.packet;
        facts = among.facts;
        holds = k.same among.it.set among.packet is.set ∙ among.holds;
      }

  among_added : (d : DiagramsView) (its more : List Difference) (stage : HookStage) (f : Facts)
      → IsAmong network old new d more stage f → IsAmong network old new d (its ++ more) stage f
  among_added d its more stage f among = record {
    it = among.it;
    among = Contains-append_right its more among.it among.among;
    here = among.here;
    packet = among.packet;
    facts = among.facts;
    holds = among.holds;
  }

  -- all differences in the stages before this index
  pub record AreTo (d : DiagramsView) (index : ℕ) (its : List Difference) : Type 0 where
    pub are : All (IsDifference network old new within d) its
    pub all : (j : ℕ) (stage : HookStage) → j < index → slice_get STAGES j ≡ Some stage → (f : Facts) → IsCovered network old new within d its stage f

  pub to_none : (d : DiagramsView) (its : List Difference) → its ≡ [] → AreTo d 0 its
  to_none d its none = subst (AreTo d 0) (sym none) (record {
    are = All-nil (IsDifference network old new within d);
    all = λ j stage under at f. absurd (omega (arith, under));
  })

  pub to_more : (d e : DiagramsView) (index : ℕ) (stage : HookStage) (its after : List Difference) → slice_get STAGES index ≡ Some stage → Keeps d e
      → AddsStage network old new within e stage its after → AreTo d index its → AreTo e (index + 1) after
  to_more d e index stage its after here k adds so_far = subst (AreTo e (index + 1)) (sym adds.added) (record {
    are = All-append (IsDifference network old new within e) its adds.more
        (All-weaker (IsDifference network old new within d) (IsDifference network old new within e) (difference_kept d e k) its so_far.are) adds.are;
    all = λ j other under at f comes. elim (cases_lt j index) [
      | inl before ↦ elim (so_far.all j other before at f comes) [
        | inl same ↦ inl same
        | inr among ↦ inr (among_kept d e k its adds.more so_far.are other f among)
      ]
      | inr behind ↦
          let now : j ≡ index = omega (arith, under, behind) in
          let there : slice_get STAGES index ≡ Some other = subst (λ i. slice_get STAGES i ≡ Some other) now at in
          let same : stage ≡ other = cc in
          subst (λ s. SameAt network old new s f ⊎ IsAmong network old new e (its ++ adds.more) s f) same
          (elim (adds.all f (subst (λ s. Comes within network s f) (sym same) comes)) [
            | inl alike ↦ inl alike
            | inr among ↦ inr (among_added e its adds.more stage f among)
          ])
    ];
  })

  number_of : HookStage → ℕ
  number_of stages.PreroutingRaw = 0
  number_of stages.PreroutingBeforeNat = 1
  number_of stages.PreroutingNat = 2
  number_of stages.PreroutingAfterNat = 3
  number_of stages.Input = 4
  number_of stages.Forward = 5
  number_of stages.PostroutingBeforeNat = 6
  number_of stages.PostroutingNat = 7
  number_of stages.PostroutingAfterNat = 8

  numbered : (stage : HookStage) → (slice_get STAGES (number_of stage) ≡ Some stage) × (number_of stage < 9)
  unfolding number_of
  numbered stages.PreroutingRaw = (refl, lit< tt)
  numbered stages.PreroutingBeforeNat = (refl, lit< tt)
  numbered stages.PreroutingNat = (refl, lit< tt)
  numbered stages.PreroutingAfterNat = (refl, lit< tt)
  numbered stages.Input = (refl, lit< tt)
  numbered stages.Forward = (refl, lit< tt)
  numbered stages.PostroutingBeforeNat = (refl, lit< tt)
  numbered stages.PostroutingNat = (refl, lit< tt)
  numbered stages.PostroutingAfterNat = (refl, lit< tt)

  pub to_all : (d : DiagramsView) (index : ℕ) (its : List Difference) → 9 ≤ index → AreTo d index its → AreDifferences network old new within d its
  to_all d index its past so_far = record {
    are = so_far.are;
    all = λ stage f comes.
        let at = numbered stage in
        let under = at.1 in
        so_far.all (number_of stage) stage (omega (arith, under, past)) at.0 f comes;
  }
