-- Two rulesets without differences do the same; with one, some packet shows it.
use Rattle.std.proofs.Common.{◌≡◌, Contains, inl, inr, List, [], ◌∷◌, arith, length, ◌==◌, sym, true, false, true≢false, Bool, refl}
use Rattle.std.proofs.lemmas.List.Elements.{All-contains}
use Rattle.nft_tree.specs.Tree.{Text, TableTree}
use Rattle.box_file.specs.Box.{PlantTree}
use Rattle.packet_sets.specs.Sets.{DiagramsView}
use Rattle.rule_meaning.specs.declared.facts.Facts.{Facts}
use Rattle.fact_sets.specs.Boxes.{NOTHING}
use Rattle.fact_sets.specs.Facts.{facts_of}
use Rattle.rule_sets.specs.Interfaces.{interfaces_of}
use Rattle.ruleset_diff.specs.declared.differences.Difference.{Difference}
use Rattle.ruleset_diff.specs.Differences.{AreDifferences, IsDifference}
use Rattle.diff_report.specs.Reports.{AllSame, SomeDiffers, Tells, same_line}

module _ (network : PlantTree) (old new : List TableTree) (within : Facts → Bool) where
  none_contained : (it : Difference) → Contains [] it → ⊥
  none_contained it (k, within, is) = omega (arith, within)

  same_everywhere : (d : DiagramsView) → AreDifferences network old new within d [] → AllSame network old new within
  same_everywhere d are stage f comes = elim (are.all stage f comes) [
    | inl same ↦ same
    | inr among ↦ absurd (none_contained among.it among.among)
  ]

  all_same : (d : DiagramsView) (its : List Difference) → length its ≡ 0
      → AreDifferences network old new within d its → AllSame network old new within
  all_same d (it ∷ its) none are = absurd (omega (arith, none))
  all_same d [] none are = same_everywhere d are

  shown_by : (d : DiagramsView) (it : Difference) → IsDifference network old new within d it → SomeDiffers network old new within
  shown_by d it is = record {
    stage = it.stage;
    facts = facts_of (interfaces_of network) NOTHING is.example.0;
    comes = is.comes is.example.0 is.example.1;
    verdict = it.old.verdict;
    other = it.new.verdict;
    differs = is.differ is.example.0 is.example.1;
  }

  pub tells_same : (d : DiagramsView) (its : List Difference) (text : Text) → length its ≡ 0 → text ≡ same_line
      → AreDifferences network old new within d its → Tells network old new within true text
  tells_same d its text none line are = record {
    are_same = λ _. all_same d its none are;
    line = λ _. line;
    differ = λ e. absurd (true≢false e);
  }

  pub tells_other : (d : DiagramsView) (its : List Difference) (text : Text) → (length its == 0) ≡ false
      → AreDifferences network old new within d its → Tells network old new within false text
  tells_other d [] text some are = absurd (true≢false some)
  tells_other d (it ∷ its) text some are = record {
    are_same = λ e. absurd (true≢false (sym e));
    line = λ e. absurd (true≢false (sym e));
    differ = λ _. shown_by d it (All-contains (IsDifference network old new within d) (it ∷ its) it are.are (0, omega (arith), refl));
  }
