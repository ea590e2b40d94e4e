-- The sets of a ruleset's base chains are those of which it is told.
use Rattle.std.proofs.Common.{◌≡◌, ℕ, zero, suc, ◌<◌, List, [], ◌∷◌, All, arith, length, slice_index_or, subst, sym}
use Rattle.std.specs.List.{AllZip}
use Rattle.nft_tree.specs.Tree.{TableTree}
use Rattle.box_file.specs.Box.{PlantTree}
use Rattle.packet_sets.specs.Sets.{DiagramsView, IsSet}
use Rattle.chain_sets.specs.declared.outcomes.ChainEnd.{ChainEnd}
use Rattle.rule_meaning.specs.Hooks.{BaseChain}
use Rattle.fact_sets.specs.declared.cases.Case.{Case}
use Rattle.fact_sets.specs.Cases.{AreCases}
use Rattle.rule_reach.specs.declared.sets.BaseSets.{BaseSets}
use Rattle.rule_reach.specs.declared.sets.ReachSets.{ReachSets}
use Rattle.rule_reach.specs.Reach.{run_chains}
use Rattle.rule_reach.specs.Sets.{AreBaseSets, AreReachSets}
use Rattle.reach_report.specs.steps.SetTexts.{HasSets, IsOfSets}

zip_all : {A B : Type 0} (R : A → B → Type 0) (P : B → Type 0) → ((x : A) (y : B) → R x y → P y)
    → (xs : List A) (ys : List B) → AllZip R xs ys → All P ys
zip_all R P f [] [] h k d lt = absurd (omega (arith, lt))
zip_all R P f [] (y ∷ ys) h k d lt = absurd h
zip_all R P f (x ∷ xs) [] h k d lt = absurd h
zip_all R P f (x ∷ xs) (y ∷ ys) h zero d lt = f x y h.0
zip_all R P f (x ∷ xs) (y ∷ ys) h (suc k) d lt = zip_all R P f xs ys h.1 k d (omega (arith, lt))

pub cases_all : {V : Type 0} (d : DiagramsView) (cases : List (Case V)) → AreCases d cases
    → All (λ c. IsSet d c.set) cases
cases_all d [] are k x lt = absurd (omega (arith, lt))
cases_all d (c ∷ cs) are zero x lt = are.0
cases_all d (c ∷ cs) are (suc k) x lt = cases_all d cs are.1 k x (omega (arith, lt))

-- what holds of the sets of all base chains holds of those of one that was read from the list
pub of_item : (d : DiagramsView) (bases list : List BaseSets) (i : ℕ) (base : BaseSets) → list ≡ bases
    → i < length list → base ≡ slice_index_or list i base → All (IsOfSets d) bases → IsOfSets d base
of_item d bases list i base same within is all =
    subst (IsOfSets d) (sym is) (subst (λ xs. All (IsOfSets d) xs) (sym same) all i base within)

pub ends_as : (d : DiagramsView) (list items : List (Case ChainEnd)) → list ≡ items
    → All (λ e. IsSet d e.set) items → All (λ e. IsSet d e.set) list
ends_as d list items same all = subst (λ es. All (λ e. IsSet d e.set) es) (sym same) all

module _ (network : PlantTree) (tables : List TableTree) where
  of_base : (d : DiagramsView) (b : BaseChain) (sets : BaseSets) → AreBaseSets network tables d b sets → IsOfSets d sets
  of_base d b sets are = record {
    reached = λ c n. (are.on_ways.reached c n).is_set;
    met = λ c n. (are.on_ways.met c n).is_set;
    ends = cases_all d sets.ends.items are.on_ways.are;
  }

  pub has_sets : (sets : ReachSets) → AreReachSets network tables sets → HasSets sets
  has_sets sets are = zip_all (AreBaseSets network tables sets.diagrams) (IsOfSets sets.diagrams)
      (of_base sets.diagrams) (run_chains tables) sets.bases.items are
