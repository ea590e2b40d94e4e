-- The results of `check`, and what is known about the chains of a well-formed ruleset. (own)
use Rattle.std.specs.Prelude.{◌≡◌, ℕ, ◌+◌, List, [], length, get_or, map, slice_get, sum_by, Option, Some, None, Vec}
use Rattle.std.specs.List.{zip}
use Rattle.std.specs.declared.alloc.Global.{Global}
use Rattle.nft_tree.specs.Tree.{HeadTree, TableTree}
use Rattle.nft_tree.specs.TableItems.{chains_of}
use Rattle.box_file.specs.Box.{PlantTree}
use Rattle.rule_names.specs.declared.ruleset_names.ItemNames.{ItemNames}
use Rattle.rule_names.specs.Indexed.{names_in}
use Rattle.rule_paths.specs.Paths.{Caller, AreAllCosts}
use Rattle.rule_paths.specs.Findings.{AreChainCosts, AreChainDepths}
use Rattle.rule_check.specs.WellFormed.{LeastFault, WellFormed}
use Rattle.rule_check.specs.declared.fault.CheckError.{CheckError}
use Rattle.rule_check.specs.declared.fault.CheckError.TheVariants.{Refused, Memory}

-- a ruleset, and the box that it was checked for
pub record CheckedTree : Type 0 where
  pub rules : List TableTree
  pub network : PlantTree

-- a refusal has the ruleset's least fault; failed allocations say nothing about it
abbrev pub IsCheckRefusal : List TableTree → PlantTree → CheckError → Type 0
IsCheckRefusal tables network (Refused fault) = LeastFault fault tables network
IsCheckRefusal tables network Memory = Unit {0}

-- ---- costs and depths

-- the costs of the chains of a ruleset, by table and chain
pub record AreRulesetCosts (tables : List TableTree) (costs : List (List ℕ)) : Type 0 where
  pub long : length costs ≡ length tables
  pub are : (i : ℕ) (t : TableTree) → slice_get tables i ≡ Some t → AreChainCosts t (get_or costs i [])

-- the depths of its chains, likewise
pub record AreRulesetDepths (tables : List TableTree) (depths : List (List ℕ)) : Type 0 where
  pub long : length depths ≡ length tables
  pub are : (i : ℕ) (t : TableTree) → slice_get tables i ≡ Some t → AreChainDepths t (get_or depths i [])

-- what a chain adds to the cost of its table: a base chain its cost plus 1, any other nothing
abbrev pub base_part : Option HeadTree → ℕ → ℕ
base_part None cost = 0
base_part (Some head) cost = 1 + cost

-- the cost of a table's base chains, plus 1 for each, by the costs of its chains
abbrev pub base_sum : TableTree → List ℕ → ℕ
base_sum t costs = sum_by (λ p. base_part p.0.head p.1) (zip (chains_of t) costs)

-- the cost of a ruleset by the costs of its chains
abbrev pub ruleset_sum : List TableTree → List (List ℕ) → ℕ
ruleset_sum tables costs = sum_by (λ p. base_sum p.0 p.1) (zip tables costs)

abbrev pub rows : List (Vec ℕ Global) → List (List ℕ)
rows vecs = map (λ row. row.items) vecs

-- a ruleset is well formed on a box, these are its names and costs, its chains have depths, and its cost
-- equations have a solution
pub record IsChecked (tables : List TableTree) (network : PlantTree) (names : List ItemNames)
    (its_costs : List (Vec ℕ Global)) : Type 0 where
  pub fine : WellFormed tables network
  pub named : names ≡ map names_in tables
  pub costs : AreRulesetCosts tables (rows its_costs)
  pub has_depths : (depths : List (List ℕ)) × AreRulesetDepths tables depths
  pub has_costs : (cost : TableTree → Caller → ℕ) × AreAllCosts tables cost
