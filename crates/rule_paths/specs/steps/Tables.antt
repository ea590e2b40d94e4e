-- The findings about one table.
use Rattle.std.specs.Prelude.{◌≡◌, ◌↔◌, ◌⊎◌, ℕ, ◌<◌, IsTrue, Bool, List, length, get_or, Contains, Vec}
use Rattle.std.specs.declared.alloc.Global.{Global}
use Rattle.nft_tree.specs.Tree.{TableTree}
use Rattle.chain_graph.specs.Graph.{HasCycle}
use Rattle.chain_graph.specs.Measures.{saturated}
use Rattle.rule_paths.specs.Paths.{Caller, CallsOf, HasDeepPath, AreCosts}
use Rattle.rule_paths.specs.Paths.{AreAllCosts, table_cost, ruleset_cost, Misplaces}
use Rattle.rule_paths.specs.Findings.{AreChainCosts, AreChainDepths, numbers_at}
use Rattle.rule_paths.specs.declared.marks.NatKind.{NatKind}
use Rattle.rule_paths.specs.declared.marks.NatKind.TheVariants.{Source, Destination}
use Rattle.rule_paths.specs.declared.table.TableFindings.{TableFindings}
use Rattle.rule_paths.specs.steps.Index.{translates, may_translate}

abbrev pub MisplacesAs : NatKind → TableTree → Type 0
MisplacesAs kind t = Misplaces (translates kind) (may_translate kind) t

abbrev pub MisplacesIn : TableTree → Type 0
MisplacesIn t = MisplacesAs Source t ⊎ MisplacesAs Destination t

-- what the rows of a table's costs and depths say of it
pub record AreRows (t : TableTree) (cs ds : List ℕ) : Type 0 where
  pub acyclic : HasCycle (CallsOf t) → ⊥
  pub costs : AreChainCosts t cs
  pub depths : AreChainDepths t ds

pub record AreTableFindings (t : TableTree) (found : TableFindings) : Type 0 where
  pub rows : AreRows t found.costs.items found.depths.items
  pub deep : IsTrue found.is_too_deep ↔ HasDeepPath t
  pub nat : IsTrue found.misplaces_nat ↔ MisplacesIn t
  pub base_cost : (cost : Caller → ℕ) → AreCosts t cost → found.base_cost ≡ saturated (table_cost cost t)

abbrev pub SomeTable : (TableTree → Type 0) → List TableTree → Type 0
SomeTable P tables = (t : TableTree) × Contains tables t × P t

-- the findings about the tables so far
pub record AreFindingsSoFar (tables : List TableTree) (is_too_deep misplaces_nat : Bool) (cost : ℕ)
    (costs depths : List (Vec ℕ Global)) : Type 0 where
  pub deep : IsTrue is_too_deep ↔ SomeTable HasDeepPath tables
  pub nat : IsTrue misplaces_nat ↔ SomeTable MisplacesIn tables
  pub sum : (cost_of : TableTree → Caller → ℕ) → AreAllCosts tables cost_of
      → cost ≡ saturated (ruleset_cost cost_of tables)
  pub costs_long : length costs ≡ length tables
  pub depths_long : length depths ≡ length tables
  pub rows : (i : ℕ) (t : TableTree) → i < length tables → t ≡ get_or tables i t
      → AreRows t (numbers_at costs i) (numbers_at depths i)
