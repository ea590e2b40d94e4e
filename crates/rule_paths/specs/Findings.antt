-- The findings about rulesets whose jumps and gotos have no cycle. (own)
use Rattle.std.specs.Prelude.{◌≡◌, ◌↔◌, ℕ, ◌<◌, ◌≤◌, IsTrue, List, [], length, get_or, map, slice_index, Vec}
use Rattle.std.specs.declared.alloc.Global.{Global}
use Rattle.nft_tree.specs.Tree.{TableTree}
use Rattle.nft_tree.specs.TableItems.{chains_of}
use Rattle.rule_names.specs.Names.{chain_names}
use Rattle.chain_graph.specs.Graph.{Call, IsPath, jumps}
use Rattle.chain_graph.specs.Measures.{saturated}
use Rattle.rule_paths.specs.Paths.{Caller, a_chain, CallsOf, AreCosts, AreAllCosts, Cycles, TooDeep, TooCostly}
use Rattle.rule_paths.specs.Paths.{MisplacedNat}
use Rattle.rule_paths.specs.declared.analysis.Findings.{Findings}

-- the most jumps on a path from the caller, saturated at 64 bits
pub record HasDepth (t : TableTree) (from : Caller) (depth : ℕ) : Type 0 where
  pub most : (b : Caller) (es : List (Call Caller)) → IsPath (CallsOf t) from es b
      → saturated (jumps es) ≤ depth
  pub to : Caller
  pub along : List (Call Caller)
  pub path : IsPath (CallsOf t) from along to
  pub deep : depth ≤ jumps along

-- the costs of the chains of a table, in text order, saturated at 2^64 - 1; and that the cost equations have
-- a solution
pub record AreChainCosts (t : TableTree) (costs : List ℕ) : Type 0 where
  pub are : (cost : Caller → ℕ) → AreCosts t cost
      → costs ≡ map (λ c. saturated (cost (a_chain c.name))) (chains_of t)
  pub has_costs : (cost : Caller → ℕ) × AreCosts t cost

-- the depths of the chains of a table, in text order
pub record AreChainDepths (t : TableTree) (depths : List ℕ) : Type 0 where
  pub long : length depths ≡ length (chains_of t)
  pub are : (j : ℕ) → j < length depths
      → HasDepth t (a_chain (get_or (chain_names t) j [])) (slice_index depths j)

-- the numbers of table i
abbrev pub numbers_at : List (Vec ℕ Global) → ℕ → List ℕ
numbers_at rows i = get_or (map (λ row. row.items) rows) i []

-- the findings about a ruleset; and that its cost equations have a solution
pub record AreFindings (tables : List TableTree) (found : Findings) : Type 0 where
  pub acyclic : Cycles tables → ⊥
  pub deep : IsTrue found.is_too_deep ↔ TooDeep tables
  pub costly : IsTrue found.is_too_costly ↔ TooCostly tables
  pub nat : IsTrue found.misplaces_nat ↔ MisplacedNat tables
  pub has_costs : (cost : TableTree → Caller → ℕ) × AreAllCosts tables cost
  pub costs_long : length found.costs.items ≡ length tables
  pub costs : (i : ℕ) (t : TableTree) → i < length tables → t ≡ get_or tables i t
      → AreChainCosts t (numbers_at found.costs.items i)
  pub depths_long : length found.depths.items ≡ length tables
  pub depths : (i : ℕ) (t : TableTree) → i < length tables → t ≡ get_or tables i t
      → AreChainDepths t (numbers_at found.depths.items i)
