-- Costs, depths and reachability in a graph by index. (own)
use Rattle.std.specs.Prelude.{◌≡◌, ℕ, ◌<◌, ◌≤◌, ◌-◌, ◌^◌, min, List, length, get_or, slice_index, Bool, true, false}
use Rattle.chain_graph.specs.Graph.{Call, IsPath, jumps, HasCycle, node_cost, Reaches}
use Rattle.chain_graph.specs.Nodes.{Graph, Calls, node_at, targets_of}
use Rattle.chain_graph.specs.Order.{IsTopologicalOrder}
use Rattle.chain_graph.specs.declared.analysis.GraphAnalysis.{GraphAnalysis}

-- the saturation of 64-bit numbers
abbrev pub saturated : ℕ → ℕ
saturated n = min n (2 ^ 64 - 1)

-- `cost` solves the equations of the costs of all nodes
abbrev pub IsCost : Graph → (ℕ → ℕ) → Type 0
IsCost g cost = (c : ℕ) → c < length g → cost c ≡ node_cost cost (node_at g c)

-- the most jumps on a path from node c, saturated
pub record IsDepth (g : Graph) (c depth : ℕ) : Type 0 where
  pub most : (b : ℕ) (es : List (Call ℕ)) → IsPath (Calls g) c es b → saturated (jumps es) ≤ depth
  pub to : ℕ
  pub along : List (Call ℕ)
  pub path : IsPath (Calls g) c along to
  pub deep : depth ≤ jumps along

-- a path from node c, of any length, ends in a marked node
abbrev pub ReachesMarked : Graph → List Bool → ℕ → Type 0
ReachesMarked g marked c = Reaches (Calls g) (λ b. get_or marked b false ≡ true) c

-- what the analysis of a graph states: any solution of the cost equations agrees with `costs`, and
-- `has_costs` is one
pub record IsAnalysisOf (g : Graph) (j : GraphAnalysis) : Type 0 where
  pub acyclic : HasCycle (Calls g) → ⊥
  pub order : IsTopologicalOrder (targets_of g) j.order.items
  pub costs_long : length j.costs.items ≡ length g
  pub depths_long : length j.depths.items ≡ length g
  pub costs : (cost : ℕ → ℕ) → IsCost g cost → (c : ℕ) → c < length g
      → slice_index j.costs.items c ≡ saturated (cost c)
  pub has_costs : (cost : ℕ → ℕ) × IsCost g cost
  pub depths : (c : ℕ) → c < length g → IsDepth g c (slice_index j.depths.items c)
