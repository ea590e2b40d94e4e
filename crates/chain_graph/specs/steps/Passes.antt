-- What the passes over the nodes compute from one node's calls.
use Rattle.std.specs.Prelude.{ℕ, ◌+◌, ◌<◌, max, List, [], ◌∷◌, All, Bool, if◌then◌else◌}
use Rattle.std.specs.List.{list_any}
use Rattle.chain_graph.specs.Graph.{Call}
use Rattle.chain_graph.specs.Measures.{saturated}
use Rattle.chain_graph.specs.declared.node.Node.{Node}
use Rattle.chain_graph.specs.declared.node.Node.TheVariants.{Chain, Map}

-- all calls of the node are to indices below n
abbrev pub IsWithin : ℕ → Node → Type 0
IsWithin n (Chain statements) = All (λ s. All (λ e. e.to < n) s.items) statements.items
IsWithin n (Map calls) = All (λ e. e.to < n) calls.items

abbrev pub jump_of : Call ℕ → ℕ
jump_of e = if e.is_jump then 1 else 0

-- the greatest depth among these calls, where node k has the depth `depth k`
abbrev pub deepest : (ℕ → ℕ) → List (Call ℕ) → ℕ
deepest depth [] = 0
deepest depth (e ∷ es) = max (saturated (depth e.to + jump_of e)) (deepest depth es)

-- the target of one of these calls passes the test
abbrev pub some_call : (ℕ → Bool) → List (Call ℕ) → Bool
some_call test calls = list_any (λ e. test e.to) calls
