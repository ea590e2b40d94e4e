-- The targets of each node: the graph as the search sees it.
use Rattle.std.specs.Prelude.{◌≡◌, ℕ, ◌<◌, List, [], ◌∷◌, length, map, Vec}
use Rattle.std.specs.declared.alloc.Global.{Global}
use Rattle.chain_graph.specs.Order.{HasEdge}

-- the targets of each node, by index
abbrev pub rows_of : List (Vec ℕ Global) → List (List ℕ)
rows_of rows = map (λ r. r.items) rows

-- a path from a to b through these nodes, of which b is the last
abbrev pub IsTargetPath : List (List ℕ) → ℕ → List ℕ → ℕ → Type 0
IsTargetPath g a [] b = a ≡ b
IsTargetPath g a (c ∷ cs) b = HasEdge g a c × IsTargetPath g c cs b

-- a path of one edge or more from a node to itself
pub record HasTargetCycle (g : List (List ℕ)) : Type 0 where
  pub node : ℕ
  pub first : ℕ
  pub rest : List ℕ
  pub path : IsTargetPath g node (first ∷ rest) node

-- each target is a node
abbrev pub TargetsInRange : List (List ℕ) → Type 0
TargetsInRange g = (a b : ℕ) → HasEdge g a b → b < length g
