-- What nodes hold, in their order.
use Rattle.std.specs.Prelude.{ℕ, List, map}
use Rattle.chained_map.specs.declared.node.Node.{Node}

module _ {K V : Type 0} where
  -- the entries
  abbrev pub entries_of : List (Node K V) → List (K × V)
  entries_of nodes = map (λ n. (n.key, n.value)) nodes

  -- the hashes of their keys
  abbrev pub hashes_of : List (Node K V) → List ℕ
  hashes_of nodes = map (λ n. n.hash) nodes

  -- their links
  abbrev pub nexts_of : List (Node K V) → List ℕ
  nexts_of nodes = map (λ n. n.next) nodes
