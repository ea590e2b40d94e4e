-- What is true of a map's parts.
use Rattle.std.specs.Prelude.{◌≡◌, ℕ, ◌≤◌, ◌^◌, Bool, List, length}
use Rattle.std_collections.specs.Layout.Hashing.{IsHashed}
use Rattle.chained_map.specs.declared.node.Node.{Node}
use Rattle.chained_map.specs.steps.Chains.{IsChained}
use Rattle.chained_map.specs.steps.Nodes.{entries_of, hashes_of}

-- no two keys are equal, each node has the hash of its key, all are chained, and there is room for as many nodes as
-- there are buckets
pub record IsTable {K V : Type 0} (eq : K → K → Bool) (hash : K → ℕ) (heads : List ℕ) (nodes : List (Node K V)) (capacity : ℕ) : Type 0 where
  pub hashed : IsHashed eq hash (hashes_of nodes) (entries_of nodes)
  pub chained : IsChained heads nodes
  pub room : length nodes ≤ length heads
  pub few : length heads ≤ 2 ^ 31
  pub reserved : length heads ≤ capacity

-- what a map's parts are once there is more room, or as much as before
pub record HasRoom {K V : Type 0} (heads : List ℕ) (nodes : List (Node K V)) (heads' : List ℕ)
    (nodes' : List (Node K V)) (capacity : ℕ) : Type 0 where
  pub chained : IsChained heads' nodes'
  pub hashes : hashes_of nodes' ≡ hashes_of nodes
  pub entries : entries_of nodes' ≡ entries_of nodes
  pub as_many : length nodes' ≡ length nodes
  pub more : length heads ≤ length heads'
  pub few : length heads' ≤ 2 ^ 31
  pub reserved : length heads' ≤ capacity
