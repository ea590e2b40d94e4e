-- Where in a list of nodes a position lies.
use Rattle.std.specs.Prelude.{◌≡◌, ℕ, ◌+◌, ◌<◌, ◌≤◌, List, length, slice_get, sum_by, take, IfSome}
use Rattle.fault_nodes.specs.declared.locating.Spot.{Spot}

-- the node with this index holds the position: so much of it is before the position. Past the end the index is
-- the number of nodes
pub record IsSpot {A : Type 0} (weight : A → ℕ) (nodes : List A) (position : ℕ) (spot : Spot) : Type 0 where
  pub sum : sum_by weight (take spot.index nodes) + spot.rest ≡ position
  pub within : spot.index ≤ length nodes
  pub inside : IfSome (slice_get nodes spot.index) (λ node. spot.rest < weight node)
