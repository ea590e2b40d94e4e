-- The invariant and the measure of the depth-first search.
use Rattle.std.specs.Prelude.{◌≡◌, ◌≢◌, ◌↔◌, ℕ, ◌+◌, ◌<◌, ◌≤◌, List, [], ◌∷◌, ◌++◌, length, get_or, take, Contains, sum_by, Bool, true, false}
use Rattle.chain_graph.specs.Order.{HasEdge, IsRepeatFree, IsTopologicalOrder}
use Rattle.chain_graph.specs.steps.Targets.{HasTargetCycle}
use Rattle.chain_graph.specs.declared.search.Mark.{Mark}
use Rattle.chain_graph.specs.declared.search.Mark.TheVariants.{New, Open, Done}
use Rattle.chain_graph.specs.declared.search.Search.{Search}
use Rattle.chain_graph.specs.declared.search.SortResult.{SortResult}
use Rattle.chain_graph.specs.declared.search.SortResult.TheVariants.{Order, Cycle}

-- `R` holds of those before each element and of that element
abbrev pub EachAfter : (List ℕ → ℕ → Type 0) → List ℕ → Type 0
EachAfter R xs = (i : ℕ) → i < length xs → R (take i xs) (get_or xs i 0)

-- the last of these nodes has an edge to this one
abbrev pub Follows : List (List ℕ) → List ℕ → ℕ → Type 0
Follows g before x = (rest : List ℕ) (c : ℕ) → before ≡ rest ++ c ∷ [] → HasEdge g c x

-- these nodes have all targets of this one
abbrev pub HasTargetsIn : List (List ℕ) → List ℕ → ℕ → Type 0
HasTargetsIn g before x = (t : ℕ) → HasEdge g x t → Contains before t

-- all targets of the node but the first l are in the order
abbrev pub HasLeft : List (List ℕ) → List ℕ → ℕ → ℕ → Type 0
HasLeft g order c l = (l ≤ length (get_or g c []))
    × ((k : ℕ) → l ≤ k → k < length (get_or g c []) → Contains order (get_or (get_or g c []) k 0))

-- the nodes with this mark are those of the list
abbrev pub AreMarked : List Mark → Mark → List ℕ → Type 0
AreMarked marks m xs = (c : ℕ) → Contains xs c ↔ (get_or marks c New ≡ m)

-- each node on the path has an edge to the next, those in the order come after all their targets, and the
-- targets of each node from `left` on are in the order
pub record IsSound (g : List (List ℕ)) (marks : List Mark) (left path order : List ℕ) : Type 0 where
  pub marks_long : length marks ≡ length g
  pub left_long : length left ≡ length g
  pub scanned : (c : ℕ) → HasLeft g order c (get_or left c 0)
  pub done : AreMarked marks Done order
  pub opened : AreMarked marks Open path
  pub order_once : IsRepeatFree order
  pub path_once : IsRepeatFree path
  pub chained : EachAfter (Follows g) path
  pub after : EachAfter (HasTargetsIn g) order

abbrev pub IsSearch : List (List ℕ) → Search → Type 0
IsSearch g s = IsSound g s.marks.items s.left.items s.path.items s.order.items

abbrev pub weight : Mark → ℕ
weight New = 2
weight Open = 0
weight Done = 0

-- the termination measure
abbrev pub remaining_work : Search → ℕ
remaining_work s = sum_by (λ n. n) s.left.items + sum_by weight s.marks.items + length s.path.items

-- nodes that were visited stay so
pub record KeepsVisited (before after : List Mark) : Type 0 where
  pub keeps : (c : ℕ) → get_or before c New ≢ New → get_or after c New ≢ New

-- a step that lowers the measure
pub record Advanced (g : List (List ℕ)) (before after : Search) : Type 0 where
  pub search : IsSearch g after
  pub less : remaining_work after < remaining_work before
  pub visited : KeepsVisited before.marks.items after.marks.items

-- the result of a step: false means a cycle
abbrev pub StepResult : List (List ℕ) → Search → Search → Bool → Type 0
StepResult g before after true = Advanced g before after
StepResult g before after false = HasTargetCycle g

-- a completed visit from a node: the path is empty again, and the node is visited
pub record Visited (g : List (List ℕ)) (before after : Search) (root : ℕ) : Type 0 where
  pub search : IsSearch g after
  pub path : after.path.items ≡ []
  pub root_visited : get_or after.marks.items root New ≢ New
  pub visited : KeepsVisited before.marks.items after.marks.items

-- the result of a visit: false means a cycle
abbrev pub VisitResult : List (List ℕ) → Search → Search → ℕ → Bool → Type 0
VisitResult g before after root true = Visited g before after root
VisitResult g before after root false = HasTargetCycle g

-- the result of the whole search: an order, and then there is no cycle; or a cycle
abbrev pub IsSortResult : List (List ℕ) → SortResult → Type 0
IsSortResult g (Order order) = IsTopologicalOrder g order.items × (HasTargetCycle g → ⊥)
IsSortResult g Cycle = HasTargetCycle g
