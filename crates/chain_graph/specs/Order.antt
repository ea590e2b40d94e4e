-- Topological orders: each node comes after all its targets. (own)
use Rattle.std.specs.Prelude.{ℕ, ◌<◌, List, [], length, get_or, take, All, Contains}

-- node a has an edge to node b, where `g` has the targets of each node
abbrev pub HasEdge : List (List ℕ) → ℕ → ℕ → Type 0
HasEdge g a b = Contains (get_or g a []) b

-- no number occurs twice
abbrev pub IsRepeatFree : List ℕ → Type 0
IsRepeatFree xs = (i : ℕ) → i < length xs → Contains (take i xs) (get_or xs i 0) → ⊥

-- each node occurs once, and all its targets before it
pub record IsTopologicalOrder (g : List (List ℕ)) (order : List ℕ) : Type 0 where
  pub below : All (λ c. c < length g) order
  pub all : (c : ℕ) → c < length g → Contains order c
  pub once : IsRepeatFree order
  pub after : (i t : ℕ) → i < length order → HasEdge g (get_or order i 0) t → Contains (take i order) t
