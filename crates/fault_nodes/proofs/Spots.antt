-- Where in a list of nodes a position lies.
use Rattle.std.proofs.Common.{◌≡◌, ℕ, ◌+◌, ◌<◌, ◌≤◌, List, length, get_or, take, map, slice_get, Some}
use Rattle.std.proofs.Common.{refl, sym, ap, ◌∙◌, inl, inr, arith}
use Rattle.std.specs.Option.{IfSome, option_map}
use Rattle.std.specs.List.{sum_by}
use Rattle.std.proofs.lemmas.List.{length-map, get_or-map, take_all}
use Rattle.std.proofs.lemmas.List.Sums.{sum_by_more}
use Rattle.std.proofs.lemmas.Option.{slice_get-map, slice_get_cases, slice_get_past, slice_get_read, slice_get_within}
use Rattle.fault_nodes.specs.declared.locating.Spot.{Spot}
use Rattle.fault_nodes.specs.steps.Spots.{IsSpot}

-- the weight of one more node
pub weight_more : {A B : Type 0} (weight : A → ℕ) (model : B → A) (nodes : List B) (i : ℕ) (node : B) → i < length nodes
    → node ≡ get_or nodes i node
    → sum_by weight (take (i + 1) (map model nodes)) ≡ sum_by weight (take i (map model nodes)) + weight (model node)
weight_more weight model nodes i node within is =
    let inside : i < length (map model nodes) = omega (arith, length-map nodes model) in
    sum_by_more weight (map model nodes) i (model node) inside
    ∙ ap (λ x. sum_by weight (take i (map model nodes)) + weight x)
    (get_or-map model nodes i node (model node) within ∙ ap model (sym is))

-- nothing is past the end
pub past_end : {A : Type 0} (nodes : List A) (P : A → Type 0) (i : ℕ) → length nodes ≤ i → IfSome (slice_get nodes i) P
past_end nodes P i past = rw (slice_get_past nodes i past) tt

-- a node that an index reads
pub read_at : {A B : Type 0} (model : B → A) (nodes : List B) (i : ℕ) (node : B) → i < length (map model nodes)
    → node ≡ get_or nodes i node → slice_get (map model nodes) i ≡ Some (model node)
read_at model nodes i node within is =
    slice_get-map model nodes i
    ∙ ap (option_map model) (slice_get_read nodes (length nodes) i node refl (omega (arith, length-map nodes model)) is)

-- a spot in a list
module _ {A : Type 0} (weight : A → ℕ) (nodes : List A) (position : ℕ) (spot : Spot) (is : IsSpot weight nodes position spot) where
  not_past : position < sum_by weight nodes → length nodes ≤ spot.index → ⊥
  not_past within past =
      let all = ap (sum_by weight) (take_all spot.index nodes past) in
      omega (arith, all, is.sum, within)

  pub spot_rest : (node : A) → slice_get nodes spot.index ≡ Some node → spot.rest < weight node
  spot_rest node found = rw found at is.inside

  -- a position within the sum lies in a node
  pub spot_node : position < sum_by weight nodes
      → (node : A) × (slice_get nodes spot.index ≡ Some node) × (spot.rest < weight node)
  spot_node within =
      elim (slice_get_cases nodes spot.index).1 [
        | inl found ↦ (found.0, found.2, spot_rest found.0 found.2)
        | inr past ↦ absurd (not_past within past.0)
      ]

  pub spot_within : position < sum_by weight nodes → spot.index < length nodes
  spot_within within = slice_get_within nodes spot.index (spot_node within).0 (spot_node within).1

  pub rest_small : (n : ℕ) → position < n → spot.rest < n
  rest_small n small = omega (arith, is.sum, small)
