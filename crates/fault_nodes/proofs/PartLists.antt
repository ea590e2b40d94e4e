-- Some parts of a list of nodes, step by step.
use Rattle.std.proofs.Common.{◌≡◌, ℕ, ◌+◌, ◌-◌, ◌<◌, ◌≤◌, ltb, min, List, [], ◌∷◌, ◌++◌, length, get_or, drop, map}
use Rattle.std.proofs.Common.{Some, None, add-one, refl, sym, ap, ◌∙◌, arith}
use Rattle.std.specs.List.{sum_by, cons_option}
use Rattle.std.proofs.Math.Seq.{drop-cons}
use Rattle.std.proofs.lemmas.Bool.{cond-true, cond-false, lt-ltb, le-ltb}
use Rattle.std.proofs.lemmas.List.{append_assoc}
use Rattle.std.proofs.lemmas.List.Sums.{sum_by-cons}
use Rattle.fault_nodes.specs.ReadParts.{parts_between, all_with_parts_between}

module _ {A : Type 0} (parts : A → ℕ) (cut : ℕ → ℕ → A → A) where
  -- a node that has some of the parts, and then those after it
  pub node_kept : (from to : ℕ) (x : A) (xs : List A) → from < min to (parts x)
      → parts_between parts cut from to (x ∷ xs)
      ≡ cut from to x ∷ parts_between parts cut (from - parts x) (to - parts x) xs
  node_kept from to x xs some =
      ap (λ o. cons_option o (parts_between parts cut (from - parts x) (to - parts x) xs))
      (cond-true (ltb from (min to (parts x))) (Some (cut from to x)) None (lt-ltb from (min to (parts x)) some))

  -- a node that has none of them
  pub node_left_out : (from to : ℕ) (x : A) (xs : List A) → min to (parts x) ≤ from
      → parts_between parts cut from to (x ∷ xs) ≡ parts_between parts cut (from - parts x) (to - parts x) xs
  node_left_out from to x xs none =
      ap (λ o. cons_option o (parts_between parts cut (from - parts x) (to - parts x) xs))
      (cond-false (ltb from (min to (parts x))) (Some (cut from to x)) None (le-ltb from (min to (parts x)) none))

  -- all parts are the whole list
  pub between_whole : ((n : ℕ) (x : A) → parts x ≤ n → cut 0 n x ≡ x) → ((x : A) → 0 < parts x)
      → (n : ℕ) (xs : List A) → sum_by parts xs ≤ n → parts_between parts cut 0 n xs ≡ xs
  between_whole whole some n [] all = refl
  between_whole whole some n (x ∷ xs) all =
      let sum = sum_by-cons parts x xs in
      let one = some x in
      let here : parts x ≤ n = omega arith in
      let rest : sum_by parts xs ≤ n - parts x = omega arith in
      let start : 0 - parts x ≡ 0 = omega arith in
      node_kept 0 n x xs (omega arith)
      ∙ ap (λ y. y ∷ parts_between parts cut (0 - parts x) (n - parts x) xs) (whole n x here)
      ∙ ap (λ from. x ∷ parts_between parts cut from (n - parts x) xs) start
      ∙ ap (λ ys. x ∷ ys) (between_whole whole some (n - parts x) xs rest)

  pub all_whole : ((n : ℕ) (x : A) → parts x ≤ n → cut 0 n x ≡ x)
      → (n : ℕ) (xs : List A) → sum_by parts xs ≤ n → all_with_parts_between parts cut 0 n xs ≡ xs
  all_whole whole n [] all = refl
  all_whole whole n (x ∷ xs) all =
      let sum = sum_by-cons parts x xs in
      let here : parts x ≤ n = omega arith in
      let rest : sum_by parts xs ≤ n - parts x = omega arith in
      let start : 0 - parts x ≡ 0 = omega arith in
      ap (λ y. y ∷ all_with_parts_between parts cut (0 - parts x) (n - parts x) xs) (whole n x here)
      ∙ ap (λ from. x ∷ all_with_parts_between parts cut from (n - parts x) xs) start
      ∙ ap (λ ys. x ∷ ys) (all_whole whole (n - parts x) xs rest)

-- the nodes from i on: node i, and then those after it
pub from_one_on : {B : Type 0} (nodes : List B) (i : ℕ) (node : B) → i < length nodes → node ≡ get_or nodes i node
    → drop i nodes ≡ node ∷ drop (i + 1) nodes
from_one_on nodes i node within is = cc (drop-cons nodes i node within, add-one i)

module _ {A B : Type 0} (model : B → A) (parts : A → ℕ) (cut : ℕ → ℕ → A → A) (from to : ℕ) (nodes : List B) (i : ℕ)
    (node : B) (done all : List A) (within : i < length nodes) (is : node ≡ get_or nodes i node) where
  -- one more node is copied
  pub between_more : from < min to (parts (model node))
      → done ++ parts_between parts cut from to (map model (drop i nodes)) ≡ all
      → (done ++ cut from to (model node) ∷ [])
      ++ parts_between parts cut (from - parts (model node)) (to - parts (model node)) (map model (drop (i + 1) nodes)) ≡ all
  between_more some before =
      append_assoc done (cut from to (model node) ∷ [])
      (parts_between parts cut (from - parts (model node)) (to - parts (model node)) (map model (drop (i + 1) nodes)))
      ∙ ap (λ xs. done ++ xs) (sym (node_kept parts cut from to (model node) (map model (drop (i + 1) nodes)) some))
      ∙ ap (λ xs. done ++ parts_between parts cut from to (map model xs)) (sym (from_one_on nodes i node within is))
      ∙ before

  -- one more node is left out
  pub between_less : min to (parts (model node)) ≤ from
      → done ++ parts_between parts cut from to (map model (drop i nodes)) ≡ all
      → done
      ++ parts_between parts cut (from - parts (model node)) (to - parts (model node)) (map model (drop (i + 1) nodes)) ≡ all
  between_less none before =
      ap (λ xs. done ++ xs) (sym (node_left_out parts cut from to (model node) (map model (drop (i + 1) nodes)) none))
      ∙ ap (λ xs. done ++ parts_between parts cut from to (map model xs)) (sym (from_one_on nodes i node within is))
      ∙ before

  pub all_more : done ++ all_with_parts_between parts cut from to (map model (drop i nodes)) ≡ all
      → (done ++ cut from to (model node) ∷ [])
      ++ all_with_parts_between parts cut (from - parts (model node)) (to - parts (model node)) (map model (drop (i + 1) nodes)) ≡ all
  all_more before =
      append_assoc done (cut from to (model node) ∷ [])
      (all_with_parts_between parts cut (from - parts (model node)) (to - parts (model node)) (map model (drop (i + 1) nodes)))
      ∙ ap (λ xs. done ++ all_with_parts_between parts cut from to (map model xs)) (sym (from_one_on nodes i node within is))
      ∙ before
