-- Ranges of lists.
use Rattle.std.proofs.Common.{◌≡◌, ℕ, ◌-◌, ◌≤◌, min, List, [], length, take, drop, map, sym, ap, ◌∙◌, inl, inr, arith}
use Rattle.std.specs.List.{slice_range}
use Rattle.std.proofs.lemmas.Bool.{cases_lt}
use Rattle.std.proofs.lemmas.List.{take_all, take_min, take-map, drop-map, length-drop}

-- from the start to the end or past it
pub whole_range : {A : Type 0} (n : ℕ) (xs : List A) → length xs ≤ n → slice_range xs 0 n ≡ xs
whole_range n xs all = take_all (n - 0) xs (omega (arith, all))

same_front : {A : Type 0} (a b : ℕ) (xs : List A) → min a (length xs) ≡ min b (length xs) → take a xs ≡ take b xs
same_front a b xs e = sym (take_min a xs) ∙ ap (λ n. take n xs) e ∙ take_min b xs

empty_front : {A : Type 0} (n : ℕ) (xs : List A) → min n (length xs) ≡ 0 → take n xs ≡ []
empty_front n xs e = sym (take_min n xs) ∙ ap (λ k. take k xs) e

-- a range that is cut off at the end of the list
pub range_inside : {A : Type 0} (from to start end : ℕ) (xs : List A) → end ≡ min to (length xs) → start ≡ min from end
    → slice_range xs start end ≡ slice_range xs from to
range_inside from to start end xs is_end is_start =
    let long = length-drop from xs in
    elim (cases_lt from end) [
      | inl below ↦ (let is : start ≡ from = omega arith in
          let same : min (end - from) (length (drop from xs)) ≡ min (to - from) (length (drop from xs)) = omega arith in
          ap (λ i. take (end - i) (drop i xs)) is ∙ same_front (end - from) (to - from) (drop from xs) same)
      | inr past ↦ (let none : end - start ≡ 0 = omega arith in
          let empty : min (to - from) (length (drop from xs)) ≡ 0 = omega arith in
          ap (λ n. take n (drop start xs)) none ∙ sym (empty_front (to - from) (drop from xs) empty))
    ]

pub range-map : {A B : Type 0} (f : A → B) (from to : ℕ) (xs : List A)
    → map f (slice_range xs from to) ≡ slice_range (map f xs) from to
range-map f from to xs =
    sym (take-map f (to - from) (drop from xs)) ∙ ap (take (to - from)) (sym (drop-map f from xs))
