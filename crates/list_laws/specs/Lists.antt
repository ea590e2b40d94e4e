-- Lemmas about lists.
use Rattle.std.proofs.Common.{◌≡◌, ℕ, ◌+◌, ◌-◌, ◌<◌, ◌≤◌, Bool, true, false, cond, ◌&&◌, ◌||◌, List, [], ◌∷◌, ◌++◌}
use Rattle.std.proofs.Common.{length, get_or, take, drop, map, Some, refl, sym, ap, ◌∙◌, arith}
use Rattle.std.specs.List.{Contains, filter, find, list_any}
use Rattle.std.specs.Str.{bytes_eq}
use Rattle.std.proofs.lemmas.Bool.{eq-eqb}
use Rattle.std.proofs.lemmas.List.{take_all, take_more, length-drop, map-append}

pub Contains-head : {X : Type 0} (x : X) (xs : List X) → Contains (x ∷ xs) x
Contains-head x xs = (0, omega arith, refl)

-- `any` of a mapped list
pub any_of_map : {X Y : Type 0} (p : Y → Bool) (h : X → Y) (xs : List X)
    → list_any (λ x. p (h x)) xs ≡ list_any p (map h xs)
any_of_map p h [] = refl
any_of_map p h (x ∷ xs) = ap (λ v. p (h x) || v) (any_of_map p h xs)

-- `find` in a filtered list
pub find-filter : {X : Type 0} (p q : X → Bool) (xs : List X)
    → find p (filter q xs) ≡ find (λ x. q x && p x) xs
find-filter p q [] = refl
find-filter p q (x ∷ xs) =
    let next = find-filter p q xs in
    elim (q x) as (λ v. find p (cond v (x ∷ filter q xs) (filter q xs))
    ≡ cond (v && p x) (Some x) (find (λ x. q x && p x) xs)) [
      | true ↦ ap (cond (p x) (Some x)) next
      | false ↦ next
    ]

-- `map` over a prefix that is one element longer
pub map-more : {X Y : Type 0} (h : X → Y) (xs : List X) (i : ℕ) (x : X) → i < length xs → x ≡ get_or xs i x
    → map h (take (i + 1) xs) ≡ map h (take i xs) ++ h x ∷ []
map-more h xs i x l e =
    ap (map h) (take_more xs i x l) ∙ map-append h (take i xs) (get_or xs i x ∷ [])
    ∙ ap (λ y. map h (take i xs) ++ h y ∷ []) (sym e)

-- a list with a first element is that element and the rest
pub head_and_rest : {X : Type 0} (xs : List X) (x : X) → 1 ≤ length xs → x ≡ get_or xs 0 x
    → xs ≡ x ∷ take (length xs - 1) (drop 1 xs)
head_and_rest [] x some is = absurd (omega arith)
head_and_rest (y ∷ ys) x some is =
    ap (λ z. z ∷ ys) (sym is) ∙ ap (λ l. x ∷ l) (sym (take_all (length (y ∷ ys) - 1) ys (omega arith)))

-- taking all that is left after `drop` takes it all
pub rest_from : (xs : List ℕ) (i : ℕ) → take (length xs - i) (drop i xs) ≡ drop i xs
rest_from xs i = take_all (length xs - i) (drop i xs) (omega (arith, length-drop i xs))

-- ---- texts

pub text-refl : (xs : List ℕ) → bytes_eq xs xs ≡ true
text-refl [] = refl
text-refl (x ∷ xs) = ap (λ b. b && bytes_eq xs xs) (eq-eqb x x refl) ∙ text-refl xs
