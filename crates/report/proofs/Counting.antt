-- One more packet at a position.
use Rattle.report.proofs.Imports.{List, [], ap, arith, changed, changed_from_one, get_or, inl, inr, length, refl, set, suc, zero, ℕ, ◌-◌, ◌<◌, ◌∙◌, ◌∷◌, ◌≡◌}
use Rattle.report.proofs.Imports.{◌≤◌}
use Rattle.std.proofs.Common.{◌⊎◌}

-- ---- what a write changes

pub set_there : {A : Type 0} (f : A → A) (n : ℕ) (xs : List A) (x y : A) → n < length xs → x ≡ get_or xs n x → y ≡ f x
    → set xs n y ≡ changed f n xs
set_there f n [] x y lt is to = absurd (omega (arith, lt))
set_there f zero (z ∷ zs) x y lt is to = ap (λ w. w ∷ zs) (to ∙ ap f is)
set_there f (suc n) (z ∷ zs) x y lt is to = ap (λ ws. z ∷ ws) (set_there f n zs x y (omega (arith, lt)) is to)

pub none_there : {A : Type 0} (f : A → A) (n : ℕ) (xs : List A) → length xs ≤ n → xs ≡ changed f n xs
none_there f n [] past = refl
none_there f zero (z ∷ zs) past = absurd (omega (arith, past))
none_there f (suc n) (z ∷ zs) past = ap (λ ws. z ∷ ws) (none_there f n zs (omega (arith, past)))

pub set_from_one : {A : Type 0} (f : A → A) (n : ℕ) (xs : List A) (x y : A) → 0 < n → n ≤ length xs
    → x ≡ get_or xs (n - 1) x → y ≡ f x → set xs (n - 1) y ≡ changed_from_one f n xs
set_from_one f zero xs x y some within is to = absurd (omega (arith, some))
set_from_one f (suc n) xs x y some within is to =
    let same : suc n - 1 ≡ n = omega arith in
    ap (λ k. set xs k y) same ∙ set_there f n xs x y (omega (arith, within)) (is ∙ ap (λ k. get_or xs k x) same) to

pub none_from_one : {A : Type 0} (f : A → A) (n : ℕ) (xs : List A) → (n ≡ 0) ⊎ (length xs < n)
    → xs ≡ changed_from_one f n xs
none_from_one f zero xs h = refl
none_from_one f (suc n) xs (inl is) = absurd (omega (arith, is))
none_from_one f (suc n) xs (inr past) = none_there f n xs (omega (arith, past))
