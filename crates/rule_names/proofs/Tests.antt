-- `any` over lists of lists.
use Rattle.std.proofs.Common.{arith}
use Rattle.rule_names.proofs.Names.{Bool, List, None, Option, Some, Text, [], any_of_map, ap, ap₂, false, get_or, length, list_any, map, refl, sym, take}
use Rattle.rule_names.proofs.Names.{true, ℕ, ◌+◌, ◌<◌, ◌||◌, ◌∙◌, ◌∷◌, ◌≡◌}
use Rattle.std.specs.Prelude.{flat_map}
use Rattle.std.specs.List.{cons_option, filter_map}
use Rattle.std.proofs.lemmas.List.Folds.{list_any-append, list_any_at, list_any_more}
use Rattle.rule_names.specs.Names.{one_or_none}

pub any-flat : {X Y : Type 0} (p : Y → Bool) (f : X → List Y) (xs : List X) → list_any (λ x. list_any p (f x)) xs ≡ list_any p (flat_map f xs)
any-flat p f [] = refl
any-flat p f (x ∷ xs) = ap (λ b. list_any p (f x) || b) (any-flat p f xs) ∙ sym (list_any-append p (f x) (flat_map f xs))

-- the same over the trees of what a slice has
pub any-viewed : {S X Y : Type 0} (p : Y → Bool) (f : X → List Y) (view : S → X) (xs : List S)
    → list_any (λ x. list_any p (f (view x))) xs ≡ list_any p (flat_map f (map view xs))
any-viewed p f view xs = any_of_map (λ t. list_any p (f t)) view xs ∙ any-flat p f (map view xs)

-- one more element, which fails
pub any-more : {S : Type 0} (test : S → Bool) (xs : List S) (i : ℕ) (x : S) → i < length xs → x ≡ get_or xs i x
    → list_any test (take i xs) ≡ false → false ≡ test x → list_any test (take (i + 1) xs) ≡ false
any-more test xs i x inside is before fails = list_any_more test xs i x inside ∙ ap₂ (λ a b. a || b) before (ap test (sym is) ∙ sym fails)

-- one element, which passes
pub any-here : {S : Type 0} (test : S → Bool) (xs : List S) (i : ℕ) (x : S) → i < length xs → x ≡ get_or xs i x → true ≡ test x
    → true ≡ list_any test xs
any-here test xs i x inside is passes = sym (list_any_at test xs i x inside (ap test (sym is) ∙ sym passes))

pub any-one : (p : Text → Bool) (o : Option Text) (rest : List Text) → list_any p (one_or_none o) || list_any p rest ≡ list_any p (cons_option o rest)
any-one p None rest = refl
any-one p (Some name) rest = grind arith

pub any-picked : {X : Type 0} (p : Text → Bool) (f : X → Option Text) (xs : List X)
    → list_any (λ x. list_any p (one_or_none (f x))) xs ≡ list_any p (filter_map f xs)
any-picked p f [] = refl
any-picked p f (x ∷ xs) = ap (λ b. list_any p (one_or_none (f x)) || b) (any-picked p f xs) ∙ any-one p (f x) (filter_map f xs)
