-- The values of tables that are built entry by entry.
use Rattle.lowering.proofs.Names.{None, Option, Range, Some, Table, [], arith, entry_gives, first_value, is_some, option_map, option_or, refl, ℕ, ◌++◌, ◌||◌}
use Rattle.lowering.proofs.Names.{◌∷◌, ◌≡◌}

pub or-none : {A : Type 0} (o : Option A) → option_or o None ≡ o
or-none None = refl
or-none (Some x) = refl

pub or-twice : {A : Type 0} (a b c : Option A) → option_or (option_or a b) c ≡ option_or a (option_or b c)
or-twice None b c = refl
or-twice (Some x) b c = refl

pub map-or : {A B : Type 0} (f : A → B) (a b : Option A)
    → option_map f (option_or a b) ≡ option_or (option_map f a) (option_map f b)
map-or f None b = refl
map-or f (Some x) b = refl

pub some-or : {A : Type 0} (a b : Option A) → is_some (option_or a b) ≡ (is_some a || is_some b)
some-or None b = refl
some-or (Some x) b = refl

pub entry-more : {V : Type 0} (xs : Table V) (e : Range × V) (n : ℕ)
    → first_value (xs ++ e ∷ []) n ≡ option_or (first_value xs n) (entry_gives (Some e) n)
entry-more [] e n = refl
entry-more (x ∷ xs) e n = grind (arith, x.0, option_or, x.1, (entry-more xs e n))
