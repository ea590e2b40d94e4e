-- Lemmas about options.
use Rattle.std.proofs.Common.{◌≡◌, Bool, true, false, cond, Option, Some, None, ◌⊎◌, inl, inr, refl}
use Rattle.std.specs.Prelude.{IfSome}
use Rattle.std.specs.Option.{option_map}

pub option_cases : {A : Type 0} (o : Option A) → (o ≡ None) ⊎ ((x : A) × (o ≡ Some x))
option_cases None = inl refl
option_cases (Some x) = inr (x, refl)

pub none_not_some : {A : Type 0} (o : Option A) (x : A) → o ≡ None → o ≡ Some x → ⊥
none_not_some o x none some = cc

pub some_unique : {A : Type 0} (o : Option A) (x y : A) → o ≡ Some x → o ≡ Some y → x ≡ y
some_unique o x y e f = cc

pub some_of_map : {A B : Type 0} (f : A → B) (o : Option A) (y : B) → option_map f o ≡ Some y
    → (x : A) × (o ≡ Some x) × (f x ≡ y)
some_of_map f None y h = cc
some_of_map f (Some x) y h = (x, refl, cc)

-- ---- and_then

infixl 10 ◌>>=◌
abbrev pub ◌>>=◌ : {A B : Type 0} → Option A → (A → Option B) → Option B
None >>= f = None
(Some x) >>= f = f x

-- ---- `IfSome`

pub IfSome_at : {A : Type 0} (o : Option A) (P : A → Type 0) (x : A) → o ≡ Some x → IfSome o P → P x
IfSome_at o P x e h = rw e at h

pub IfSome_weaker : {A : Type 0} (o : Option A) (P Q : A → Type 0) → ((x : A) → P x → Q x) → IfSome o P
    → IfSome o Q
IfSome_weaker None P Q k h = tt
IfSome_weaker (Some x) P Q k h = k x h

pub IfSome_cond : {A : Type 0} (Q : A → Type 0) (b : Bool) (x : A) → (b ≡ true → Q x)
    → IfSome (cond b (Some x) None) Q
IfSome_cond Q true x h = h refl
IfSome_cond Q false x h = tt

-- for `o >>= f` it is enough to know it of `f x`, for each `x` that `o` may hold
pub IfSome_bind : {A B : Type 0} {P : A → Type 0} (Q : B → Type 0) (o : Option A) (f : A → Option B)
    → IfSome o P → ((x : A) → P x → IfSome (f x) Q) → IfSome (o >>= f) Q
IfSome_bind Q None f h k = tt
IfSome_bind Q (Some x) f h k = k x h
