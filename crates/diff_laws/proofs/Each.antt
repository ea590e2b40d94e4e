-- What holds of each element of a list.
use Rattle.std.specs.Prelude.{All, Contains, IfSome, filter, find, slice_get}
use Rattle.std.specs.List.{cons_option, filter_map, flat_map, list_any}
use Rattle.std.specs.Option.{option_map}
use Rattle.std.proofs.Common.{◌≡◌, ℕ, zero, suc, ◌||◌, Bool, true, false, cond, List, [], ◌∷◌, ◌++◌, map, Option, Some, None, refl, subst}
use Rattle.std.proofs.lemmas.List.Elements.{All-contains, All-from_recursion, All-head, All-tail}
use Rattle.diff_laws.specs.Addresses.{Every}

module _ {X : Type 0} (P : X → Type 0) where
  pub each_from_all : (xs : List X) → All P xs → Every P xs
  each_from_all [] h = tt
  each_from_all (x ∷ xs) h = (All-head P x xs h, each_from_all xs (All-tail P x xs h))

  pub all_from_each : (xs : List X) → Every P xs → All P xs
  all_from_each xs h = All-from_recursion P xs h

  pub each_in : (xs : List X) (x : X) → Every P xs → Contains xs x → P x
  each_in xs x h c = All-contains P xs x (all_from_each xs h) c

  each_cond : (b : Bool) (x : X) (xs : List X) → P x → Every P xs → Every P (cond b (x ∷ xs) xs)
  each_cond true x xs p h = (p, h)
  each_cond false x xs p h = h

  pub each_filter : (t : X → Bool) (xs : List X) → Every P xs → Every P (filter t xs)
  each_filter t [] h = tt
  each_filter t (x ∷ xs) h = each_cond (t x) x (filter t xs) h.0 (each_filter t xs h.1)

  some_cond : (b : Bool) (x : X) (o : Option X) → P x → IfSome o P → IfSome (cond b (Some x) o) P
  some_cond true x o p h = p
  some_cond false x o p h = h

  pub each_find : (t : X → Bool) (xs : List X) → Every P xs → IfSome (find t xs) P
  each_find t [] h = tt
  each_find t (x ∷ xs) h = some_cond (t x) x (find t xs) h.0 (each_find t xs h.1)

  pub each_append : (xs ys : List X) → Every P xs → Every P ys → Every P (xs ++ ys)
  each_append [] ys h k = k
  each_append (x ∷ xs) ys h k = (h.0, each_append xs ys h.1 k)

  pub each_get : (xs : List X) (i : ℕ) → Every P xs → IfSome (slice_get xs i) P
  each_get [] i h = tt
  each_get (x ∷ xs) zero h = h.0
  each_get (x ∷ xs) (suc i) h = each_get xs i h.1

  pub if_some_at : (o : Option X) (x : X) → o ≡ Some x → IfSome o P → P x
  if_some_at o x e h = subst (λ v. IfSome v P) e h

pub each_map : {X Y : Type 0} (P : X → Type 0) (Q : Y → Type 0) (f : X → Y) → ((x : X) → P x → Q (f x)) → (xs : List X) → Every P xs → Every Q (map f xs)
each_map P Q f g [] h = tt
each_map P Q f g (x ∷ xs) h = (g x h.0, each_map P Q f g xs h.1)

pub each_flat_map : {X Y : Type 0} (P : X → Type 0) (Q : Y → Type 0) (f : X → List Y) → ((x : X) → P x → Every Q (f x)) → (xs : List X) → Every P xs
    → Every Q (flat_map f xs)
each_flat_map P Q f g [] h = tt
each_flat_map P Q f g (x ∷ xs) h = each_append Q (f x) (flat_map f xs) (g x h.0) (each_flat_map P Q f g xs h.1)

pub some_map : {X Y : Type 0} (P : X → Type 0) (Q : Y → Type 0) (f : X → Y) → ((x : X) → P x → Q (f x)) → (o : Option X) → IfSome o P
    → IfSome (option_map f o) Q
some_map P Q f g None h = tt
some_map P Q f g (Some x) h = g x h

pub some_weaker : {X : Type 0} (P Q : X → Type 0) → ((x : X) → P x → Q x) → (o : Option X) → IfSome o P → IfSome o Q
some_weaker P Q g None h = tt
some_weaker P Q g (Some x) h = g x h

pub some_always : {X : Type 0} (Q : X → Type 0) → ((x : X) → Q x) → (o : Option X) → IfSome o Q
some_always Q g None = tt
some_always Q g (Some x) = g x

pub each_always : {X : Type 0} (Q : X → Type 0) → ((x : X) → Q x) → (xs : List X) → Every Q xs
each_always Q g [] = tt
each_always Q g (x ∷ xs) = (g x, each_always Q g xs)

pub each_weaker : {X : Type 0} (P Q : X → Type 0) → ((x : X) → P x → Q x) → (xs : List X) → Every P xs → Every Q xs
each_weaker P Q g [] h = tt
each_weaker P Q g (x ∷ xs) h = (g x h.0, each_weaker P Q g xs h.1)

pub each_both : {X : Type 0} (P Q : X → Type 0) (xs : List X) → Every P xs → Every Q xs → Every (λ x. P x × Q x) xs
each_both P Q [] h k = tt
each_both P Q (x ∷ xs) h k = ((h.0, k.0), each_both P Q xs h.1 k.1)

each_listed : {Y : Type 0} (Q : Y → Type 0) (o : Option Y) (ys : List Y) → IfSome o Q → Every Q ys → Every Q (cons_option o ys)
each_listed Q None ys h k = k
each_listed Q (Some y) ys h k = (h, k)

pub each_filter_map : {X Y : Type 0} (P : X → Type 0) (Q : Y → Type 0) (g : X → Option Y) → ((x : X) → P x → IfSome (g x) Q) → (xs : List X)
    → Every P xs → Every Q (filter_map g xs)
each_filter_map P Q g w [] h = tt
each_filter_map P Q g w (x ∷ xs) h = each_listed Q (g x) (filter_map g xs) (w x h.0) (each_filter_map P Q g w xs h.1)

-- ---- tests that none passes

pub neither : (a b : Bool) → (a || b) ≡ false → (a ≡ false) × (b ≡ false)
neither true b e = absurd cc
neither false b e = (refl, e)

pub none_passes : {X : Type 0} (t : X → Bool) (xs : List X) → list_any t xs ≡ false → Every (λ x. t x ≡ false) xs
none_passes t [] e = tt
none_passes t (x ∷ xs) e =
    let both : (t x ≡ false) × (list_any t xs ≡ false) = neither (t x) (list_any t xs) e in (both.0, none_passes t xs both.1)

pub never : (b : Bool) → (b ≡ true → ⊥) → b ≡ false
never true h = absurd (h refl)
never false h = refl
