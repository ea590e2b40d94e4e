-- Searches in lists, and one more line, as in an iteration of a loop.
use Rattle.box_file.proofs.Names.{AllByRecursion, Bool, IfSome, List, Option, Some, [], ap, cases_Bool, cond_both, cons_option, false, filter_map}
use Rattle.box_file.proofs.Names.{filter_map-append, find, get_or, inl, inr, is_some, length, list_any, map, map_more, or_parts, refl, sym, take, ℕ, ◌++◌, ◌+◌}
use Rattle.box_file.proofs.Names.{◌<◌, ◌∙◌, ◌∷◌, ◌≡◌}

-- what holds of each element holds of the one that a search finds
pub found_all : {A : Type 0} (P : A → Type 0) (p : A → Bool) (xs : List A) → AllByRecursion P xs → IfSome (find p xs) P
found_all P p [] h = tt
found_all P p (x ∷ xs) h = cond_both (p x) (Some x) (find p xs) (λ o. IfSome o P) (λ e. h.0) (λ e. found_all P p xs h.1)

pub each_fails : {A : Type 0} (p : A → Bool) (xs : List A) → list_any p xs ≡ false → AllByRecursion (λ x. p x ≡ false) xs
each_fails p [] e = tt
each_fails p (x ∷ xs) e = let h = or_parts (p x) (list_any p xs) e in (h.0, each_fails p xs h.1)

pub some-found : {A : Type 0} (p : A → Bool) (xs : List A) → is_some (find p xs) ≡ list_any p xs
some-found p [] = refl
some-found p (x ∷ xs) = elim (cases_Bool (p x)) [ inl e ↦ rw e refl | inr e ↦ rw e (some-found p xs) ]

-- a loop over the list is at this index, with this element
pub record IsAt {X : Type 0} (xs : List X) (i : ℕ) (x : X) : Type 0 where
  pub within : i < length xs
  pub item : x ≡ get_or xs i x

pub taken_if : {X Y B : Type 0} (t : X → Y) (f : Y → Option B) {xs : List X} {i : ℕ} {x : X} {before after : List B} → IsAt xs i x
    → before ≡ filter_map f (map t (take i xs)) → after ≡ before ++ cons_option (f (t x)) []
    → after ≡ filter_map f (map t (take (i + 1) xs))
taken_if t f {xs} {i} {x} here so_far added = rw (added, so_far, here.item)
    (sym (ap (filter_map f) (map_more t xs i x here.within) ∙ filter_map-append f (map t (take i xs)) (t (get_or xs i x) ∷ [])))
