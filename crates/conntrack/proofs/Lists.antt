-- Lemmas on lists: searches in filtered lists.
use Rattle.conntrack.proofs.Names.{Bool, List, None, Some, [], ap, arith, false, filter, find, find-filter, list_all, list_any, map, not, refl, true, ◌&&◌}
use Rattle.conntrack.proofs.Names.{is_some, ◌||◌, ◌∷◌, ◌≡◌}

pub ruleset find_filter_rules = (find-filter)

-- where none fails, a filter keeps all
pub filter_where_none : {X : Type 0} (p : X → Bool) (xs : List X) → find (λ x. not (p x)) xs ≡ None → filter p xs ≡ xs
filter_where_none p [] h = refl
filter_where_none p (x ∷ xs) h = grind (arith, filter_where_none p xs)

-- what no element passes, none of a filter's does
pub list_any-filter : {X : Type 0} (t p : X → Bool) (xs : List X) → list_any t xs ≡ false → list_any t (filter p xs) ≡ false
list_any-filter t p [] h = refl
list_any-filter t p (x ∷ xs) h = grind (arith, list_any-filter t p xs)

pub list_any_either : {X : Type 0} (p q : X → Bool) (xs : List X) → find p xs ≡ None → find q xs ≡ None
    → list_any (λ x. p x || q x) xs ≡ false
list_any_either p q [] h k = refl
list_any_either p q (x ∷ xs) h k = grind (arith, list_any_either p q xs)

pub list_any_found : {X : Type 0} (p q : X → Bool) (xs : List X) (x : X) → find p xs ≡ Some x → list_any (λ x. p x || q x) xs ≡ true
list_any_found p q [] x h = cc
list_any_found p q (y ∷ xs) x h = grind (arith, list_any_found p q xs x)

pub none_passes : {X : Type 0} (p : X → Bool) (xs : List X) → find p xs ≡ None → list_any p xs ≡ false
none_passes p [] h = refl
none_passes p (x ∷ xs) h = grind (arith, none_passes p xs)

-- one is found where one passes
pub is_some-find : {X : Type 0} (p : X → Bool) (xs : List X) → is_some (find p xs) ≡ list_any p xs
is_some-find p [] = refl
is_some-find p (x ∷ xs) = grind (arith, is_some-find p xs)

-- a filter and a map that change along
pub map-filter-change : {A B : Type 0} (f g : A → B) (p q : A → Bool) (r : B → Bool) (u : B → B) (t : A → Bool)
    → ((c : A) → t c ≡ true → (p c ≡ (q c && r (f c))) × (g c ≡ u (f c))) → (cs : List A) → list_all t cs ≡ true
    → map g (filter p cs) ≡ map u (filter r (map f (filter q cs)))
map-filter-change f g p q r u t h [] all = refl
map-filter-change f g p q r u t h (c ∷ cs) all = grind (arith, h c, map-filter-change f g p q r u t h cs)

pub map-filter-later : {A B : Type 0} (f : A → B) (q : A → Bool) (p : B → Bool) (xs : List A)
    → map f (filter (λ x. q x && p (f x)) xs) ≡ filter p (map f (filter q xs))
map-filter-later f q p [] = refl
map-filter-later f q p (x ∷ xs) = grind (arith, map-filter-later f q p xs)

pub filter-map : {A B : Type 0} (f : A → B) (p : B → Bool) (xs : List A) → filter p (map f xs) ≡ map f (filter (λ x. p (f x)) xs)
filter-map f p [] = refl
filter-map f p (x ∷ xs) = grind (arith, filter-map f p xs)

pub filter-true : {X : Type 0} (xs : List X) → filter (λ x. true) xs ≡ xs
filter-true [] = refl
filter-true (x ∷ xs) = ap (λ ys. x ∷ ys) (filter-true xs)

pub filter-swap : {X : Type 0} (p q : X → Bool) (xs : List X) → filter p (filter q xs) ≡ filter q (filter p xs)
filter-swap p q [] = refl
filter-swap p q (x ∷ xs) = grind (arith, filter-swap p q xs)

-- a filter after a weaker one
pub filter_again : {X : Type 0} (p q : X → Bool) (xs : List X) → ((x : X) → p x ≡ true → q x ≡ true) → filter p (filter q xs) ≡ filter p xs
filter_again p q [] h = refl
filter_again p q (x ∷ xs) h = grind (arith, h x, filter_again p q xs h)
