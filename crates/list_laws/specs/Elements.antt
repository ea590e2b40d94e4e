-- Lemmas about the elements of lists.
use Rattle.std.proofs.Common.{◌≡◌, ◌⊎◌, ℕ, zero, suc, ◌+◌, ◌<◌, ◌≤◌, List, [], ◌∷◌, ◌++◌, length, get_or, set, take}
use Rattle.std.proofs.Common.{sym, refl, ap, subst, ◌∙◌, inl, inr, ⊎_elim, arith, get_or-set_same, get_or-set_other}
use Rattle.std.proofs.Common.{map, Bool, true, false, ◌||◌}
use Rattle.std.specs.Prelude.{All, Contains}
use Rattle.std.proofs.lemmas.Bool.{cases_eq}
use Rattle.std.proofs.lemmas.List.{get_or_append_left, get_or_push, length_push, get_or_default, length-map, get_or-take, length-take-le, take_more}
use Rattle.std.proofs.lemmas.List.Elements.{Contains-push_cases}
use Rattle.std.proofs.Math.ListN.{get_or-map}
use Rattle.list_laws.specs.Lists.{Contains-head}

pub Contains-map : {X Y : Type 0} (f : X → Y) (xs : List X) (x : X) → Contains xs x
    → Contains (map f xs) (f x)
Contains-map f xs x h =
    let n = length-map xs f in let l = h.1 in (h.0, omega arith, get_or-map f xs h.0 x ∙ ap f h.2)

pub Contains-tail : {X : Type 0} (y : X) (xs : List X) (x : X) → Contains xs x → Contains (y ∷ xs) x
Contains-tail y xs x h = let l = h.1 in (suc h.0, omega arith, h.2)

pub Contains-cases-at : {X : Type 0} (y : X) (xs : List X) (x : X) (k : ℕ) → k < length (y ∷ xs)
    → get_or (y ∷ xs) k x ≡ x → (y ≡ x) ⊎ Contains xs x
Contains-cases-at y xs x zero l e = inl e
Contains-cases-at y xs x (suc k) l e = inr (k, omega (arith, l), e)

pub Contains-cases : {X : Type 0} (y : X) (xs : List X) (x : X) → Contains (y ∷ xs) x
    → (y ≡ x) ⊎ Contains xs x
Contains-cases y xs x h = Contains-cases-at y xs x h.0 h.1 h.2

pub Contains-unmap : {X Y : Type 0} (f : X → Y) (xs : List X) (y : Y) → Contains (map f xs) y
    → (x : X) × Contains xs x × (f x ≡ y)
Contains-unmap f [] y h = let l = h.1 in absurd (omega arith)
Contains-unmap f (x ∷ xs) y h = ⊎_elim
    (λ e. (x, Contains-head x xs, e))
    (λ r. let more = Contains-unmap f xs y r in (more.0, Contains-tail x xs more.0 more.1, more.2))
    (Contains-cases (f x) (map f xs) y h)

pub Contains-at : {X : Type 0} (xs : List X) (i : ℕ) (d x : X) → i < length xs → get_or xs i d ≡ x
    → Contains xs x
Contains-at xs i d x h e = (i, h, get_or_default xs i x d h ∙ e)

pub none-in-empty : (x : ℕ) → Contains [] x → ⊥
none-in-empty x h = let l = h.1 in omega arith

pub empty-All : (P : ℕ → Type 0) → All P []
empty-All P k d h = absurd (omega (arith, h))

-- a list without its last element
pub All-front : {X : Type 0} (P : X → Type 0) (xs : List X) (x : X) → All P (xs ++ x ∷ []) → All P xs
All-front P xs x all k d h =
    subst P (get_or_append_left xs (x ∷ []) d k h) (all k d (let n = length_push xs x in omega arith))

pub All-last : {X : Type 0} (P : X → Type 0) (xs : List X) (x : X) → All P (xs ++ x ∷ []) → P x
All-last P xs x all =
    subst P (get_or_push xs x x (length xs) refl)
    (all (length xs) x (let n = length_push xs x in omega arith))

-- an element of a prefix has an index within that prefix
pub take-index : (xs : List ℕ) (i x : ℕ) → i ≤ length xs → Contains (take i xs) x
    → (j : ℕ) × (j < i) × (get_or xs j 0 ≡ x)
take-index xs i x h p =
    let n = length-take-le i xs h in
    let l = p.1 in
    let m : p.0 < i = omega arith in
    (p.0, m, get_or_default xs p.0 0 x (omega arith) ∙ sym (get_or-take i xs p.0 x m) ∙ p.2)

-- `P` of the nodes done so far still holds after one more entry of the table is set
pub set-known : {X : Type 0} (P : ℕ → X → Type 0) (order : List ℕ) (table : List X) (i c : ℕ) (v d : X)
    → i < length order → c ≡ get_or order i c → c < length table → P c v
    → ((x : ℕ) → Contains (take i order) x → P x (get_or table x d)) → (x : ℕ)
    → Contains (take (i + 1) order) x → P x (get_or (set table c v) x d)
set-known P order table i c v d h e l now before x k =
    ⊎_elim
    (λ same. subst (λ y. P y (get_or (set table c v) y d)) (sym same)
    (subst (P c) (sym (get_or-set_same table c v d l)) now))
    (λ other. subst (P x) (sym (get_or-set_other table c x v d other))
    (before x (⊎_elim (λ r. r) (λ r. absurd (other (sym r ∙ sym e)))
    (Contains-push_cases (take i order) (get_or order i c) x
    (subst (λ xs. Contains xs x) (take_more order i c h) k)))))
    (cases_eq x c)

pub or-assoc : (a b c : Bool) → a || (b || c) ≡ a || b || c
or-assoc true b c = refl
or-assoc false b c = refl
