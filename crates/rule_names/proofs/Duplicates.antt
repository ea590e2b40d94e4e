-- Duplicate names in lists.
use Rattle.rule_names.proofs.Names.{Bool, Contains, HasDuplicate, IsAdded, List, Text, [], any_of_map, ap, arith, bytes_eq, false, get_or, inr, length}
use Rattle.rule_names.proofs.Names.{list_any, map-append, refl, subst, sym, true, ℕ, ⊎_elim, ◌++◌, ◌<◌, ◌∙◌, ◌∷◌, ◌≡◌}
use Rattle.std.proofs.Common.{inl, not, suc, zero, ◌⊎◌}
use Rattle.std.specs.Prelude.{Vec, if◌then◌else◌}
use Rattle.std.specs.declared.alloc.Global.{Global}
use Rattle.std.specs.Cmp.Lexicographic.{same_text}
use Rattle.std.proofs.lemmas.Bool.{cases_lt}
use Rattle.std.proofs.lemmas.List.{get_or_append_left, get_or_default, get_or_push, length-append, length_push}
use Rattle.std.proofs.lemmas.List.Folds.{list_any-from_Any}
use Rattle.std.proofs.lemmas.Map.Views.{Contains-from_any}
use Rattle.list_laws.specs.Elements.{Contains-at}
use Rattle.list_laws.specs.Lists.{text-refl}
use Rattle.rule_names.specs.steps.Index.{texts}
use Rattle.rule_names.proofs.IndexLookup.{named}

pub repeats-more : (n : Text) (names : List Text) → HasDuplicate names → HasDuplicate (n ∷ names)
repeats-more n names r = let a = r.apart in let w =
    r.within in record { first = suc r.first; second = suc r.second; apart = omega arith; within = omega arith; same = r.same }

pub repeats-here : (name : Text) (names : List Text) → Contains names name → HasDuplicate (name ∷ names)
repeats-here name names a =
    let w = a.1 in
    record { first = zero; second = suc a.0; apart = omega arith; within = omega arith; same = sym a.2 ∙ get_or_default names a.0 name [] w }

pub repeats-at : (n : Text) (names : List Text) (i j : ℕ) → i < j → j < length (n ∷ names) → get_or (n ∷ names) i []
    ≡ get_or (n ∷ names) j [] → Contains names n ⊎ HasDuplicate names
repeats-at n names i zero a w e = absurd (omega (arith, a))
repeats-at n names zero (suc j) a w e = inl (Contains-at names j [] n (omega (arith, w)) (sym e))
repeats-at n names (suc i) (suc j) a w e = inr (record { first = i; second = j; apart = omega (arith, a); within = omega (arith, w); same = e })

pub repeats-split : (n : Text) (names : List Text) → HasDuplicate (n ∷ names) → Contains names n ⊎ HasDuplicate names
repeats-split n names r = repeats-at n names r.first r.second r.apart r.within r.same

pub repeats-none : HasDuplicate [] → ⊥
repeats-none r = let w = r.within in omega arith

-- ---- one more name

pub any-named : (names : List Text) (name : Text) → list_any (bytes_eq name) names ≡ true → Contains names name
any-named names name t = Contains-from_any (λ x y e. same_text x y (sym e)) name names t

pub named-any : (names : List Text) (name : Text) → Contains names name → list_any (bytes_eq name) names ≡ true
named-any names name a = list_any-from_Any (bytes_eq name) names (a.0, name, a.1, a.2, text-refl name)

pub among-front : (names : List Text) (name : Text) (rest : List Text) → Contains names name → HasDuplicate (names ++ name ∷ rest)
among-front names name rest a =
    let n = length_push names name in
    let w = a.1 in
    record {
      first = a.0;
      second = length names;
      apart = w;
      within = repeats-room names name rest;
      same = get_or_append_left names (name ∷ rest) [] a.0 w ∙ get_or_default names a.0 [] name w ∙ a.2 ∙ sym (first-after names name rest);
    }
  where
    repeats-room : (names : List Text) (name : Text) (rest : List Text) → length names < length (names ++ name ∷ rest)
    repeats-room [] name rest = omega arith
    repeats-room (n ∷ ns) name rest = let h = repeats-room ns name rest in omega arith

    first-after : (names : List Text) (name : Text) (rest : List Text) → get_or (names ++ name ∷ rest) (length names) [] ≡ name
    first-after [] name rest = refl
    first-after (n ∷ ns) name rest = first-after ns name rest

pub apart-more : (names : List Text) (name : Text) → (HasDuplicate names → ⊥) → list_any (bytes_eq name) names ≡ false → HasDuplicate (names ++ name ∷ []) → ⊥
apart-more names name apart absent r =
    let n = length_push names name in
    let a = r.apart in
    let w = r.within in
    let front : r.first < length names = omega arith in
    let first = get_or_append_left names (name ∷ []) [] r.first front in
    ⊎_elim
    (λ l. apart (record {
      first = r.first;
      second = r.second;
      apart = r.apart;
      within = l;
      same =
          sym first ∙ r.same ∙ get_or_append_left names (name ∷ []) [] r.second l;
    }))
    (λ l.
    let t = named-any names name (Contains-at names r.first [] name front (sym first
    ∙ r.same ∙ get_or_push names name [] r.second (let e : length names ≡ r.second = omega arith in e))) in
    let q : true ≡ false = sym t ∙ absent in
    cc)
    (cases_lt r.second (length names))

pub repeats-on : (names more : List Text) → HasDuplicate names → HasDuplicate (names ++ more)
repeats-on names more r = grind (arith, length-append, r.apart, r.within, r.first, r.second, get_or_append_left, r.same)

-- one more key
pub key-added : (keys new : List (Vec ℕ Global)) (key : Vec ℕ Global) (stands fresh : Bool) → list_any (named key.items) keys
    ≡ stands → fresh ≡ not stands → new ≡ (if stands then keys else keys ++ key ∷ [])
    → (HasDuplicate (texts keys) → ⊥) → IsAdded (texts keys) key.items (texts new) fresh × (HasDuplicate (texts new) → ⊥)
key-added keys new key true fresh t f is apart = (
  subst (IsAdded (texts keys) key.items (texts new)) (sym f)
      (among-front (texts keys) key.items [] (any-named (texts keys) key.items
      (sym (any_of_map (bytes_eq key.items) (λ k. k.items) keys) ∙ t))),
  subst (λ ks. HasDuplicate (texts ks) → ⊥) (sym is) apart,
)
key-added keys new key false fresh t f is apart =
    let more : texts new ≡ texts keys ++ key.items ∷ [] = ap texts is ∙ map-append (λ k. k.items) keys (key ∷ []) in
    let still : HasDuplicate (texts new) → ⊥ =
    subst (λ ns. HasDuplicate ns → ⊥) (sym more)
    (apart-more (texts keys) key.items apart (sym (any_of_map (bytes_eq key.items) (λ k. k.items) keys) ∙ t)) in
    (subst (IsAdded (texts keys) key.items (texts new)) (sym f) (more, still), still)
