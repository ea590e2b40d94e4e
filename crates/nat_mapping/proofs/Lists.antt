-- What a search of the list finds is in it.
use Rattle.nat_mapping.proofs.Names.{Bool, Contains, Contains-cases, Contains-head, Contains-none, Contains-there, HoldsSame, IsOneToOne, List, Mapping, None}
use Rattle.nat_mapping.proofs.Names.{Some, [], arith, filter, find, get_or, holders_cons, holders_of, refl, same_mapping, subst, sym, true, ◌<◌, ◌∷◌, ◌≡◌}
use Rattle.std.proofs.lemmas.List.Elements.{All-contains, All-contains_itself, All-filter, filter_passes}
use Rattle.std.proofs.lemmas.List.Sums.{length-filter}
use Rattle.list_laws.specs.Elements.{Contains-at}
use Rattle.list_laws.specs.Filters.{has_filter}
use Rattle.nat_mapping.proofs.Equal.{mapping_test}

-- what a search finds is in the list and passes
pub found_among : {X : Type 0} (p : X → Bool) (xs : List X) (x : X) → find p xs ≡ Some x → Contains xs x × (p x ≡ true)
found_among p [] x e = cc
found_among p (y ∷ xs) x e = grind (arith, Contains-head y xs, Contains-there y x xs, found_among p xs x)

-- where it finds nothing, nothing passes
pub none_such : {X : Type 0} (p : X → Bool) (xs : List X) (x : X) → find p xs ≡ None → Contains xs x → p x ≡ true → ⊥
none_such p [] x e among passes = Contains-none x among
none_such p (y ∷ xs) x e among passes = grind (arith, Contains-cases y x xs among, none_such p xs x)

-- ---- a mapping with a holder is in the list

pub has_holder : (m : Mapping) (held : List Mapping) → Contains held m → 0 < holders_of m held
unfolding holders_of
has_holder m held among =
    omega (arith, (has_filter (same_mapping m) held m among (mapping_test.same m)).1, length-filter (same_mapping m) held)

pub is_among : (m : Mapping) (held : List Mapping) → 0 < holders_of m held → Contains held m
unfolding holders_of
is_among m held some =
    let p = same_mapping m in
    let first = Contains-at (filter p held) 0 m (get_or (filter p held) 0 m) (omega (arith, some, length-filter p held)) refl in
    subst (Contains held) (sym (mapping_test.exact m _ (All-contains (λ x. p x ≡ true) (filter p held) _ (filter_passes p held) first)))
    (All-contains (Contains held) (filter p held) _ (All-filter p (Contains held) held (All-contains_itself held)) first)

-- ---- lists with the same mappings

-- one more holder in both
pub more_alike : (one other : List Mapping) (m : Mapping) → HoldsSame one other → HoldsSame (m ∷ one) (m ∷ other)
more_alike one other m same q = omega (arith, holders_cons q m one, holders_cons q m other, same q)

-- however many holders each has
pub record SameMembers (one other : List Mapping) : Type 0 where
  pub there : (m : Mapping) → Contains one m → Contains other m
  pub back : (m : Mapping) → Contains other m → Contains one m

pub contains_alike : (one other : List Mapping) → HoldsSame one other → (m : Mapping) → Contains one m → Contains other m
contains_alike one other same m among = is_among m other (omega (arith, same m, has_holder m one among))

pub members_alike : (one other : List Mapping) → HoldsSame one other → SameMembers one other
members_alike one other same =
    record { there = contains_alike one other same; back = contains_alike other one (λ m. sym (same m)) }

-- a part of a one-to-one list is one to one
pub one_to_one-within : (some all : List Mapping) → ((m : Mapping) → Contains some m → Contains all m) → IsOneToOne all → IsOneToOne some
one_to_one-within some all within one = record {
  one_internal = λ m n x y. one.one_internal m n (within m x) (within n y);
  one_port = λ m n x y. one.one_port m n (within m x) (within n y);
}

pub one_to_one_alike : (one other : List Mapping) → HoldsSame one other → IsOneToOne other → IsOneToOne one
one_to_one_alike one other same unique = one_to_one-within one other (contains_alike one other same) unique
