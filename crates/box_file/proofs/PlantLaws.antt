-- The invariant of a `Plant`: its interface indexes are valid, and its lookup table is right.
use Rattle.std.proofs.Common.{arith}
use Rattle.box_file.proofs.Names.{Bool, EachIndexed, EachRouteIndexed, IfSome, IfSome_at, Interface, IsIndex, KnowsNames, Line, List, NamedRoute, None, Option}
use Rattle.box_file.proofs.Names.{RouteEntry, Some, [], best_interface, defaults_in, each_is_line, entering_of, false, filter_map, find, find-filter}
use Rattle.box_file.proofs.Names.{interfaces_in, is_some, is_unknown, known_index, list_any, not-false, option_map, refl, route_of_line, routes_in, sym, true}
use Rattle.box_file.proofs.Names.{unwrap_or, ℕ, ◌∷◌, ◌≡◌}
use Rattle.box_file.proofs.ListLaws.{found_all, some-found}

-- ---- interface indexes

pub each_indexed : (ls : List Line) → each_is_line ls → EachIndexed (interfaces_in ls)
each_indexed [] h = tt
each_indexed (l ∷ ls) h = grind (arith, each_indexed ls)

known : (o : Option Interface) → IfSome o (λ i. IsIndex i.index) → is_some o ≡ true
    → IsIndex (unwrap_or (option_map (λ (i : Interface). i.index) o) 0)
known None h e = absurd cc
known (Some i) h e = h

known_number : (n : List ℕ) (is : List Interface) → EachIndexed is → is_unknown is n ≡ false → IsIndex (known_index is n)
known_number n is h e = grind (arith, known, found_all, some-found, not-false, list_any)

-- each route has a valid interface index
route_indexes : (is : List Interface) → EachIndexed is → (ls : List Line) → each_is_line ls
    → list_any (λ (r : NamedRoute). is_unknown is r.name) (routes_in ls) ≡ false
    → EachRouteIndexed (filter_map (route_of_line is) ls)
route_indexes is h [] k e = tt
route_indexes is h (l ∷ ls) k e = grind (arith, known_number, route_indexes is h ls)

pub each_route_indexed : (ls : List Line) → each_is_line ls → KnowsNames ls
    → EachRouteIndexed (filter_map (route_of_line (interfaces_in ls)) ls)
each_route_indexed ls h k = grind (arith, route_indexes, each_indexed ls h, k.known)

pub entry_is_index : (ls : List Line) → each_is_line ls → KnowsNames ls → IsIndex (entering_of (interfaces_in ls) (defaults_in ls))
entry_is_index ls h k = grind (arith, known_number, each_indexed ls h, k.formed, k.known)

-- ---- lookups

if_mapped : {A B : Type 0} (f : A → B) (P : B → Type 0) (o : Option A) → IfSome o (λ x. P (f x)) → IfSome (option_map f o) P
if_mapped f P None h = tt
if_mapped f P (Some x) h = h

pub route_found_index : (rs : List RouteEntry) (a : ℕ) (o : Option ℕ) → EachRouteIndexed rs → o ≡ best_interface rs a → IfSome o IsIndex
route_found_index rs a o h e = grind (arith, if_mapped, find-filter, found_all)

pub number_found : (p : Interface → Bool) (is : List Interface) (i : Interface) → EachIndexed is → Some i ≡ find p is → IsIndex i.index
number_found p is i h e =
    IfSome_at (find p is) (λ j. IsIndex j.index) i (sym e) (found_all (λ j. IsIndex j.index) p is h)

pub some-map : {A B : Type 0} (f : A → B) (o : Option A) → is_some (option_map f o) ≡ is_some o
some-map f None = refl
some-map f (Some x) = refl
