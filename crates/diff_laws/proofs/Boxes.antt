-- The interfaces of an accepted box: at most 64, each with an index from 1 and an address of 32 bits; those of routes and of
-- the default line are among them.
use Rattle.std.specs.Prelude.{◌^◌, ◌<◌, ◌≤◌, ◌==◌, Contains, IfSome, find, filter, slice_index_or}
use Rattle.std.specs.List.{cons_option, filter_map, list_any}
use Rattle.std.specs.Option.{option_map}
use Rattle.std.proofs.Common.{◌≡◌, ◌∙◌, ℕ, ◌||◌, Bool, true, false, not, cond, if◌then◌else◌, List, [], ◌∷◌, length, get_or, map, Option, Some, None, refl, ap, subst, sym, arith, unwrap_or, nat_lt}
use Rattle.std.proofs.Math.ListN.{get_or-map}
use Rattle.std.proofs.lemmas.List.{get_or_default, length-map}
use Rattle.std.proofs.lemmas.Bool.Decides.{nat_tests}
use Rattle.std.proofs.lemmas.List.Elements.{All-contains_itself}
use Rattle.box_file.specs.declared.fault.BoxFault.TheVariants as faults
use Rattle.box_file.specs.declared.limits.Limits.{Limits}
use Rattle.box_file.specs.Box.{Interface, IsBox, IsLine, Line, NamedRoute, PlantTree, RouteEntry, best_interface, best_of, covers, defaults_in, each_is_line}
use Rattle.box_file.specs.Box.{entering_of, greatest, has_fault, has_index, interface_in, interfaces_in, is_malformed, is_named, is_unknown, known_index, least_fault}
use Rattle.box_file.specs.Box.{default_line, idle_line, interface_line, name_of, plant_of, route, route_in, route_line, route_of_line, routes_in}
use Rattle.fact_sets.specs.Boxes.{IsInterface}
use Rattle.fact_sets.specs.Facts.{interface_at}
use Rattle.rule_sets.specs.Interfaces.{interface_facts, interfaces_of}
use Rattle.diff_laws.specs.Addresses.{Every}
use Rattle.diff_laws.proofs.Each.{each_both, each_filter, each_filter_map, each_find, each_from_all, each_weaker, neither, none_passes, some_map}

-- an interface of the box, as rules see it
abbrev pub IsOurs : PlantTree → ℕ → Type 0
IsOurs network n = IsInterface (interfaces_of network) (interface_facts network n) × (0 < n)

pub record BoxFits (network : PlantTree) : Type 0 where
  pub ours : Every (λ (i : Interface). IsOurs network i.index) network.interfaces
  pub addresses : Every (λ (i : Interface). i.address < 2 ^ 32) network.interfaces
  pub entering : IsOurs network network.entering
  pub routes : Every (λ (r : RouteEntry). IsOurs network r.interface) network.routes

-- ---- interface lines

line_interface : (l : Line) → IsLine l → IfSome (interface_in l) (λ i. (0 < i.index) × (i.address < 2 ^ 32))
line_interface (interface_line i) h = (h.0, h.3)
line_interface (route_line r) h = tt
line_interface (default_line n) h = tt
line_interface (idle_line i) h = tt

lines_right : (ls : List Line) → each_is_line ls → Every IsLine ls
lines_right [] h = tt
lines_right (l ∷ ls) h = (h.0, lines_right ls h.1)

-- the interface at a place of the list is the one of its number
number_of_place : (network : PlantTree) → length network.interfaces ≤ 64 → (i : Interface) → Contains network.interfaces i
    → IsInterface (interfaces_of network) (interface_facts network i.index)
number_of_place network few i (k, here, is) = (
  k,
  below k (length network.interfaces) here few,
  sym (mapped ∙ ap (λ (j : Interface). interface_facts network j.index) is),
)
  where
    below : (k n : ℕ) → k < n → n ≤ 64 → k < 64
    below k n h w = omega arith

    mapped : interface_at (interfaces_of network) k ≡ interface_facts network (slice_index_or network.interfaces k i).index
    mapped = within network.interfaces k here
      where
        within : (is : List Interface) (k : ℕ) → k < length is
            → get_or (map (λ (j : Interface). interface_facts network j.index) is) k (record { index = 0; name = 0 })
            ≡ interface_facts network (get_or is k i).index
        within is k l = get_or_default (map (λ (j : Interface). interface_facts network j.index) is) k (record { index = 0; name = 0 })
            (interface_facts network i.index) (subst (λ n. k < n) (sym (length-map is (λ (j : Interface). interface_facts network j.index))) l)
            ∙ get_or-map (λ (j : Interface). interface_facts network j.index) is k i

-- ---- faults

none_found : {X : Type 0} (t : X → Bool) (xs : List X) → find t xs ≡ None → Every (λ x. t x ≡ false) xs
none_found t [] e = tt
none_found t (x ∷ xs) e =
    let both : (t x ≡ false) × (find t xs ≡ None) = passed (t x) x (find t xs) e in (both.0, none_found t xs both.1)
  where
    passed : {X : Type 0} (b : Bool) (x : X) (o : Option X) → cond b (Some x) o ≡ None → (b ≡ false) × (o ≡ None)
    passed true x o e = absurd cc
    passed false x o e = (refl, e)

at_most : (k n : ℕ) → nat_lt k n ≡ false → n ≤ k
at_most k n e = grind (arith, nat_tests)

unnot : (b : Bool) → not b ≡ false → b ≡ true
unnot true e = refl
unnot false e = absurd cc

-- ---- names

module _ (Q : ℕ → Type 0) (t : Interface → Bool) where
  known_if : (b : Bool) (i : Interface) (o : Option Interface) (rest : Bool) → Q i.index → (rest ≡ true → Q (unwrap_or (option_map (λ i. i.index) o) 0))
      → (b || rest) ≡ true → Q (unwrap_or (option_map (λ i. i.index) (cond b (Some i) o)) 0)
  known_if true i o rest h k e = h
  known_if false i o rest h k e = k e

  known : (is : List Interface) → Every (λ (i : Interface). Q i.index) is → list_any t is ≡ true → Q (unwrap_or (option_map (λ i. i.index) (find t is)) 0)
  known [] h e = absurd cc
  known (i ∷ is) h e = known_if (t i) i (find t is) (list_any t is) h.0 (known is h.1) e

known_name : (network : PlantTree) → Every (λ (i : Interface). IsOurs network i.index) network.interfaces → (n : List ℕ)
    → is_unknown network.interfaces n ≡ false → IsOurs network (known_index network.interfaces n)
known_name network h n e = known (IsOurs network) (is_named n) network.interfaces h (unnot (list_any (is_named n) network.interfaces) e)

default_name : (network : PlantTree) → Every (λ (i : Interface). IsOurs network i.index) network.interfaces → (ns : List (List ℕ)) → is_malformed ns ≡ false
    → list_any (is_unknown network.interfaces) ns ≡ false → IsOurs network (entering_of network.interfaces ns)
default_name network h [] e f = absurd cc
default_name network h (n ∷ ns) e f =
    known_name network h n (neither (is_unknown network.interfaces n) (list_any (is_unknown network.interfaces) ns) f).0

-- ---- routes

listed_parts : {Y : Type 0} (Q : Y → Type 0) (o : Option Y) (ys : List Y) → Every Q (cons_option o ys) → IfSome o Q × Every Q ys
listed_parts Q None ys h = (tt, h)
listed_parts Q (Some y) ys h = h

from_listed : {X Y : Type 0} (Q : Y → Type 0) (g : X → Option Y) (xs : List X) → Every Q (filter_map g xs) → Every (λ x. IfSome (g x) Q) xs
from_listed Q g [] h = tt
from_listed Q g (x ∷ xs) h =
    let parts = listed_parts Q (g x) (filter_map g xs) h in (parts.0, from_listed Q g xs parts.1)

route_ours : (network : PlantTree) → Every (λ (i : Interface). IsOurs network i.index) network.interfaces → (l : Line)
    → IfSome (interface_in l) (λ i. IsOurs network i.index) × IfSome (route_in l) (λ r. is_unknown network.interfaces r.name ≡ false)
    → IfSome (route_of_line network.interfaces l) (λ r. IsOurs network r.interface)
route_ours network h (interface_line i) k = k.0
route_ours network h (route_line r) k = known_name network h r.name k.1
route_ours network h (default_line n) k = tt
route_ours network h (idle_line i) k = tt

-- ---- the box of lines

lines_box : (text : List ℕ) (lines : List Line) (idle : Limits) → each_is_line lines → least_fault text lines ≡ None → BoxFits (plant_of lines idle)
lines_box text lines idle each faultless =
    let network = plant_of lines idle in
    let none = none_found (has_fault text lines) (faults.Form ∷ faults.Repeated ∷ faults.UnknownName ∷ faults.TooLarge ∷ faults.OutOfRange ∷ []) faultless in
    let few : length (interfaces_in lines) ≤ 64 = at_most 64 (length (interfaces_in lines))
    (neither (nat_lt 1048576 (length text)) (nat_lt 64 (length (interfaces_in lines)))
    (neither (nat_lt 1048576 (length text) || nat_lt 64 (length (interfaces_in lines))) (nat_lt 1024 (length (routes_in lines))) none.1.1.1.0).0).1 in
    let names : (list_any (λ (r : NamedRoute). is_unknown (interfaces_in lines) r.name) (routes_in lines) ≡ false)
    × (list_any (is_unknown (interfaces_in lines)) (defaults_in lines) ≡ false) =
    neither (list_any (λ (r : NamedRoute). is_unknown (interfaces_in lines) r.name) (routes_in lines))
    (list_any (is_unknown (interfaces_in lines)) (defaults_in lines)) none.1.1.0 in
    let values : Every (λ (i : Interface). (0 < i.index) × (i.address < 2 ^ 32)) (interfaces_in lines) =
    each_filter_map IsLine (λ (i : Interface). (0 < i.index) × (i.address < 2 ^ 32)) interface_in line_interface lines (lines_right lines each) in
    let ours : Every (λ (i : Interface). IsOurs network i.index) (interfaces_in lines) =
    each_weaker (λ (i : Interface). ((0 < i.index) × (i.address < 2 ^ 32)) × Contains (interfaces_in lines) i) (λ (i : Interface). IsOurs network i.index)
    (λ i h. (number_of_place network few i h.1, h.0.0)) (interfaces_in lines)
    (each_both (λ (i : Interface). (0 < i.index) × (i.address < 2 ^ 32)) (Contains (interfaces_in lines)) (interfaces_in lines) values
    (each_from_all (Contains (interfaces_in lines)) (interfaces_in lines) (All-contains_itself (interfaces_in lines)))) in
    record {
      ours = ours;
      addresses = each_weaker (λ (i : Interface). (0 < i.index) × (i.address < 2 ^ 32)) (λ (i : Interface). i.address < 2 ^ 32) (λ i h. h.1)
          (interfaces_in lines) values;
      entering = default_name network ours (defaults_in lines) none.0 names.1;
      routes = each_filter_map (λ l. IfSome (interface_in l) (λ i. IsOurs network i.index)
          × IfSome (route_in l) (λ r. is_unknown (interfaces_in lines) r.name ≡ false))
          (λ (r : RouteEntry). IsOurs network r.interface) (route_of_line (interfaces_in lines)) (route_ours network ours) lines
          (each_both (λ l. IfSome (interface_in l) (λ i. IsOurs network i.index))
          (λ l. IfSome (route_in l) (λ r. is_unknown (interfaces_in lines) r.name ≡ false)) lines
          (from_listed (λ (i : Interface). IsOurs network i.index) interface_in lines ours)
          (from_listed (λ (r : NamedRoute). is_unknown (interfaces_in lines) r.name ≡ false) route_in lines
          (none_passes (λ (r : NamedRoute). is_unknown (interfaces_in lines) r.name) (routes_in lines) names.0)));
    }

pub box_fits : (text : List ℕ) (network : PlantTree) → IsBox text network → BoxFits network
box_fits text network h = subst BoxFits (sym h.meant) (lines_box text h.lines network.idle h.read.each h.faultless)

-- ---- look-ups

passing : {X : Type 0} (t : X → Bool) (x : X) (o : Option X) (b : Bool) → t x ≡ b → IfSome o (λ y. t y ≡ true)
    → IfSome (cond b (Some x) o) (λ y. t y ≡ true)
passing t x o true e h = e
passing t x o false e h = h

found_passes : {X : Type 0} (t : X → Bool) (xs : List X) → IfSome (find t xs) (λ x. t x ≡ true)
found_passes t [] = tt
found_passes t (x ∷ xs) = passing t x (find t xs) (t x) refl (found_passes t xs)

both_some : {X : Type 0} (P Q : X → Type 0) (o : Option X) → IfSome o P → IfSome o Q → IfSome o (λ x. P x × Q x)
both_some P Q None h k = tt
both_some P Q (Some x) h k = (h, k)

same_number : (n k : ℕ) → (n == k) ≡ true → n ≡ k
same_number n k e = grind (arith, nat_tests)

-- an index with a name is one of the box
pub named_ours : (network : PlantTree) → BoxFits network → (n : ℕ) → IfSome (name_of network n) (λ name. IsOurs network n)
named_ours network h n = some_map (λ (i : Interface). IsOurs network i.index × (has_index n i ≡ true)) (λ name. IsOurs network n) (λ i. i.name)
    (λ i k. subst (IsOurs network) (same_number i.index n k.1) k.0) (find (has_index n) network.interfaces)
    (both_some (λ (i : Interface). IsOurs network i.index) (λ i. has_index n i ≡ true) (find (has_index n) network.interfaces)
    (each_find (λ (i : Interface). IsOurs network i.index) (has_index n) network.interfaces h.ours) (found_passes (has_index n) network.interfaces))

if_routed : (b : Bool) (o : Option ℕ) (Q : ℕ → Type 0) → IfSome o Q → IfSome (if b then o else None) Q
if_routed true o Q h = h
if_routed false o Q h = tt

pub route_leads : (network : PlantTree) → BoxFits network → (a : ℕ) → IfSome (route network a) (IsOurs network)
route_leads network h a = if_routed (nat_lt a 3758096384) (best_interface network.routes a) (IsOurs network)
    (some_map (λ (r : RouteEntry). IsOurs network r.interface) (IsOurs network) (λ r. r.interface) (λ r k. k) (best_of (filter (covers a) network.routes))
    (each_find (λ (r : RouteEntry). IsOurs network r.interface) (λ r. r.prefix == greatest (filter (covers a) network.routes)) (filter (covers a) network.routes)
    (each_filter (λ (r : RouteEntry). IsOurs network r.interface) (covers a) network.routes h.routes)))
