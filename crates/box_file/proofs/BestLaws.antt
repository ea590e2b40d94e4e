-- The first match in the sorted routes is the longest prefix match.
use Rattle.box_file.proofs.Names.{Bool, IsLongestFirst, IsSortedBy, IsStableBy, IsStrictWeakOrder, List, None, Option, RouteEntry, Some, [], ap, arith}
use Rattle.box_file.proofs.Names.{begin_of, best_interface, best_of, cases_eq, cases_lt, covers, drop, end_of, eq-eqb, false, filter, filter_agree, find}
use Rattle.box_file.proofs.Names.{first_interface, first_value, get_or, get_or-map, greatest, if◌then◌else◌, in_range, length, length-map, ltb, ltb-false, map}
use Rattle.box_file.proofs.Names.{nat_tests, ne_eqb, option_map, option_or, refl, route_entry, suc, sym, ties, true, ℕ, ◌%◌, ◌*◌, ◌++◌, ◌+◌, ◌-◌, ◌/◌}
use Rattle.box_file.proofs.Names.{◌<◌, ◌==◌, ◌^◌, ◌∙◌, ◌∷◌, ◌≡◌, ◌≤◌}
use Rattle.std.proofs.Common.{drop-cons, add-one}
use Rattle.std.proofs.Math.Nat.{div-eq_of_lt-le, div-mul-le_self, lt-div-mul-add}
use Rattle.std.proofs.Math.Pow.{pow_pos, pow_mono}
use Rattle.std.proofs.lemmas.Nat.{div-add-mod'}
use Rattle.std.proofs.lemmas.List.Sorted.{sorted_far, IsStrictWeakOrder-flip, IsStrictWeakOrder-by_number}
use Rattle.set_intervals.specs.declared.range.Range.{Range}
use Rattle.box_file.specs.declared.routes.Route.{Route}

-- ---- the addresses that a route covers

pub size_fits : (p : ℕ) → 2 ^ (32 - p) ≤ 2 ^ 32
size_fits p = pow_mono (let less : 32 - p ≤ 32 = omega arith in less)

pub begin_is : (x p : ℕ) → x - x % 2 ^ (32 - p) ≡ x / 2 ^ (32 - p) * 2 ^ (32 - p)
begin_is x p = let whole : x / 2 ^ (32 - p) * 2 ^ (32 - p) + x % 2 ^ (32 - p) ≡ x = div-add-mod' x (2 ^ (32 - p)) in omega arith

-- they are those of its range
covered : (r : Range) (w : RouteEntry) (a : ℕ) → r.low ≡ begin_of w → r.high + 1 ≡ end_of w → in_range r a ≡ covers a w
covered r w a low high =
    let n = 2 ^ (32 - w.prefix) in
    let some : 0 < n = pow_pos (32 - w.prefix) in
    let from : a / n * n ≤ a = div-mul-le_self a n in
    let upto : a < a / n * n + n = lt-div-mul-add some in
    grind (arith, nat_tests, div-eq_of_lt-le)

-- ---- one more route

first_value-push : (xs : List (Range × ℕ)) (r : Range) (v a : ℕ) (o : Option ℕ)
    → option_or (first_value (xs ++ (r, v) ∷ []) a) o ≡ option_or (first_value xs a) (if in_range r a then Some v else o)
first_value-push [] r v a o = grind arith
first_value-push (x ∷ xs) r v a o = grind (arith, first_value-push xs r v a o)

first_interface_next : (w : RouteEntry) (ws : List RouteEntry) (a : ℕ) (b : Bool) → b ≡ covers a w
    → (if b then Some w.interface else first_interface ws a) ≡ first_interface (w ∷ ws) a
first_interface_next w ws a true e = rw (← e) refl
first_interface_next w ws a false e = rw (← e) refl

-- the first route that covers the address is in the pairs, or else among the other routes
abbrev pub SplitFirst : List (Range × ℕ) → List RouteEntry → List RouteEntry → Type 0
SplitFirst pairs others routes = (a : ℕ) → option_or (first_value pairs a) (first_interface others a) ≡ first_interface routes a

pub split_more : (pairs : List (Range × ℕ)) (routes : List Route) (i : ℕ) (d : Route) (r : Range) → i < length routes
    → r.low ≡ begin_of (route_entry (get_or routes i d)) → r.high + 1 ≡ end_of (route_entry (get_or routes i d))
    → SplitFirst pairs (map route_entry (drop i routes)) (map route_entry routes)
    → SplitFirst (pairs ++ (r, (get_or routes i d).interface) ∷ []) (map route_entry (drop (i + 1) routes)) (map route_entry routes)
split_more pairs routes i d r lt low high split a =
    let w = get_or routes i d in
    let here : (if in_range r a then Some w.interface else first_interface (map route_entry (drop (i + 1) routes)) a)
    ≡ first_interface (map route_entry (drop i routes)) a =
    rw (drop-cons routes i d lt, add-one) (first_interface_next (route_entry w) _ a _ (covered r (route_entry w) a low high)) in
    first_value-push pairs r w.interface a _ ∙ ap (option_or (first_value pairs a)) here ∙ split a

-- ---- the greatest prefix

none_longer : (rs : List RouteEntry) (m : ℕ) → greatest rs < m → find (λ r. r.prefix == m) rs ≡ None
none_longer [] m l = refl
none_longer (r ∷ rs) m l = grind (arith, nat_tests, none_longer rs m)

-- only 0 can be the greatest prefix of no route
absent : (rs : List RouteEntry) (m : ℕ) → greatest rs ≡ m → find (λ r. r.prefix == m) rs ≡ None → m ≡ 0
absent [] m e none = sym e
absent (r ∷ rs) m e none = grind (arith, cases_eq, r.prefix, eq-eqb, ne_eqb, (absent rs m))

-- ---- lists with the same first route of each length

-- two filters in either order
find_swap : (p q : RouteEntry → Bool) (rs : List RouteEntry) → find p (filter q rs) ≡ find q (filter p rs)
find_swap p q [] = refl
find_swap p q (r ∷ rs) = grind (arith, find_swap p q rs)

abbrev SameByLength : List RouteEntry → List RouteEntry → Type 0
SameByLength xs ys = (n : ℕ) → find (λ (r : RouteEntry). r.prefix == n) xs ≡ find (λ (r : RouteEntry). r.prefix == n) ys

no_longer : (xs ys : List RouteEntry) → SameByLength xs ys → greatest xs ≤ greatest ys
no_longer xs ys same = grind (arith, absent xs (greatest xs) refl, none_longer ys (greatest xs), same (greatest xs), cases_lt (greatest ys) (greatest xs))

same_best : (xs ys : List RouteEntry) → SameByLength xs ys → best_of xs ≡ best_of ys
same_best xs ys same =
    let one = no_longer xs ys same in
    let other = no_longer ys xs (λ n. sym (same n)) in
    let e : greatest xs ≡ greatest ys = omega arith in
    same (greatest xs) ∙ ap (λ m. find (λ (r : RouteEntry). r.prefix == m) ys) e

-- ---- routes in order

abbrev IsFalling : List RouteEntry → Type 0
IsFalling rs = (i j : ℕ) (d : RouteEntry) → i ≤ j → j < length rs → (get_or rs j d).prefix ≤ (get_or rs i d).prefix

-- none of those that pass is longer than the first
filtered : (p : RouteEntry → Bool) (m : ℕ) (rs : List RouteEntry)
    → ((j : ℕ) (d : RouteEntry) → j < length rs → (get_or rs j d).prefix ≤ m) → greatest (filter p rs) ≤ m
filtered p m [] h = omega arith
filtered p m (r ∷ rs) h = grind (arith, h 0 r, filtered p m rs (λ j d lt. h (suc j) d (omega arith)))

first_is_best : (p : RouteEntry → Bool) (rs : List RouteEntry) → IsFalling rs → find p rs ≡ best_of (filter p rs)
first_is_best p [] falling = refl
first_is_best p (r ∷ rs) falling =
    let most = filtered p r.prefix rs (λ j d lt. falling 0 (suc j) d (omega arith) (omega arith)) in
    let rest = first_is_best p rs (λ i j d le lt. falling (suc i) (suc j) d (omega arith) (omega arith)) in
    grind (arith, nat_tests, most, rest)

pub first_is_best_interface : (routes sorted : List RouteEntry) → IsLongestFirst routes sorted → (a : ℕ)
    → first_interface sorted a ≡ best_interface routes a
first_is_best_interface routes sorted order a =
    let covering = filter (covers a) in
    ap (option_map (λ (r : RouteEntry). r.interface))
    (first_is_best (covers a) sorted order.falling
    ∙ same_best (covering sorted) (covering routes)
    (λ n. find_swap (λ r. r.prefix == n) (covers a) sorted ∙ ap (find (covers a)) (order.kept n)
    ∙ find_swap (covers a) (λ r. r.prefix == n) routes))

-- ---- the sorted routes

-- routes with longer prefixes come first
abbrev pub is_longer : Route → Route → Bool
is_longer x y = ltb y.prefix x.prefix

pub longer_ranks : IsStrictWeakOrder is_longer
longer_ranks = IsStrictWeakOrder-flip (λ x y. ltb x.prefix y.prefix) (IsStrictWeakOrder-by_number (λ x. x.prefix))

mapped_filter : (p : RouteEntry → Bool) (rs : List Route)
    → filter p (map route_entry rs) ≡ map route_entry (filter (λ r. p (route_entry r)) rs)
mapped_filter p [] = refl
mapped_filter p (r ∷ rs) = grind (arith, mapped_filter p rs)

tie_is : (n : ℕ) (r : Route) → (r.prefix == n) ≡ ties is_longer (record { address = 0; prefix = n; interface = 0 }) r
tie_is n r = grind (arith, nat_tests)

pub longest_first : (routes sorted : List Route) → IsSortedBy is_longer sorted → IsStableBy is_longer routes sorted
    → IsLongestFirst (map route_entry routes) (map route_entry sorted)
longest_first routes sorted up stable = record {
  falling = λ i j d le lt.
      let inside : j < length sorted = omega (arith, length-map sorted route_entry) in
      let one : Route = record { address = 0; prefix = 0; interface = 0 } in
      let ranked = ltb-false (get_or sorted i one).prefix (get_or sorted j one).prefix
      (sorted_far is_longer longer_ranks sorted up i j one le inside) in
      rw (get_or-map route_entry sorted i one d (omega arith), get_or-map route_entry sorted j one d inside) ranked;
  kept = λ n.
      let one : Route = record { address = 0; prefix = n; interface = 0 } in
      mapped_filter (λ r. r.prefix == n) sorted
      ∙ ap (map route_entry) (filter_agree (λ r. r.prefix == n) (ties is_longer one) (tie_is n) sorted ∙ stable one
      ∙ sym (filter_agree (λ r. r.prefix == n) (ties is_longer one) (tie_is n) routes))
      ∙ sym (mapped_filter (λ r. r.prefix == n) routes);
}
