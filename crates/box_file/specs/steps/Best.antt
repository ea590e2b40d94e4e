-- Longest prefix match as the first match in the routes sorted by the length of their prefixes.
use Rattle.std.specs.Prelude.{◌≡◌, ℕ, ◌+◌, ◌-◌, ◌*◌, ◌/◌, ◌^◌, ◌<◌, ◌≤◌, ◌==◌, List, length, filter, find, Option, slice_index_or}
use Rattle.std.specs.Option.{option_map}
use Rattle.set_intervals.specs.declared.range.Range.{Range}
use Rattle.set_intervals.specs.Pairs.{first_value}
use Rattle.box_file.specs.declared.routes.Route.{Route}
use Rattle.box_file.specs.Box.{RouteEntry, covers, best_interface}

abbrev pub route_entry : Route → RouteEntry
route_entry r = record { address = r.address; prefix = r.prefix; interface = r.interface }

-- the first address that a route covers
abbrev pub begin_of : RouteEntry → ℕ
begin_of r = r.address / 2 ^ (32 - r.prefix) * 2 ^ (32 - r.prefix)

-- one more than the last address
abbrev pub end_of : RouteEntry → ℕ
end_of r = begin_of r + 2 ^ (32 - r.prefix)

-- the same routes in a stable sort by the length of their prefixes, the longest first
pub record IsLongestFirst (routes sorted : List RouteEntry) : Type 0 where
  pub falling : (i j : ℕ) (d : RouteEntry) → i ≤ j → j < length sorted
      → (slice_index_or sorted j d).prefix ≤ (slice_index_or sorted i d).prefix
  pub kept : (n : ℕ) → filter (λ r. r.prefix == n) sorted ≡ filter (λ r. r.prefix == n) routes

-- the interface of the first route that covers the address
abbrev pub first_interface : List RouteEntry → ℕ → Option ℕ
first_interface routes a = option_map (λ r. r.interface) (find (covers a) routes)

-- the pairs map each address to the interface of the first route that covers it
abbrev pub GivesFirst : List (Range × ℕ) → List RouteEntry → Type 0
GivesFirst pairs routes = (a : ℕ) → first_value pairs a ≡ first_interface routes a

-- the pairs map each address to its outgoing interface
abbrev pub GivesBest : List (Range × ℕ) → List RouteEntry → Type 0
GivesBest pairs routes = (a : ℕ) → first_value pairs a ≡ best_interface routes a
