-- The representation of a `Plant`.
use Rattle.std.specs.Prelude.{◌≡◌, false, List, map, ℕ}
use Rattle.std.specs.List.{AllByRecursion}
use Rattle.box_file.specs.declared.network.Interface as kept
use Rattle.set_intervals.specs.declared.range.Range.{Range}
use Rattle.box_file.specs.declared.routes.Route.{Route}
use Rattle.box_file.specs.declared.limits.Limits.{Limits}
use Rattle.box_file.specs.Box.{Interface, RouteEntry, PlantTree, Line, IsIndex, interfaces_in, routes_in, defaults_in, is_malformed, has_unknown}
use Rattle.box_file.specs.steps.Best.{route_entry, GivesBest}

abbrev pub interface_of : kept.Interface → Interface
interface_of i = record { index = i.index; name = i.name.items; address = i.address; prefix = i.prefix }

abbrev pub plant_tree : List kept.Interface → List Route → ℕ → Limits → PlantTree
plant_tree interfaces routes entering idle =
    record {
      interfaces = map interface_of interfaces;
      routes = map route_entry routes;
      entering = entering;
      idle = idle;
    }

abbrev pub EachIndexed : List Interface → Type 0
EachIndexed = AllByRecursion (λ i. IsIndex i.index)

abbrev pub EachRouteIndexed : List RouteEntry → Type 0
EachRouteIndexed = AllByRecursion (λ r. IsIndex r.interface)

-- the lookup table agrees with longest prefix match, and each interface index that is kept is a valid one
pub record IsSound (interfaces : List kept.Interface) (routes : List Route) (table : List (Range × ℕ))
    (entering : ℕ) : Type 0 where
  pub best : GivesBest table (map route_entry routes)
  pub indexes : EachIndexed (map interface_of interfaces)
  pub routes_indexed : EachRouteIndexed (map route_entry routes)
  pub entry : IsIndex entering

-- there is exactly one default line, and each name is that of an interface
pub record KnowsNames (lines : List Line) : Type 0 where
  pub formed : is_malformed (defaults_in lines) ≡ false
  pub known : has_unknown (interfaces_in lines) (routes_in lines) (defaults_in lines) ≡ false
