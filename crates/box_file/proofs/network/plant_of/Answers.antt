use Rattle.box_file.proofs.Names.{line_tree, map, refl}
use Rattle.box_file.proofs.PlantLaws.{each_indexed, each_route_indexed, entry_is_index}
use Rattle.box_file.proofs.network.plant_of.Goals as goal

pub limits-idle-requires : goal.limits-idle-requires
limits-idle-requires c = rw (c.deref-6.ensures.value, c.in_ok-sorted.ensures.idles_are) c.requires.range

pub returns-clause-value : goal.returns-clause-value
returns-clause-value c =
    let sorted = c.in_ok-sorted.ensures in
    rw (
      c.in_ok-interfaces.ensures,
      c.in_ok-routes.ensures,
      c.entering-entering.ensures,
      c.deref.ensures.value,
      c.deref-2.ensures.value,
      c.deref-3.ensures.value,
      c.deref-4.ensures.value,
      sorted.interfaces_are,
      sorted.defaults_are,
    ) refl

pub returns-clause-limits : goal.returns-clause-limits
returns-clause-limits c = rw (c.deref-6.ensures.value, c.in_ok-sorted.ensures.idles_are) at c.limits-idle.ensures

pub invariant_of-result : goal.invariant_of-result
invariant_of-result c =
    let ls = map line_tree c.args.lines.now in
    let sorted = c.in_ok-sorted.ensures in
    record {
      best = rw c.deref-5.ensures.value at c.in_ok-table.ensures;
      indexes = rw (c.in_ok-interfaces.ensures, c.deref-3.ensures.value, sorted.interfaces_are) (each_indexed ls c.requires.lines);
      routes_indexed = rw (c.in_ok-routes.ensures, c.deref-4.ensures.value, sorted.interfaces_are)
          (each_route_indexed ls c.requires.lines c.requires.names);
      entry = rw (c.entering-entering.ensures, c.deref.ensures.value, c.deref-2.ensures.value, sorted.interfaces_are, sorted.defaults_are)
          (entry_is_index ls c.requires.lines c.requires.names);
    }
