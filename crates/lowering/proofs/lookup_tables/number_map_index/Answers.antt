use Rattle.lowering.proofs.Names.{IfOk-weaker, MapTree, Named, None, Some, map_data_compared_type, maps_of, same}
use Rattle.lowering.proofs.ByName.{by_name, has-numbers, named-map, stays}
use Rattle.lowering.proofs.lookup_tables.number_map_index.Goals as goal

pub returns-in-Some-clause-gives : goal.returns-in-Some-clause-gives
returns-in-Some-clause-gives c later grown n =
    let t = c.args.names.now in
    let i = c.in-Some.place in
    let m = named-map t c.args.look.now.selector (Some (Named c.args.given)) c.in-Named.name.items i (cc) (rw c.in-Named.is at c.requires.types) in
    rw (c.in-Named.is, m.2) (stays _ later.numbers.items i same _ (has-numbers c.args.network.now t c.args.lookups.now i m.0 c.args.given
    (map_data_compared_type m.0.types) c.requires.read m.3 (c.requires.declared.maps i m.0 m.1)) grown.numbers n)

pub returns-in-None-clause-gives : goal.returns-in-None-clause-gives
returns-in-None-clause-gives c = IfOk-weaker c.add_numbers.result _ _ (λ i has later grown n. rw (
  c.in-Named.is,
  by_name (λ (d : MapTree). d.name) c.in-Named.name.items (maps_of c.args.names.now) None (cc),
) (has later grown n)) c.add_numbers.ensures.gives
