use Rattle.lowering.proofs.Names.{IfOk-weaker, None, SetTree, Some, is_some, sets_of}
use Rattle.lowering.proofs.ByName.{by_name, stays}
use Rattle.lowering.proofs.lookup_tables.set_index.Goals as goal

pub returns-in-Some-clause-has : goal.returns-in-Some-clause-has
returns-in-Some-clause-has c later grown n =
    let i = c.in-Some.place in
    let s = by_name (λ (d : SetTree). d.name) c.in-Named.name.items (sets_of c.args.names.now) (Some i) (cc) in
    rw (c.in-Named.is, s.2) (stays _ later.sets.items i is_some _ (c.requires.declared.sets i s.0 s.1) grown.sets n)

pub returns-in-None-clause-has : goal.returns-in-None-clause-has
returns-in-None-clause-has c = IfOk-weaker c.add_set.result _ _ (λ i has later grown n. rw (
  c.in-Named.is,
  by_name (λ (d : SetTree). d.name) c.in-Named.name.items (sets_of c.args.names.now) None (cc),
) (has later grown n)) c.add_set.ensures.has
