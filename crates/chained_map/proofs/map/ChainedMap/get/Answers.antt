use Rattle.std.proofs.Common.{sym}
use Rattle.chained_map.proofs.LookupLaws.{found_within, found_value, not_found}
use Rattle.chained_map.proofs.map.ChainedMap.get.Goals as goal

pub value_at-requires : goal.value_at-requires
value_at-requires g c = found_within g.K.PartialEq.eq c.args.key c.args.self.now c.in-Some.ensures.place

pub returns-in-Some-clause-value : goal.returns-in-Some-clause-value
returns-in-Some-clause-value g c =
    sym (found_value g.K.PartialEq.eq c.args.key c.args.self.now c.in-Some.ensures.place c.value_at.ensures)

pub returns-in-None-clause-value : goal.returns-in-None-clause-value
returns-in-None-clause-value g c = sym (not_found g.K.PartialEq.eq c.args.key c.args.self.now c.in-None.ensures.place)
