use Rattle.std_collections.proofs.HashLookup.{distinct_nil}
use Rattle.std.proofs.Common.{ap}
use Rattle.chained_map.specs.steps.Nodes.{entries_of}
use Rattle.chained_map.proofs.MapLaws.{empty_table}
use Rattle.chained_map.proofs.map.ChainedMap.with_hasher.Goals as goal

pub invariant_of-result : goal.invariant_of-result
invariant_of-result g c = empty_table _ _ _ _ _ c.new.ensures.items c.new-2.ensures.items

pub returns-clause-unique : goal.returns-clause-unique
returns-clause-unique g c = distinct_nil _ g.met.K.Eq.laws _ (ap entries_of c.new-2.ensures.items)
