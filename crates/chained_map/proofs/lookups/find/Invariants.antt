use Rattle.std.proofs.Common.{◌≡◌, false, slice_index_or}
use Rattle.std.specs.Map.{keys_of}
use Rattle.chained_map.specs.steps.Nodes.{entries_of}
use Rattle.chained_map.proofs.NodeLaws.{Walks}
use Rattle.chained_map.proofs.lookups.find.Given as goal

abbrev pub invariant-loop-link : goal.invariant-loop-link
invariant-loop-link g l = Walks l.heads l.nodes l.hash l.link (λ i. (d : g.row.K.Denot)
    → false ≡ g.K.PartialEq.eq l.key (slice_index_or (keys_of (entries_of l.nodes)) i d))

abbrev pub decreases-loop-link : goal.decreases-loop-link
decreases-loop-link g l = l.link
