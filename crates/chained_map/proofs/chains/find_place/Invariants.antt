use Rattle.std.proofs.Common.{length, slice_index}
use Rattle.chained_map.specs.steps.Chains.{buckets_of}
use Rattle.chained_map.specs.steps.Nodes.{nexts_of}
use Rattle.chained_map.proofs.ChainLaws.{IsWalked}
use Rattle.chained_map.proofs.chains.find_place.Given as goal

abbrev pub invariant-loop-link : goal.invariant-loop-link
invariant-loop-link g l =
    IsWalked (buckets_of (length l.heads) l.nodes) (slice_index (nexts_of l.nodes)) (slice_index l.heads)
    (length l.nodes) l.out l.bucket l.index l.at l.link

abbrev pub decreases-loop-link : goal.decreases-loop-link
decreases-loop-link g l = l.link
