use Rattle.std.proofs.Common.{◌≡◌, length}
use Rattle.chained_map.specs.steps.Chains.{IsChainedUpTo, nowhere}
use Rattle.chained_map.specs.steps.Nodes.{entries_of, hashes_of}
use Rattle.chained_map.proofs.chains.link_all.Given as goal

abbrev pub invariant-loop-index : goal.invariant-loop-index
invariant-loop-index g l = record {
  chained : IsChainedUpTo l.index nowhere l.heads l.nodes;
  long : length l.heads ≡ length l.initial.heads;
  hashes : hashes_of l.nodes ≡ hashes_of l.initial.nodes;
  entries : entries_of l.nodes ≡ entries_of l.initial.nodes;
}
