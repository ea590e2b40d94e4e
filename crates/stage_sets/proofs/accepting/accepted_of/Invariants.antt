use Rattle.std.proofs.Common.{take}
use Rattle.packet_sets.specs.Sets.{Keeps, Means}
use Rattle.chain_sets.specs.steps.Merging.{some_outcome}
use Rattle.stage_sets.specs.steps.Outcomes.{goes_accepted}
use Rattle.stage_sets.proofs.accepting.accepted_of.Given as goal

-- the packets of the cases so far that are accepted
abbrev pub invariant-loop-case : goal.invariant-loop-case
invariant-loop-case l = record {
  keeps : Keeps l.fn.diagrams l.diagrams;
  means : Means l.diagrams l.set (λ packet. some_outcome l.fn.diagrams (take l.case-index l.outcomes) packet goes_accepted);
}
