use Rattle.std.proofs.Common.{map, take}
use Rattle.packet_sets.specs.Sets.{Keeps}
use Rattle.chain_ways.specs.BaseWays.{end_of_chains}
use Rattle.stage_sets.specs.Ends.{AreStageEnds}
use Rattle.stage_sets.specs.steps.Bases.{base_chain}
use Rattle.stage_sets.proofs.stages.through_all.Given as goal

-- through the base chains so far
abbrev pub invariant-loop-base : goal.invariant-loop-base
invariant-loop-base l = record {
  keeps : Keeps l.fn.diagrams l.diagrams;
  ends : AreStageEnds l.interfaces (end_of_chains l.network l.tables (map base_chain (take l.base-index l.bases))) l.fn.diagrams l.diagrams l.fn.set
      l.outcomes.items;
}
