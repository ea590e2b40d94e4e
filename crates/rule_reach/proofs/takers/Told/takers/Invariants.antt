use Rattle.std.proofs.Common.{◌≤◌, max}
use Rattle.packet_sets.specs.Sets.{Keeps}
use Rattle.rule_reach.specs.Reach.{run_chains}
use Rattle.rule_reach.proofs.Taking.{TakersTo}
use Rattle.rule_reach.proofs.takers.Told.takers.Given as goal

abbrev pub invariant-loop-number : goal.invariant-loop-number
invariant-loop-number l = record {
  keeps : Keeps l.initial.diagrams l.diagrams;
  within : l.number ≤ max 1 l.rule.rule;
  takers : TakersTo l.self.network.now l.self.tables.now (run_chains l.self.tables.now) l.rule l.number l.takers.items;
}
