use Rattle.std.proofs.Common.{take}
use Rattle.packet_sets.specs.Sets.{Keeps}
use Rattle.rule_reach.specs.Reach.{run_chains}
use Rattle.rule_reach.specs.Takers.{Whether, comes_for, takes}
use Rattle.rule_reach.proofs.takers.Told.at_rule.Given as goal

abbrev pub invariant-loop-base : goal.invariant-loop-base
invariant-loop-base l = record {
  keeps : Keeps l.initial.diagrams l.diagrams;
  come : Whether l.self.network.now l.self.tables.now (take l.base-index (run_chains l.self.tables.now))
      (comes_for l.self.network.now l.self.tables.now l.rule l.number) l.come;
  end : Whether l.self.network.now l.self.tables.now (take l.base-index (run_chains l.self.tables.now))
      (takes l.self.network.now l.self.tables.now l.rule l.number) l.end;
}
