use Rattle.std.proofs.Common.{drop, map}
use Rattle.nft_tree.specs.TreeViews.{statement}
use Rattle.rule_meaning.specs.Runs.{table_program}
use Rattle.lowering.specs.Lowered.{Extends}
use Rattle.chain_sets.specs.RuleSets.{sets_of}
use Rattle.chain_sets.specs.steps.Merging.{HavePackets}
use Rattle.chain_sets.proofs.Passing.{TurnsSoFar}
use Rattle.chain_sets.proofs.turns.rule_turns.Given as goal

abbrev pub invariant-loop-state : goal.invariant-loop-state
invariant-loop-state l = record {
  so_far : TurnsSoFar (table_program l.table.setting.network.now l.rule.table l.table.setting.names.now) l.rule.chain l.rule.rule
      (map statement l.stmts) l.table.interfaces.now l.fn.diagrams l.diagrams (drop l.state-index l.states) l.states l.turns.items
      (sets_of l.fn.visits) (sets_of l.visits);
  packets : HavePackets l.diagrams l.turns.items;
  extends : Extends l.fn.lookups l.lookups;
}
