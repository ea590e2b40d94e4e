use Rattle.std.proofs.Common.{drop, map, ◌*◌, ◌+◌}
use Rattle.nft_tree.specs.TreeViews.{rule_tree}
use Rattle.rule_meaning.specs.Runs.{table_program}
use Rattle.lowering.specs.Lowered.{Extends}
use Rattle.chain_sets.specs.RuleSets.{sets_of}
use Rattle.chain_sets.specs.steps.Walking.{statements_in}
use Rattle.chain_sets.proofs.Levels.{ExitsSoFar, RulesSoFar}
use Rattle.chain_sets.proofs.walking.+walking.Given as goal

abbrev pub decreases-turn_exits : goal.decreases-turn_exits
decreases-turn_exits l = 4 * l.levels + 1

abbrev pub decreases-rule_exits : goal.decreases-rule_exits
decreases-rule_exits l = 4 * l.levels + 2

abbrev pub decreases-pass_rule : goal.decreases-pass_rule
decreases-pass_rule l = 4 * l.levels + 3

abbrev pub decreases-walk_chain : goal.decreases-walk_chain
decreases-walk_chain l = 4 * l.levels

abbrev pub invariant-rule_exits-loop-turn : goal.invariant-rule_exits-loop-turn
invariant-rule_exits-loop-turn l = record {
  so_far : ExitsSoFar (table_program l.table.setting.network.now l.table.number l.table.setting.names.now) l.table.interfaces.now l.levels
      l.fn.diagrams l.diagrams (drop l.turn-index l.turns) l.turns l.exits.items (sets_of l.fn.visits) (sets_of l.visits);
  extends : Extends l.fn.lookups l.lookups;
}

abbrev pub invariant-walk_chain-loop-index : goal.invariant-walk_chain-loop-index
invariant-walk_chain-loop-index l = record {
  so_far : RulesSoFar (table_program l.table.setting.network.now l.table.number l.table.setting.names.now) l.table.interfaces.now l.deeper l.chain
      l.fn.diagrams l.diagrams (statements_in (map rule_tree l.rules)) l.index l.fn.states l.states.items l.ends.items
      (sets_of l.fn.visits) (sets_of l.visits);
  extends : Extends l.fn.lookups l.lookups;
}
