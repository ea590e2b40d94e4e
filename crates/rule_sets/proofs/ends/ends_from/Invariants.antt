use Rattle.std.proofs.Common.{drop, map, ◌+◌, ◌≡◌}
use Rattle.nft_tree.specs.TreeViews.{statement}
use Rattle.rule_meaning.specs.Runs.{table_program}
use Rattle.lowering.specs.Lowered.{Extends}
use Rattle.rule_sets.specs.Ends.{rule_end}
use Rattle.rule_sets.proofs.Advancing.{Runs}
use Rattle.rule_sets.proofs.ends.ends_from.Given as goal

-- with the statements that are left
abbrev pub invariant-loop-stmt : goal.invariant-loop-stmt
invariant-loop-stmt l = record {
  runs : Runs l.fn.diagrams l.diagrams l.reader l.fn.set l.progress (rule_end (table_program l.setting.network.now l.rule.table l.setting.names.now) l.rule.chain
      l.rule.rule (l.stmt-index + 1) (map statement (drop l.stmt-index l.stmts))) (rule_end (table_program l.setting.network.now l.rule.table
      l.setting.names.now) l.rule.chain l.rule.rule 1 (map statement l.stmts));
  extends : Extends l.fn.lookups l.lookups;
  number : l.statement ≡ l.stmt-index + 1;
}
