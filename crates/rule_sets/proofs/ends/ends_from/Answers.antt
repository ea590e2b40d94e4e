use Rattle.std.proofs.Common.{◌+◌, ◌==◌, ap, arith, drop, length, map, rules}
use Rattle.std.proofs.lemmas.List.{drop_all}
use Rattle.nft_tree.specs.TreeViews.{statement}
use Rattle.rule_types.specs.Types.{statement_mismatches}
use Rattle.rule_values.specs.Faults.{statement_out_of_range}
use Rattle.rule_meaning.specs.Runs.{table_program}
use Rattle.rule_sets.specs.Ends.{rule_end}
use Rattle.rule_sets.proofs.Advancing.{is_last, none_at, runs_all, runs_more, statement_ends}
use Rattle.rule_sets.proofs.Deciding.{declared_kept, extends_trans}
use Rattle.rule_sets.proofs.Sorting.{keeps_trans}
use Rattle.rule_sets.proofs.ends.ends_from.Goals as goal

pub after-requires-clause-declared : goal.after-requires-clause-declared
after-requires-clause-declared c =
    declared_kept c.args.setting.network.now c.args.setting.names.now c.args.lookups.now c.loop-stmt.lookups c.loop-stmt.invariant.extends
    c.requires.declared

pub after-requires-clause-types : goal.after-requires-clause-types
after-requires-clause-types c =
    none_at (statement_mismatches c.args.setting.names.now) statement c.args.stmts.now c.loop-stmt.stmt-index c.stmt-item.result
    c.loop-stmt-test.true c.stmt-item.is c.requires.types

pub after-requires-clause-bounds : goal.after-requires-clause-bounds
after-requires-clause-bounds c =
    none_at statement_out_of_range statement c.args.stmts.now c.loop-stmt.stmt-index c.stmt-item.result c.loop-stmt-test.true c.stmt-item.is
    c.requires.bounds

pub returns-in_err-progress-2-clause-keeps : goal.returns-in_err-progress-2-clause-keeps
returns-in_err-progress-2-clause-keeps c =
    keeps_trans c.args.diagrams.now c.loop-stmt.diagrams c.after.new.diagrams c.loop-stmt.invariant.runs.keeps c.after.ensures.keeps

pub returns-in_err-statement-clause-keeps : goal.returns-in_err-statement-clause-keeps
returns-in_err-statement-clause-keeps c =
    keeps_trans c.args.diagrams.now c.loop-stmt.diagrams c.after.new.diagrams c.loop-stmt.invariant.runs.keeps c.after.ensures.keeps

pub loop-stmt-preserved : goal.loop-stmt-preserved
loop-stmt-preserved c =
    let i = c.loop-stmt.stmt-index in
    let stmts = c.args.stmts.now in
    let p = table_program c.args.setting.network.now c.args.rule.table c.args.setting.names.now in
    let last = is_last statement stmts i c.loop-stmt.statement c.loop-stmt.invariant.number c.loop-stmt-test.true in
    record {
      runs = runs_more c.args.diagrams.now c.loop-stmt.diagrams c.after.new.diagrams c.args.reader c.args.set c.loop-stmt.progress
          c.in_ok-progress-2.progress _ (rule_end p c.args.rule.chain c.args.rule.rule (i + 1 + 1) (map statement (drop (i + 1) stmts)))
          (rule_end p c.args.rule.chain c.args.rule.rule (i + 1) (map statement (drop i stmts)))
          (rule_end p c.args.rule.chain c.args.rule.rule 1 (map statement stmts))
          (statement_ends p c.args.rule.chain c.args.rule.rule i c.loop-stmt.statement (c.loop-stmt.statement == length stmts) statement stmts
          c.stmt-item.result c.loop-stmt.invariant.number c.loop-stmt-test.true c.stmt-item.is last) c.loop-stmt.invariant.runs
          c.after.ensures.keeps c.in_ok-progress-2.ensures.value;
      extends = extends_trans c.args.lookups.now c.loop-stmt.lookups c.after.new.lookups c.loop-stmt.invariant.extends
          c.in_ok-progress-2.ensures.extends;
      number = search rules;
    }

pub returns-clause-value : goal.returns-clause-value
returns-clause-value c =
    let i = c.loop-stmt.stmt-index in
    let stmts = c.args.stmts.now in
    let p = table_program c.args.setting.network.now c.args.rule.table c.args.setting.names.now in
    runs_all _ _ _ _ _ _ _ c.in_ok-finish.field-0.items
    (λ f. ap (λ l. rule_end p c.args.rule.chain c.args.rule.rule (i + 1) (map statement l) f) (drop_all i stmts (omega arith)))
    c.loop-stmt.invariant.runs c.in_ok-finish.ensures
