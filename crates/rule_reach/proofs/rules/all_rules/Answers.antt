use Rattle.std.proofs.Common.{append-nil, arith, refl, length}
use Rattle.std.proofs.lemmas.List.{drop_all}
use Rattle.std.proofs.lemmas.Option.{slice_get_read}
use Rattle.rule_reach.proofs.AllRules.{table_more}
use Rattle.rule_reach.proofs.rules.all_rules.Goals as goal

pub loop-table-preserved : goal.loop-table-preserved
loop-table-preserved c =
    table_more c.args.names.now c.loop-table.table c.in_ok-to_u32.field-0 c.index-names-table.result c.loop-table.rules.items
    c.add_rules_of_table.new.rules.items _
    (slice_get_read c.args.names.now (length c.args.names.now) c.loop-table.table c.index-names-table.result refl c.loop-table-test.true
    c.index-names-table.is)
    c.in_ok-to_u32.ensures c.in_ok-add_rules_of_table.ensures c.loop-table.invariant

pub returns : goal.returns
returns c = rw (drop_all c.loop-table.table c.args.names.now (omega arith), append-nil) at c.loop-table.invariant
