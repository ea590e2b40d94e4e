use Rattle.compiler.proofs.Names.{arith, has_wrong_value, length, length-take-le, or_parts, sym, table_mismatches, take_all, take_more, ◌≡◌}
use Rattle.compiler.proofs.TableLaws.{codes_more, none_at}
use Rattle.compiler.proofs.tables.add_tables.Goals as goal

pub table_code-requires-clause-types : goal.table_code-requires-clause-types
table_code-requires-clause-types c = none_at table_mismatches c.args.names.now c.loop-number.number
    c.index-names-number.result c.loop-number-test.true c.index-names-number.is c.requires.types

pub table_code-requires-clause-bounds : goal.table_code-requires-clause-bounds
table_code-requires-clause-bounds c = (or_parts _ _ (none_at (has_wrong_value c.args.network.now) c.args.names.now
    c.loop-number.number c.index-names-number.result c.loop-number-test.true c.index-names-number.is c.requires.bounds)).1

pub loop-number-preserved : goal.loop-number-preserved
loop-number-preserved c =
    let before = c.loop-number.invariant in
    let long = length-take-le c.loop-number.number c.args.names.now (omega arith) in
    let place : c.loop-number.number ≡ length c.loop-number.codes.items = omega arith in
    rw (
      c.in_ok-push.ensures.items,
      take_more c.args.names.now c.loop-number.number c.index-names-number.result c.loop-number-test.true,
      ← c.index-names-number.is,
    ) (codes_more c.args.network.now _ _ c.index-names-number.result c.in_ok-new.field-0 before
    (rw (sym c.in_ok-new.ensures, c.in_ok-to_u32.ensures, place) at c.in_ok-code.ensures))

pub returns : goal.returns
returns c = rw (take_all c.loop-number.number c.args.names.now (omega arith)) at c.loop-number.invariant
