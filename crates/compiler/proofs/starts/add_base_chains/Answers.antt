use Rattle.compiler.proofs.Names.{Some, add-one, ap, append-nil, append_assoc, arith, costs-long, drop_all, has_wrong_value, length, map-append, or_parts, refl}
use Rattle.compiler.proofs.Names.{slice_get, slice_get_read, ◌≡◌}
use Rattle.compiler.proofs.StartLaws.{rest_from}
use Rattle.compiler.proofs.TableLaws.{none_at}
use Rattle.compiler.proofs.starts.add_base_chains.Goals.{In_ok-to_u32}
use Rattle.compiler.proofs.starts.add_base_chains.Goals as goal

at : (c : In_ok-to_u32) → slice_get c.args.checked.now.rules c.loop-table.table ≡ Some c.index-names-table.result
at c = grind (arith, slice_get, c.loop-table.table, c.requires.names, slice_get_read, c.args.names.now, c.loop-table-test.true, c.index-names-table.is)

pub loop-table-init : goal.loop-table-init
loop-table-init c = λ price prices. rw c.requires.none refl

pub add_bases-requires-clause-bounds : goal.add_bases-requires-clause-bounds
add_bases-requires-clause-bounds c = (or_parts _ _ (none_at (has_wrong_value c.args.checked.now.network) c.args.names.now
    c.loop-table.table c.index-names-table.result c.loop-table-test.true c.index-names-table.is c.requires.bounds)).1

pub add_bases-requires-clause-long : goal.add_bases-requires-clause-long
add_bases-requires-clause-long c = costs-long c.index-names-table.result c.costs.result.now
    (c.costs.ensures.costs c.index-names-table.result (at (goal.at.add_bases-requires-clause-long c).In_ok-to_u32))

pub add_bases-requires-clause-small : goal.add_bases-requires-clause-small
add_bases-requires-clause-small c = λ j chain head.
    c.costs.ensures.base c.index-names-table.result j chain head (at (goal.at.add_bases-requires-clause-small c).In_ok-to_u32)

pub loop-table-preserved : goal.loop-table-preserved
loop-table-preserved c = λ price prices.
    let table = c.index-names-table.result in
    let is = at (goal.at.loop-table-preserved c).In_ok-to_u32 in
    let price_is = prices c.loop-table.table table c.costs.result.now is (c.costs.ensures.costs table is) in
    rw ((rw c.in_ok-to_u32.ensures at c.in_ok-add_bases.ensures) price price_is, append_assoc, add-one)
    (rw (rest_from c.args.checked.now.rules c.loop-table.table table is, add-one, map-append) at (c.loop-table.invariant price prices))

pub returns : goal.returns
returns c = λ price prices.
    let same = ap length c.requires.names in
    rw (drop_all c.loop-table.table c.args.checked.now.rules (omega arith), append-nil) at (c.loop-table.invariant price prices)
