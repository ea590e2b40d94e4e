use Rattle.std.proofs.Common.{sym, [], drop, filter, length, refl, ◌+◌, ◌∙◌}
use Rattle.std.proofs.lemmas.Bool.{false_from_ne_true, or_parts}
use Rattle.std.proofs.lemmas.Option.{slice_get_read}
use Rattle.nft_tree.specs.TableItems.{chains_of}
use Rattle.rule_types.specs.Types.{table_mismatches}
use Rattle.rule_values.specs.Faults.{has_wrong_value}
use Rattle.rule_check.specs.declared.fault.CheckFault.TheVariants as faults
use Rattle.rule_meaning.specs.Hooks.{base_chains_from, base_chains_of_tables}
use Rattle.coming_sets.specs.Bases.{runs}
use Rattle.rule_reach.specs.Reach.{run_chains}
use Rattle.chain_ways.proofs.Nesting.{nests_among}
use Rattle.chain_sets.proofs.Nesting.{passed_on}
use Rattle.chain_sets.specs.declared.ways.TheConstants.{LEVELS}
use Rattle.rule_reach.proofs.Nesting.{of_table}
use Rattle.rule_reach.proofs.Bases.{done_more, done_none, none_at, tables_left}
use Rattle.rule_reach.proofs.making.bases_by.Goals as goal

pub loop-table-init : goal.loop-table-init
loop-table-init c =
    let checked = c.args.checked.now in
    record {
      limit = refl;
      sets = done_none checked.network checked.rules c.args.diagrams.now [] (run_chains checked.rules) c.new-bases.result.items (rw c.new-bases.ensures.items tt);
    }

pub add_table-requires-clause-types : goal.add_table-requires-clause-types
add_table-requires-clause-types c =
    let list = c.deref-names-items.result.now in
    let at = rw (c.deref-names-items.ensures.value, c.in_ok-tables.ensures) at
    (slice_get_read list (length list) c.loop-table.table c.names-item.result refl c.loop-table-test.true c.names-item.is) in
    none_at table_mismatches c.args.checked.now.rules c.loop-table.table c.names-item.result
    (false_from_ne_true _ (c.requires faults.TypeMismatch)) at

pub add_table-requires-clause-bounds : goal.add_table-requires-clause-bounds
add_table-requires-clause-bounds c =
    let list = c.deref-names-items.result.now in
    let at = rw (c.deref-names-items.ensures.value, c.in_ok-tables.ensures) at
    (slice_get_read list (length list) c.loop-table.table c.names-item.result refl c.loop-table-test.true c.names-item.is) in
    (or_parts _ _ (none_at (has_wrong_value c.args.checked.now.network) c.args.checked.now.rules c.loop-table.table c.names-item.result
    (false_from_ne_true _ (c.requires faults.WrongValue)) at)).1

pub loop-table-preserved : goal.loop-table-preserved
loop-table-preserved c =
    let checked = c.args.checked.now in
    let i = c.loop-table.table in
    let t = c.names-item.result in
    let list = c.deref-names-items.result.now in
    let at = rw (c.deref-names-items.ensures.value, c.in_ok-tables.ensures) at
    (slice_get_read list (length list) i t refl c.loop-table-test.true c.names-item.is) in
    let added = rw (c.plant-network.ensures, c.in_ok-to_u32.ensures) at c.in_ok-add_table.ensures.sets in
    record {
      limit = c.add_table.ensures.limit ∙ c.loop-table.invariant.limit;
      sets = done_more checked.network checked.rules c.loop-table.diagrams c.add_table.new.diagrams [] (run_chains checked.rules)
          (filter runs (base_chains_of_tables i (drop i checked.rules))) (filter runs (base_chains_from i 0 (chains_of t)))
          (filter runs (base_chains_of_tables (i + 1) (drop (i + 1) checked.rules))) c.loop-table.bases.items c.add_table.new.bases.items
          (tables_left i checked.rules t at) (λ so_far is. added checked.rules so_far at is) c.loop-table.invariant.sets;
    }

pub returns-in_err-add_table-clause-too_deep : goal.returns-in_err-add_table-clause-too_deep
returns-in_err-add_table-clause-too_deep c = passed_on c.from_residual-in_err-add_table.result _ (λ e is deep.
    let checked = c.args.checked.now in
    let i = c.loop-table.table in
    let t = c.names-item.result in
    let list = c.deref-names-items.result.now in
    let at = rw (c.deref-names-items.ensures.value, c.in_ok-tables.ensures) at
    (slice_get_read list (length list) i t refl c.loop-table-test.true c.names-item.is) in
    let here = rw (c.plant-network.ensures, c.in_ok-to_u32.ensures) at (c.in_err-add_table.ensures.too_deep (sym is ∙ deep)) in
    nests_among LEVELS checked.network checked.network checked.rules checked.rules (filter runs (base_chains_from i 0 (chains_of t)))
    (run_chains checked.rules) refl refl (λ b. of_table i checked.rules t b at) (here checked.rules at)) c.from_residual-in_err-add_table.ensures.1
