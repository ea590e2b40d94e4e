use Rattle.std.proofs.Common.{ap, append-nil, append_assoc, arith, drop, filter, length, map, refl, sym, ◌+◌, ◌++◌, ◌∙◌}
use Rattle.std.proofs.lemmas.List.{drop_all}
use Rattle.std.proofs.lemmas.Option.{slice_get_read}
use Rattle.nft_tree.specs.TableItems.{chains_of}
use Rattle.rule_meaning.specs.Hooks.{base_chains_from, base_chains_of_tables}
use Rattle.stage_sets.specs.steps.Bases.{base_chain, is_asked}
use Rattle.stage_sets.proofs.InStage.{tables_left}
use Rattle.stage_sets.proofs.bases.text_bases.Goals as goal

pub loop-table-init : goal.loop-table-init
loop-table-init c = rw c.new-bases.ensures.items refl

pub loop-table-preserved : goal.loop-table-preserved
loop-table-preserved c =
    let test = is_asked c.args.asked in
    let tables = c.args.tables.now in
    let i = c.loop-table.table in
    let t = c.index-tables-table.result in
    let at = slice_get_read tables (length tables) i t refl c.loop-table-test.true c.index-tables-table.is in
    let before = map base_chain c.loop-table.bases.items in
    let here = filter test (base_chains_from i 0 (chains_of t)) in
    let behind = filter test (base_chains_of_tables (i + 1) (drop (i + 1) tables)) in
    ap (λ l. l ++ behind) (rw c.in_ok-to_u32.ensures at c.in_ok-add_table.ensures) ∙ append_assoc before here behind
    ∙ ap (λ l. before ++ l) (sym (tables_left test i tables t at)) ∙ c.loop-table.invariant

pub returns : goal.returns
returns c =
    let test = is_asked c.args.asked in
    let tables = c.args.tables.now in
    let i = c.loop-table.table in
    let before = map base_chain c.loop-table.bases.items in
    sym (append-nil before)
    ∙ ap (λ l. before ++ filter test (base_chains_of_tables i l)) (sym (drop_all i tables (omega arith))) ∙ c.loop-table.invariant
