use Rattle.std.proofs.Common.{arith, length, map, refl, subst, sym, ◌<◌}
use Rattle.std.proofs.lemmas.Bool.{ltb-true}
use Rattle.std.proofs.lemmas.Option.{slice_get_read}
use Rattle.std.proofs.lemmas.Result.{on_ok_weaker}
use Rattle.std.proofs.lemmas.Slice.Zip.{AllZip-long}
use Rattle.nft_tree.specs.TreeViews.{statement}
use Rattle.lowering.specs.Lowered.{HasDeclared}
use Rattle.rule_sets.proofs.Deciding.{declared_kept}
use Rattle.rule_reach.proofs.Alone.{bounds_fine, declared_at, types_fine, zip_set}
use Rattle.rule_reach.proofs.Bases.{bounds_at, types_at}
use Rattle.rule_reach.proofs.takers.Told.alone.Goals as goal

pub bounds-lookups-table : goal.bounds-lookups-table
bounds-lookups-table c =
    let long = AllZip-long (HasDeclared c.args.self.network.now) c.args.self.tables.now c.args.lookups.now c.requires.declared in
    let under = ltb-true c.args.rule.table (length c.args.self.tables.now) (sym c.in-Some.ensures.lookup.0) in
    omega (arith, long, under)

pub met_alone-requires-clause-declared : goal.met_alone-requires-clause-declared
met_alone-requires-clause-declared c =
    let network = c.args.self.network.now in
    let tables = c.args.self.tables.now in
    let lookups = c.args.lookups.now in
    let table = c.args.rule.table in
    let long = AllZip-long (HasDeclared network) tables lookups c.requires.declared in
    let under = ltb-true table (length tables) (sym c.in-Some.ensures.lookup.0) in
    let inside : table < length lookups = omega (arith, long, under) in
    let at = slice_get_read tables (length tables) table c.in-Some.names.now refl under c.in-Some.ensures.lookup.1 in
    let there = slice_get_read lookups (length lookups) table c.index-lookups-table.result refl inside c.index-lookups-table.is in
    subst (HasDeclared network c.in-Some.names.now) c.index-lookups-table.is
    (declared_at network tables lookups table c.in-Some.names.now c.index-lookups-table.result c.requires.declared at there)

pub met_alone-requires-clause-types : goal.met_alone-requires-clause-types
met_alone-requires-clause-types c =
    let tables = c.args.self.tables.now in
    let names = c.in-Some.names.now in
    let under = ltb-true c.args.rule.table (length tables) (sym c.in-Some.ensures.lookup.0) in
    let at = slice_get_read tables (length tables) c.args.rule.table names refl under c.in-Some.ensures.lookup.1 in
    types_fine names c.args.rule (map statement c.in-Some-statements_of.stmts.now)
    (types_at c.args.self.network.now tables c.args.rule.table names c.requires.fine at) (sym c.in-Some-statements_of.ensures)

pub met_alone-requires-clause-bounds : goal.met_alone-requires-clause-bounds
met_alone-requires-clause-bounds c =
    let tables = c.args.self.tables.now in
    let names = c.in-Some.names.now in
    let under = ltb-true c.args.rule.table (length tables) (sym c.in-Some.ensures.lookup.0) in
    let at = slice_get_read tables (length tables) c.args.rule.table names refl under c.in-Some.ensures.lookup.1 in
    bounds_fine names c.args.rule (map statement c.in-Some-statements_of.stmts.now)
    (bounds_at c.args.self.network.now tables c.args.rule.table names c.requires.fine at) (sym c.in-Some-statements_of.ensures)

pub returns-clause-declared : goal.returns-clause-declared
returns-clause-declared c =
    let network = c.args.self.network.now in
    let tables = c.args.self.tables.now in
    let lookups = c.args.lookups.now in
    let table = c.args.rule.table in
    let names = c.in-Some.names.now in
    let old = c.index-lookups-table.result in
    let new = c.met_alone.new.lookups in
    let long = AllZip-long (HasDeclared network) tables lookups c.requires.declared in
    let under = ltb-true table (length tables) (sym c.in-Some.ensures.lookup.0) in
    let inside : table < length lookups = omega (arith, long, under) in
    let at = slice_get_read tables (length tables) table names refl under c.in-Some.ensures.lookup.1 in
    let there = slice_get_read lookups (length lookups) table old refl inside c.index-lookups-table.is in
    let had = declared_at network tables lookups table names old c.requires.declared at there in
    on_ok_weaker c.met_alone.result (λ extends. zip_set (HasDeclared network) tables lookups table names new c.requires.declared at
    (declared_kept network names old new (rw (← c.index-lookups-table.is) at extends) had)) c.met_alone.ensures.extends
