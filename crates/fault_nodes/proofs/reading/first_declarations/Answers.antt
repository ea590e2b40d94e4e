use Rattle.std.proofs.Common.{◌≡◌, ◌-◌, ◌<◌, [], ◌∷◌, ◌++◌, map, ap, ◌∙◌, arith}
use Rattle.std.proofs.lemmas.List.{map-append}
use Rattle.nft_tree.specs.TreeViews.{table_tree}
use Rattle.fault_nodes.specs.ReadParts.{table_declared}
use Rattle.fault_nodes.specs.Parts.{table_declarations}
use Rattle.fault_nodes.proofs.Declared.{first_more}
use Rattle.fault_nodes.proofs.reading.first_declarations.Goals as goal

pub loop-table-preserved : goal.loop-table-preserved
loop-table-preserved c =
    let table = c.table-item.result in
    let n = c.loop-table.left in
    let done = c.loop-table.copies.items in
    let copied : map table_tree c.push.new.self.items
    ≡ map table_tree done ++ table_declared (n - 1) (table_tree table) ∷ []
    = ap (map table_tree) c.in_ok-push.ensures.items
    ∙ map-append table_tree done (c.in_ok-table_declared.field-0 ∷ [])
    ∙ ap (λ y. map table_tree done ++ y ∷ []) c.in_ok-table_declared.ensures in
    let left : c.saturating_sub-left.result ≡ n - table_declarations (table_tree table)
    = omega (
      arith,
      c.table_declarations.ensures,
      c.saturating_sub-left.ensures,
      c.loop-table.invariant.0,
      c.ranges.count.fits,
    ) in
    let some : 0 < n = omega arith in (
      omega (arith, left, c.loop-table.invariant.0),
      rw (copied, left) (first_more table_tree n c.args.tables.now c.loop-table.table-index table _ _
          c.loop-table-test.true c.table-item.is some c.loop-table.invariant.1),
    )
