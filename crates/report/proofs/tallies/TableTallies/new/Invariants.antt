-- the tallies so far, and those of the chains from this item on
use Rattle.report.proofs.Imports.{All, chains_among, drop, fresh_table, map, table_tree, ◌++◌, ◌≡◌}
use Rattle.report.specs.steps.Tallying.{fresh_chain}
use Rattle.report.proofs.Fresh.{FitsStart}
use Rattle.report.proofs.tallies.TableTallies.new.Given as goal

abbrev pub invariant-loop-item : goal.invariant-loop-item
invariant-loop-item l = record {
  are : l.chains.items ++ map fresh_chain (chains_among (drop l.item-index l.table.items.items))
      ≡ fresh_table (table_tree l.table);
  fit : All (All (All FitsStart)) l.chains.items;
}
