use Rattle.std.proofs.Common.{◌≡◌, [], filter, drop}
use Rattle.rule_meaning.specs.Hooks.{base_chains_of_tables}
use Rattle.coming_sets.specs.Bases.{runs}
use Rattle.rule_reach.specs.Reach.{run_chains}
use Rattle.rule_reach.proofs.Bases.{Done}
use Rattle.rule_reach.proofs.making.bases_by.Given as goal

abbrev pub invariant-loop-table : goal.invariant-loop-table
invariant-loop-table l = record {
  limit : l.diagrams.limit ≡ l.initial.diagrams.limit;
  sets : Done l.checked.network l.checked.rules l.diagrams [] (run_chains l.checked.rules)
      (filter runs (base_chains_of_tables l.table (drop l.table l.checked.rules))) l.bases.items;
}
