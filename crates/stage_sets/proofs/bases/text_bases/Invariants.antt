use Rattle.std.proofs.Common.{◌≡◌, ◌++◌, drop, filter, map}
use Rattle.rule_meaning.specs.Hooks.{base_chains_of, base_chains_of_tables}
use Rattle.stage_sets.specs.steps.Bases.{base_chain, is_asked}
use Rattle.stage_sets.proofs.bases.text_bases.Given as goal

-- with the base chains of the tables that are left all are there
abbrev pub invariant-loop-table : goal.invariant-loop-table
invariant-loop-table l =
    map base_chain l.bases.items ++ filter (is_asked l.asked) (base_chains_of_tables l.table (drop l.table l.tables))
    ≡ filter (is_asked l.asked) (base_chains_of l.tables)
