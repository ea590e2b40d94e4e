use Rattle.compiler.proofs.Names.{ChainNo, Prices, base_chains_of, base_chains_of_tables, costed, drop, map, priced, ℕ, ◌++◌, ◌≡◌}
use Rattle.compiler.proofs.starts.add_base_chains.Given as goal

-- with the base chains of the tables that are left all are there
abbrev pub invariant-loop-table : goal.invariant-loop-table
invariant-loop-table l = (price : ChainNo → ℕ) → Prices l.checked.rules price
    → map costed l.bases.items ++ map (priced price) (base_chains_of_tables l.table (drop l.table l.checked.rules))
    ≡ map (priced price) (base_chains_of l.checked.rules)
