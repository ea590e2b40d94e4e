use Rattle.compiler.proofs.Names.{ChainNo, PricesTable, base_chains_from, chains_of, costed, drop, map, priced, ℕ, ◌++◌, ◌≡◌}
use Rattle.compiler.proofs.starts.add_bases.Given as goal

-- with the base chains of the chains that are left those of the table are appended
abbrev pub invariant-loop-place : goal.invariant-loop-place
invariant-loop-place l = (price : ChainNo → ℕ) → PricesTable price l.table l.costs
    → map costed l.bases.items ++ map (priced price) (base_chains_from l.table l.place (drop l.place (chains_of l.names)))
    ≡ map costed l.initial.bases.items ++ map (priced price) (base_chains_from l.table 0 (chains_of l.names))
