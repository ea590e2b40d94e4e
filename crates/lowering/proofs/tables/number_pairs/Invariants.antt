use Rattle.lowering.proofs.Names.{Named, data_number, drop, first_value, map, option_or, pair_tree, pairs_give, ℕ, ◌≡◌}
use Rattle.lowering.proofs.tables.number_pairs.Given as goal

-- with the elements that are left, the map of all
abbrev pub invariant-loop-pair : goal.invariant-loop-pair
invariant-loop-pair l = (n : ℕ) → option_or (first_value l.entries.items n)
    (pairs_give (data_number l.network (Named l.given)) l.network l.kind (map pair_tree (drop l.pair-index l.pairs)) n)
    ≡ pairs_give (data_number l.network (Named l.given)) l.network l.kind (map pair_tree l.pairs) n
