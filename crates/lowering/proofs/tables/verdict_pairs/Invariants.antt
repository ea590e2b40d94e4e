use Rattle.lowering.proofs.Names.{data_verdict, drop, first_value, map, option_map, option_or, pair_tree, pairs_give, rule_verdict_of, ℕ, ◌≡◌}
use Rattle.lowering.proofs.tables.verdict_pairs.Given as goal

-- with the elements that are left, the map of all
abbrev pub invariant-loop-pair : goal.invariant-loop-pair
invariant-loop-pair l = (n : ℕ) → option_or (first_value l.entries.items n) (option_map (rule_verdict_of l.names)
    (pairs_give data_verdict l.network l.kind (map pair_tree (drop l.pair-index l.pairs)) n))
    ≡ option_map (rule_verdict_of l.names) (pairs_give data_verdict l.network l.kind (map pair_tree l.pairs) n)
