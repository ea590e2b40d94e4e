use Rattle.lowering.proofs.Names.{drop, element_tree, elements_have, first_value, is_some, map, ℕ, ◌||◌, ◌≡◌}
use Rattle.lowering.proofs.tables.element_pairs.Given as goal

-- with the elements that are left, the set of all
abbrev pub invariant-loop-element : goal.invariant-loop-element
invariant-loop-element l = (n : ℕ) → (is_some (first_value l.pairs.items n)
    || elements_have l.network l.kinds (map element_tree (drop l.element-index l.elements)) n)
    ≡ elements_have l.network l.kinds (map element_tree l.elements) n
