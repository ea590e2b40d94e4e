use Rattle.lowering.proofs.Names.{bit_or, drop, fold, map, union, word_number, ◌≡◌}
use Rattle.lowering.proofs.matches.bits_of.Given as goal

-- with the bits of the words that are left, those of all
abbrev pub invariant-loop-word : goal.invariant-loop-word
invariant-loop-word l = fold bit_or l.bits (map (word_number l.value_type) (map (λ w. w.items) (drop l.word-index l.words)))
    ≡ union (map (word_number l.value_type) (map (λ w. w.items) l.words))
