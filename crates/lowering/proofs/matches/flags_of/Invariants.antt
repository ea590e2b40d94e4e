use Rattle.lowering.proofs.Names.{bit_or, drop, flag_number, flag_tree, flags_of, fold, map, ◌≡◌}
use Rattle.lowering.proofs.matches.flags_of.Given as goal

-- with the bits of the flags that are left, those of all
abbrev pub invariant-loop-flag : goal.invariant-loop-flag
invariant-loop-flag l = fold bit_or l.bits (map flag_number (map flag_tree (drop l.flag-index l.flags))) ≡ flags_of (map flag_tree l.flags)
