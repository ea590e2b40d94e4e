use Rattle.std.proofs.Common.{◌≡◌, ◌^◌, ◌-◌, map, take, min}
use Rattle.std.specs.List.{sum_by}
use Rattle.nft_tree.specs.declared.compared_types.ComparedType.TheVariants.{Named}
use Rattle.nft_tree.specs.ComparedTypes.{compared_type_width}
use Rattle.rule_types.proofs.keys.types_too_wide.Given as goal

-- the width of the types so far
abbrev pub invariant-loop-value_type : goal.invariant-loop-value_type
invariant-loop-value_type l = l.width ≡ min (sum_by compared_type_width (map Named (take l.value_type-index l.types))) (2 ^ 32 - 1)
