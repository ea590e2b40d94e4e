use Rattle.std.proofs.Common.{◌≡◌, ◌^◌, ◌-◌, map, take, min}
use Rattle.std.specs.List.{sum_by}
use Rattle.nft_tree.specs.ComparedTypes.{compared_type_width, selector_compared_type}
use Rattle.rule_types.proofs.keys.selectors_too_wide.Given as goal

-- the width of the selectors' types so far
abbrev pub invariant-loop-selector : goal.invariant-loop-selector
invariant-loop-selector l = l.width ≡ min (sum_by compared_type_width (map selector_compared_type (take l.selector-index l.selectors))) (2 ^ 32 - 1)
