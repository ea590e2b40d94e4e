-- Bounds of numbers, and how many bits concatenations have.
use Rattle.std.specs.Prelude.{ℕ, ◌+◌, ◌&&◌, nat_le, nat_lt, not, Bool, List, [], ◌∷◌}
use Rattle.nft_tree.specs.declared.selector.Selector.{Selector}
use Rattle.nft_tree.specs.ValueTypes.{selector_width}
use Rattle.action_cases.specs.declared.concatenations.Bound.{Bound}
use Rattle.action_cases.specs.declared.concatenations.Bound.TheVariants as bounds

-- the number is within the bound
abbrev pub bound_passes : Bound → ℕ → ℕ → Bool
bound_passes bounds.Least number n = nat_le number n
bound_passes bounds.Most number n = nat_le n number

-- it is strictly within the bound
abbrev pub is_beyond : Bound → ℕ → ℕ → Bool
is_beyond bounds.Least number n = nat_lt number n
is_beyond bounds.Most number n = nat_lt n number

-- the same, where it has at least the bound, and at most it
abbrev pub is_past : Bound → Bool → Bool → Bool
is_past bounds.Least least most = least && not most
is_past bounds.Most least most = most && not least

-- how many bits the selectors' values take
abbrev pub joined_width : List Selector → ℕ
joined_width [] = 0
joined_width (s ∷ ss) = selector_width s + joined_width ss
