-- Tests of numbers. (own)
use Rattle.std.specs.Prelude.{ℕ, ◌==◌, ◌&&◌, nat_le, bit_and, Bool}
use Rattle.fact_sets.specs.declared.ranges.Test.{Test}
use Rattle.fact_sets.specs.declared.ranges.Test.TheVariants as tests

abbrev pub test_passes : Test → ℕ → Bool
test_passes (tests.AtLeast low) n = nat_le low n
test_passes (tests.AtMost high) n = nat_le n high
test_passes (tests.Within low high) n = nat_le low n && nat_le n high
test_passes (tests.Bits mask wanted) n = bit_and n mask == wanted
