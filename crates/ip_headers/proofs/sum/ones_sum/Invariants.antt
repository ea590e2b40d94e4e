use Rattle.std.proofs.Common.{◌≡◌, ◌+◌, ◌<◌, length}
use Rattle.ip_headers.specs.Sum.{words_sum, folded}
use Rattle.ip_headers.proofs.sum.ones_sum.Given as goal

-- what remains is the rest of the sum
abbrev pub invariant-loop-block : goal.invariant-loop-block
invariant-loop-block l = record {
  small : l.sum < 8589934592;
  same : folded (l.sum + words_sum l.rest) ≡ folded (words_sum l.bytes);
}

abbrev pub decreases-loop-block : goal.decreases-loop-block
decreases-loop-block l = length l.rest
