use Rattle.std.proofs.Common.{◌≡◌, ◌+◌, ◌<◌, length}
use Rattle.ip_headers.specs.Sum.{words_sum, folded}
use Rattle.ip_headers.proofs.sum.add_words.Given as goal

-- what remains is the rest of the sum
abbrev pub invariant-loop-words : goal.invariant-loop-words
invariant-loop-words l = record {
  small : l.sum < 8589934592;
  same : folded (l.sum + words_sum l.rest) ≡ folded (l.start + words_sum l.bytes);
}

abbrev pub decreases-loop-words : goal.decreases-loop-words
decreases-loop-words l = length l.rest
