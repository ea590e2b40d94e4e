use Rattle.std.proofs.Common.{◌≡◌, ◌+◌, ◌<◌, drop}
use Rattle.ip_headers.specs.Sum.{words_sum, folded}
use Rattle.ip_headers.proofs.Sums.{placed}
use Rattle.ip_headers.proofs.sum.add_bytes.Given as goal

-- what remains is the rest of the sum
abbrev pub invariant-loop-byte : goal.invariant-loop-byte
invariant-loop-byte l = record {
  small : l.sum < 65536;
  same : folded (l.sum + placed l.is_high (drop l.byte-index l.bytes)) ≡ folded (l.start + words_sum l.bytes);
}
