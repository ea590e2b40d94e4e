-- so many so far, in the room for all
use Rattle.std.proofs.Common.{◌≡◌, ◌≤◌, ◌-◌, vec_len, vec_capacity}
use Rattle.pcap_io.proofs.read_buffer.zeros.Given as goal

abbrev pub invariant-loop-bytes : goal.invariant-loop-bytes
invariant-loop-bytes l = (vec_len l.bytes ≤ l.count) × (vec_capacity l.bytes ≡ l.count)

abbrev pub decreases-loop-bytes : goal.decreases-loop-bytes
decreases-loop-bytes l = l.count - vec_len l.bytes
