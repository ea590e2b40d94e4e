-- so many so far, in the room for all
use Rattle.stepping.proofs.Names.{◌-◌, vec_capacity, vec_len, ◌≡◌, ◌≤◌}
use Rattle.stepping.specs.declared.packet_buffer.TheConstants.{MOST_PACKET_BYTES}
use Rattle.stepping.proofs.packet_buffer.PacketBuffer.new.Given as goal

abbrev pub invariant-loop-bytes : goal.invariant-loop-bytes
invariant-loop-bytes l = (vec_len l.bytes ≤ MOST_PACKET_BYTES) × (vec_capacity l.bytes ≡ MOST_PACKET_BYTES)

abbrev pub decreases-loop-bytes : goal.decreases-loop-bytes
decreases-loop-bytes l = MOST_PACKET_BYTES - vec_len l.bytes
