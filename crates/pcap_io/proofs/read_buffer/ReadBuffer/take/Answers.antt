use Rattle.std.proofs.Common.{◌≡◌, ◌+◌, ◌≤◌, length, ap, arith}
use Rattle.std.specs.Prelude.{slice_range}
use Rattle.pcap_io.specs.steps.ReadAhead.{BufferState}
use Rattle.pcap_io.proofs.Buffers.{held_length, taken_more}
use Rattle.pcap_io.proofs.read_buffer.ReadBuffer.take.Goals as goal

pub returns : goal.returns
returns c =
    let inside = c.self.inside in
    let held : length (slice_range inside.bytes.items inside.start inside.end) ≡ length c.args.self.now.held =
    ap (λ (a : BufferState). length a.held) c.self.view_is in
    let fits : inside.start + c.args.count ≤ inside.end =
    omega (
      arith,
      held,
      held_length inside.bytes.items inside.start inside.end c.self.invariant.0
          c.self.invariant.1,
      c.requires,
      c.self.invariant.0,
    ) in
    rw (← c.self.view_is) (taken_more inside.bytes.items inside.start inside.end c.args.count inside.is_ended fits)
