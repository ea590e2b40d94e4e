use Rattle.std.proofs.Common.{◌≡◌, ◌≤◌, ◌⊎◌, ◌∙◌, ◌++◌, ap, inl, inr, sym, arith, drop, length, length-drop, take, true}
use Rattle.pcap_io.specs.Pcap.{format_of}
use Rattle.pcap_io.specs.ReadAhead.{READ_AHEAD}
use Rattle.pcap_io.specs.steps.ReadAhead.{BufferState}
use Rattle.pcap_io.proofs.Headers.{opened, refused}
use Rattle.pcap_io.proofs.capture.Capture.open.Goals as goal
use Rattle.pcap_io.proofs.capture.Capture.open.Goals.{then-loop-buffer-test+else-not-is_ended, else-loop-buffer-test}

pub returns-in-Err-clause-refused : goal.returns-in-Err-clause-refused
returns-in-Err-clause-refused g c =
    let buffer = c.loop-buffer.buffer in
    let long : length c.held.result.now ≡ length buffer.held = ap length c.held.ensures in
    let whole : (24 ≤ length buffer.held) ⊎ (buffer.ended ≡ true) = elim c.loop-buffer-test.branch [
      | then-loop-buffer-test+else-not-is_ended w ↦ inr (cc)
      | else-loop-buffer-test w ↦ inl (omega (arith, w.loop-buffer-test, long))
    ] in
    refused _ _ buffer.held buffer.ended c.in-Err.fault c.loop-buffer.invariant.read c.loop-buffer.invariant.end
    (ap format_of (sym c.held-2.ensures) ∙ sym c.read.ensures.format ∙ c.in-Err.is) whole

pub returns-clause-bytes : goal.returns-clause-bytes
returns-clause-bytes g c =
    let buffer = c.loop-buffer.buffer in
    rw c.take.ensures (opened _ _ buffer.held buffer.ended c.in-Ok-read.format c.loop-buffer.invariant.read
    c.loop-buffer.invariant.end (ap format_of (sym c.held-2.ensures) ∙ sym c.read.ensures.format
    ∙ c.in-Ok-read.is) (omega (arith, c.in-Ok-read.ensures.long, ap length c.held-2.ensures)))

-- what is left behind the header has room
less : (b new : BufferState) → new ≡ record { taken = b.taken ++ take 24 b.held; held = drop 24 b.held; ended = b.ended }
    → length b.held ≤ READ_AHEAD → length new.held ≤ READ_AHEAD
less b new is room = rw is (omega (arith, length-drop 24 b.held, room))

pub invariant_of-result : goal.invariant_of-result
invariant_of-result g c = record {
  few = omega arith;
  early = omega arith;
  behind = tt;
  short = tt;
  room = less c.loop-buffer.buffer c.take.new.self c.take.ensures c.loop-buffer.invariant.room;
  decoded = tt;
}

pub returns-clause-room : goal.returns-clause-room
returns-clause-room g c = less c.loop-buffer.buffer c.take.new.self c.take.ensures c.loop-buffer.invariant.room
