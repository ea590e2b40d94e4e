-- what was read is held
use Rattle.std.proofs.Common.{◌≡◌, ◌≤◌, ◌-◌, true, cond, length}
use Rattle.std.specs.Io.KnownBytes.{Consumes, IsAtEnd}
use Rattle.pcap_io.specs.ReadAhead.{READ_AHEAD}
use Rattle.pcap_io.proofs.capture.Capture.open.Given as goal

abbrev pub invariant-loop-buffer : goal.invariant-loop-buffer
invariant-loop-buffer g l = record {
  read : Consumes (g.R.Read.remaining l.initial.reader.inner) (g.R.Read.remaining l.reader.inner) l.buffer.held;
  end : l.buffer.ended ≡ true → IsAtEnd (g.R.Read.remaining l.reader.inner);
  room : length l.buffer.held ≤ READ_AHEAD;
  no_failure : l.reader.failures ≡ l.initial.reader.failures;
}

abbrev pub decreases-loop-buffer : goal.decreases-loop-buffer
decreases-loop-buffer g l = cond l.buffer.ended 0 (262161 - length l.buffer.held)
