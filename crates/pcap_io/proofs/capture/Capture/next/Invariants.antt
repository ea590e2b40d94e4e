-- what was read is held, and nothing else changed; nothing was read where the answer was known
use Rattle.std.proofs.Common.{◌≡◌, ◌-◌, ℕ, true, None, cond, length, List}
use Rattle.std.specs.Io.KnownBytes.{Consumes, Keeps, IsAtEnd}
use Rattle.pcap_io.specs.CaptureStates.{ahead, is_ready}
use Rattle.pcap_io.proofs.capture.Capture.next.Given as goal

abbrev pub invariant-loop-self : goal.invariant-loop-self
invariant-loop-self g l = record {
  format : l.self.format ≡ l.initial.self.format;
  count : l.self.count ≡ l.initial.self.count;
  latest : l.self.latest ≡ l.initial.self.latest;
  fault : l.self.fault ≡ None;
  last : l.self.last ≡ None;
  whole : Keeps (ahead l.initial.self (g.R.Read.remaining l.initial.reader.inner))
      (ahead l.self (g.R.Read.remaining l.reader.inner));
  unread : is_ready l.initial.self ≡ true → (l.self ≡ l.initial.self) × (l.reader ≡ l.initial.reader);
  drained : (l.initial.self.ended ≡ true → IsAtEnd (g.R.Read.remaining l.initial.reader.inner)) → l.self.ended ≡ true
      → IsAtEnd (g.R.Read.remaining l.reader.inner);
  read : (part : List ℕ) × Consumes (g.R.Read.remaining l.initial.reader.inner) (g.R.Read.remaining l.reader.inner)
      part;
  no_failure : l.reader.failures ≡ l.initial.reader.failures;
}

abbrev pub decreases-loop-self : goal.decreases-loop-self
decreases-loop-self g l = cond l.self.ended 0 (262161 - length l.self.held)
