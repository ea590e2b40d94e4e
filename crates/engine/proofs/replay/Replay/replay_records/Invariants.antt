-- the records so far are processed, their output is written or pending, and no call failed
use Rattle.engine.proofs.Names.{IsAtEnd, None, OfBegun, READ_AHEAD, RepresentsSome, devices, length, true, ◌-◌, ◌≡◌, ◌≤◌}
use Rattle.engine.proofs.Replays.{Carried}
use Rattle.engine.proofs.replay.Replay.replay_records.Given as goal

abbrev pub invariant-each : goal.invariant-each
invariant-each g l = record {
  going : l.self.records.fault ≡ None;
  taken : l.self.engine.records ≡ l.self.records.count;
  noted : l.self.report.records ≡ l.self.records.count;
  read_calm : l.capture.failures ≡ l.fn.capture.failures;
  write_calm : l.sent.failures ≡ l.fn.sent.failures;
  write_without_failure : l.report.failures ≡ l.fn.report.failures;
  few : length l.self.records.held ≤ READ_AHEAD;
  pending : length l.self.report.notes ≤ 69633;
  drained : l.self.records.ended ≡ true → IsAtEnd (g.R.Read.remaining l.capture.inner);
  represents : RepresentsSome l.self.engine;
  carried : OfBegun l.fn.self
      (devices g.R.Read.remaining g.W.Write.contents g.W2.Write.contents l.fn.capture l.fn.sent l.fn.report) (λ input.
      Carried l.self input (g.R.Read.remaining l.capture.inner) (g.W.Write.contents l.sent.inner)
      (g.W2.Write.contents l.report.inner));
}

abbrev pub decreases-each : goal.decreases-each
decreases-each g l = 4294967296 - l.self.records.count
