-- what is gone from `rest` was appended, each write took some of it, and no call failed
use Rattle.std.proofs.Common.{◌≡◌, ◌≤◌, ℕ, ◌+◌, List, ◌++◌, length}
use Rattle.std.specs.Io.KnownBytes.{Appends}
use Rattle.devices.proofs.whole.write_whole.Given as goal

abbrev pub invariant-loop-rest : goal.invariant-loop-rest
invariant-loop-rest g l = record {
  done : (done : List ℕ) × (l.fn.bytes ≡ done ++ l.rest)
      × Appends (g.W.Write.contents l.initial.writer.inner) (g.W.Write.contents l.writer.inner) done;
  no_failure : l.writer.failures ≡ l.initial.writer.failures;
  writes : l.writer.writes + length l.rest ≤ l.initial.writer.writes + length l.fn.bytes;
  flushes : l.writer.flushes ≡ l.initial.writer.flushes;
}

abbrev pub decreases-loop-rest : goal.decreases-loop-rest
decreases-loop-rest g l = length l.rest
