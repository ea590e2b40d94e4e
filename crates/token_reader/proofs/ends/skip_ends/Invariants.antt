use Rattle.std.proofs.Common.{◌≡◌, ◌≤◌, length}
use Rattle.token_reader.specs.Readers.{remaining}
use Rattle.token_reader.specs.steps.Reading.{skip_ends}
use Rattle.token_reader.proofs.ends.skip_ends.Given as goal

abbrev pub invariant-loop-after : goal.invariant-loop-after
invariant-loop-after l = record {
  read : skip_ends (remaining l.tokens l.here) ≡ skip_ends (remaining l.tokens l.at);
  after : l.at ≤ l.here;
  within : l.at ≤ length l.tokens → l.here ≤ length l.tokens;
}

abbrev pub decreases-loop-after : goal.decreases-loop-after
decreases-loop-after l = length (remaining l.tokens l.here)
