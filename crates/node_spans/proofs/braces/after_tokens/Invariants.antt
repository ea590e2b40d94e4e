use Rattle.std.proofs.Common.{◌≡◌, ◌+◌, ◌≤◌, drop, length}
use Rattle.token_reader.specs.Readers.{remaining}
use Rattle.token_reader.specs.Repeats.{without_newlines}
use Rattle.node_spans.proofs.braces.after_tokens.Given as goal

abbrev pub invariant-loop-step : goal.invariant-loop-step
invariant-loop-step l = record {
  read : without_newlines (remaining l.tokens l.here) ≡ drop l._step (without_newlines (remaining l.tokens l.at));
  after : l.at + l._step ≤ l.here;
  within : l.here ≤ length l.tokens;
}
