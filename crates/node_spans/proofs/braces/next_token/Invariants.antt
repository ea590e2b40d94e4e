use Rattle.std.proofs.Common.{◌≡◌}
use Rattle.token_reader.specs.Readers.{remaining}
use Rattle.token_reader.specs.Repeats.{without_newlines}
use Rattle.node_spans.proofs.braces.next_token.Given as goal

-- All tokens so far are newlines.
abbrev pub invariant-loop-place : goal.invariant-loop-place
invariant-loop-place l = without_newlines (remaining l.tokens l.place)
    ≡ without_newlines (remaining l.tokens l.at)
