use Rattle.std.proofs.Common.{◌≡◌, false}
use Rattle.token_reader.specs.Readers.{remaining}
use Rattle.node_spans.specs.steps.Reading.{first_brace}
use Rattle.node_spans.proofs.anonymous.first_brace.Given as goal

-- No token so far is an opening brace.
abbrev pub invariant-loop-place : goal.invariant-loop-place
invariant-loop-place l = first_brace l.after_map (remaining l.tokens l.place)
    ≡ first_brace false (remaining l.tokens l.at)
