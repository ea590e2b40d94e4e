use Rattle.std.proofs.Common.{◌≡◌, drop}
use Rattle.token_reader.specs.Readers.{remaining}
use Rattle.node_spans.specs.steps.Reading.{first_elements}
use Rattle.node_spans.proofs.set_elements.first_elements.Given as goal

-- No field before this one begins as the elements do.
abbrev pub invariant-loop-field : goal.invariant-loop-field
invariant-loop-field l = first_elements (remaining l.tokens) (drop l.field-index l.fields)
    ≡ first_elements (remaining l.tokens) l.fields
