use Rattle.std.proofs.Common.{◌++◌, ◌-◌, List, length}
use Rattle.token_reader.specs.Readers.{remaining}
use Rattle.node_spans.specs.declared.token_range.TokenRange.{TokenRange}
use Rattle.node_spans.specs.steps.Reading.{AreRead}
use Rattle.node_spans.proofs.reading.ranges.Given as goal

-- What is read from here on, behind the ranges found, is what is read from the start.
abbrev pub invariant-loop-found : goal.invariant-loop-found
invariant-loop-found g l = (others : List TokenRange)
    → AreRead g.P.Production.read_at g.G.Gap.gap_at (remaining l.tokens) (length l.tokens) l.here others
    → AreRead g.P.Production.read_at g.G.Gap.gap_at (remaining l.tokens) (length l.tokens) l.at (l.found.items ++ others)

abbrev pub decreases-loop-found : goal.decreases-loop-found
decreases-loop-found g l = length l.tokens - l.here
