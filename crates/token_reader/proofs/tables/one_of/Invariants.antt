use Rattle.std.proofs.Common.{◌≡◌, map, drop}
use Rattle.token_reader.specs.Readers.{remaining}
use Rattle.token_reader.specs.steps.Reading.{row_of}
use Rattle.token_reader.specs.Grammar.{one_of}
use Rattle.token_reader.proofs.tables.one_of.Given as goal

-- The rows before this one have other words.
abbrev pub invariant-loop-row : goal.invariant-loop-row
invariant-loop-row g l = (one_of (map row_of (drop l.row-index l.rows))).read (remaining l.tokens l.at)
    ≡ (one_of (map row_of l.rows)).read (remaining l.tokens l.at)
