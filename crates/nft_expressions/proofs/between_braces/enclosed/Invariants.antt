use Rattle.std.proofs.Common.{◌≡◌, ◌+◌, ◌≤◌, length}
use Rattle.nft_lexer.specs.TokenViews.{terminals}
use Rattle.token_reader.specs.Readers.{remaining}
use Rattle.nft_expressions.specs.steps.Braces.{behind_kept}
use Rattle.nft_expressions.specs.steps.Reading.{enclosed_at}
use Rattle.nft_expressions.proofs.between_braces.enclosed.Given as goal

-- The tokens kept so far come before those still enclosed.
abbrev pub invariant-loop-token : goal.invariant-loop-token
invariant-loop-token l = record {
  read : behind_kept (terminals l.kept.items) (remaining l.tokens l.here)
      ≡ enclosed_at (remaining l.tokens l.at);
  within : l.at + length l.kept.items ≤ l.here;
}

abbrev pub decreases-loop-token : goal.decreases-loop-token
decreases-loop-token l = length (remaining l.tokens l.here)
