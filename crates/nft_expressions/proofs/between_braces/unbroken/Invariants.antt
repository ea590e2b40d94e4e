use Rattle.std.proofs.Common.{◌≡◌, ◌-◌, ◌≤◌, take, drop, length}
use Rattle.token_reader.specs.Readers.{remaining}
use Rattle.nft_expressions.specs.steps.Braces.{behind_kept}
use Rattle.nft_expressions.specs.steps.Reading.{enclosed_at}
use Rattle.nft_expressions.proofs.between_braces.unbroken.Given as goal

-- All tokens so far come before those still enclosed.
abbrev pub invariant-loop-after : goal.invariant-loop-after
invariant-loop-after l = record {
  read : enclosed_at (remaining l.tokens l.at)
      ≡ behind_kept (take (l.here - l.at) (remaining l.tokens l.at)) (remaining l.tokens l.here);
  rest : drop (l.here - l.at) (remaining l.tokens l.at) ≡ remaining l.tokens l.here;
  within : l.at ≤ l.here;
}

abbrev pub decreases-loop-after : goal.decreases-loop-after
decreases-loop-after l = length (remaining l.tokens l.here)
