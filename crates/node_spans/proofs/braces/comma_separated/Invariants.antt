use Rattle.std.proofs.Common.{◌≡◌, ◌++◌, ◌-◌, ◌≤◌, ℕ, List, length}
use Rattle.nft_lexer.specs.Terminal.{Terminal}
use Rattle.nft_lexer.specs.declared.token.Punctuator.TheVariants.{Comma}
use Rattle.token_reader.specs.Readers.{remaining}
use Rattle.token_reader.specs.Repeats.{without_newlines}
use Rattle.token_reader.specs.steps.Reading.{after_punctuator}
use Rattle.node_spans.specs.declared.token_range.TokenRange.{TokenRange}
use Rattle.node_spans.specs.steps.Reading.{AreRead}
use Rattle.node_spans.proofs.braces.comma_separated.Given as goal

-- What is read from here on, behind the ranges found, is what is read from the start.
abbrev pub invariant-loop-found : goal.invariant-loop-found
invariant-loop-found g l =
    let rest : ℕ → List Terminal = λ place. without_newlines (remaining l.tokens place) in
    record {
      same : rest l.place ≡ remaining l.inner l.here;
      within : l.place ≤ length l.tokens;
      inside : l.here ≤ length l.inner;
      behind : (others : List TokenRange)
          → AreRead g.P.Production.read_at (after_punctuator Comma) rest (length l.tokens) l.place others
          → AreRead g.P.Production.read_at (after_punctuator Comma) rest (length l.tokens) l.at
          (l.found.items ++ others);
    }

abbrev pub decreases-loop-found : goal.decreases-loop-found
decreases-loop-found g l = length l.inner - l.here
