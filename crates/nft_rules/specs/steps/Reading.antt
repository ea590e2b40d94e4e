-- The rest of a match, after its first selector.
use Rattle.std.specs.Prelude.{List, [], ◌∷◌, Option}
use Rattle.nft_lexer.specs.declared.token.Punctuator.TheVariants.{Dot}
use Rattle.nft_lexer.specs.Terminal.{Terminal}
use Rattle.nft_tree.specs.declared.selector.Selector.{Selector}
use Rattle.nft_tree.specs.Tree.{MatchTree}
use Rattle.token_reader.specs.Grammar.{punctuation, ◌▹◌, ◌∣◌}
use Rattle.token_reader.specs.steps.Reading.{all_at, with_front}
use Rattle.nft_expressions.specs.Selectors.{selector}
use Rattle.nft_rules.specs.Matches.{direct, set_test, matching}

unfoldable pub match_after : Selector → List Terminal → Option (MatchTree × List Terminal)
match_after s ts = let keys = with_front (s ∷ []) (all_at (punctuation Dot ▹ selector).read ts) in
    (set_test keys.0 ∣ direct keys.0).read keys.1

-- what the reader of a match looks through
unfoldable pub matches : Unit {0}
unfolding matching match_after
matches = tt
