-- The beginnings of rulesets, and unsupported words in them (own).
use Rattle.std.specs.Prelude.{◌≡◌, ℕ, List, ◌++◌, drop, take, true}
use Rattle.nft_lexer.specs.Terminal.{Terminal}
use Rattle.nft_lexer.specs.TokenViews.{terminals}
use Rattle.nft_lexer.specs.declared.token.Token.{Token}
use Rattle.nft_tree.specs.Tree.{TableTree}
use Rattle.nft_rulesets.specs.Rulesets.{SpellsRuleset}
use Rattle.nft_rulesets.specs.UnsupportedWords.{has_unsupported}

-- Some ruleset begins with these tokens: with more behind them they spell one.
abbrev pub BeginsRuleset : List Terminal → Type 0
BeginsRuleset start = (more : List Terminal) × (tables : List TableTree) × SpellsRuleset tables (start ++ more)

-- The token at this position is an unsupported word of nft(8).
abbrev pub IsUnsupportedAt : List Token → ℕ → Type 0
IsUnsupportedAt tokens at = has_unsupported (terminals (take 1 (drop at tokens))) ≡ true
