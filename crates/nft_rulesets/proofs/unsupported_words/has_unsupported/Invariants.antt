use Rattle.std.proofs.Common.{◌≡◌, drop}
use Rattle.nft_lexer.specs.TokenViews.{terminals}
use Rattle.nft_rulesets.specs.UnsupportedWords.{has_unsupported}
use Rattle.nft_rulesets.proofs.unsupported_words.has_unsupported.Given as goal

-- No token before this one is an unsupported word.
abbrev pub invariant-loop-token : goal.invariant-loop-token
invariant-loop-token l = has_unsupported (terminals (drop l.token-index l.tokens))
    ≡ has_unsupported (terminals l.tokens)
