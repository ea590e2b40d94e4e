use Rattle.std.proofs.Common.{Vec, Global, ℕ, ◌≡◌, Some, None, cond, drop, map}
use Rattle.std.specs.List.{list_all}
use Rattle.token_reader.specs.Grammar.{passing}
use Rattle.token_reader.specs.Readers.{remaining}
use Rattle.nft_expressions.specs.Selectors.{is_word_for}
use Rattle.nft_rules.specs.Matches.{words}
use Rattle.nft_rules.proofs.bits.words.Given as goal

-- The words before this one are symbolic constants.
abbrev pub invariant-loop-word : goal.invariant-loop-word
invariant-loop-word l =
    let texts = map (λ (w : Vec ℕ Global). w.items) in
    (passing (list_all (is_word_for l.selector)) words).read (remaining l.tokens l.fn.at)
    ≡ cond (list_all (is_word_for l.selector) (texts (drop l.word-index l.word-items)))
    (Some (texts l.word-items, remaining l.tokens l.at)) None
