-- The ruleset of a text, and the fault of a text that has none (nft(8); the codes are (own)).
use Rattle.std.specs.Prelude.{◌≡◌, ℕ, List, Bool, true, false}
use Rattle.nft_lexer.specs.Terminal.{LexedToken, terminals_of}
use Rattle.nft_lexer.specs.Lexing.{TokenizesTo, HasLexFault}
use Rattle.nft_tree.specs.Tree.{TableTree}
use Rattle.nft_parser.specs.declared.fault.TextFault.{TextFault}
use Rattle.nft_parser.specs.declared.fault.TextFault.TheVariants.{Lexical, Syntax, Unsupported}
use Rattle.nft_rulesets.specs.Rulesets.{SpellsRuleset}
use Rattle.nft_rulesets.specs.UnsupportedWords.{has_unsupported}

-- The text has a tokenization, and its tokens spell the ruleset.
abbrev pub Spells : List TableTree → List ℕ → Type 0
Spells tree text = (tokens : List LexedToken) × TokenizesTo text tokens
    × SpellsRuleset tree (terminals_of tokens)

-- The text has a tokenization that spells no ruleset; whether one of its tokens is an unsupported word.
abbrev pub SpellsNone : Bool → List ℕ → Type 0
SpellsNone has_unsupported_word text =
    (tokens : List LexedToken) × TokenizesTo text tokens
    × ((tree : List TableTree) → SpellsRuleset tree (terminals_of tokens) → ⊥)
    × (has_unsupported (terminals_of tokens) ≡ has_unsupported_word)

-- The fault of a text: its lexical fault, or else that its tokens spell no ruleset.
abbrev pub HasTextFault : List ℕ → TextFault → Type 0
HasTextFault text (Lexical fault) = HasLexFault text fault
HasTextFault text Syntax = SpellsNone false text
HasTextFault text Unsupported = SpellsNone true text
