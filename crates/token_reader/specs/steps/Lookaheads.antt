-- Lookahead: the first token.
use Rattle.std.specs.Prelude.{ℕ, List, ◌∷◌, Bool, true, false, ◌==◌}
use Rattle.std.specs.List.{list_any}
use Rattle.std.specs.Str.{bytes_eq}
use denote.Enum.Declared.{tag_of}
use Rattle.nft_lexer.specs.declared.token.Punctuator.{Punctuator}
use Rattle.nft_lexer.specs.contracts.token.Punctuator.{the_type}
use Rattle.nft_lexer.specs.Terminal as terminals
use Rattle.nft_lexer.specs.Terminal.{Terminal}

-- Punctuators as numbers, to compare them.
abbrev pub punctuator_tag : Punctuator → ℕ
punctuator_tag = tag_of the_type

-- A set of first tokens.
pub data Lookahead : Type 0 where
  line : Lookahead
  this_punctuator : Punctuator → Lookahead
  this_word : List ℕ → Lookahead
  any_word : Lookahead
  any_number : Lookahead
  any_address : Lookahead
  any_string : Lookahead

abbrev pub matches_lookahead : List Terminal → Lookahead → Bool
matches_lookahead (terminals.newline ∷ ts) line = true
matches_lookahead (terminals.punctuator n ∷ ts) (this_punctuator m) = punctuator_tag n == punctuator_tag m
matches_lookahead (terminals.word v ∷ ts) (this_word w) = bytes_eq v w
matches_lookahead (terminals.word v ∷ ts) any_word = true
matches_lookahead (terminals.number n ∷ ts) any_number = true
matches_lookahead (terminals.address a ∷ ts) any_address = true
matches_lookahead (terminals.string s ∷ ts) any_string = true
matches_lookahead ts f = false

-- The first token is in one of these sets.
abbrev pub begins_with : List Lookahead → List Terminal → Bool
begins_with fs ts = list_any (matches_lookahead ts) fs
