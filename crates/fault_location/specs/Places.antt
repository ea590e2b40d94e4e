-- Places at which the grammar doesn't allow a ruleset (own).
use Rattle.std.specs.Prelude.{◌≡◌, ◌⊎◌, List, take, ⊤}
use Rattle.nft_lexer.specs.TokenViews.{terminals}
use Rattle.nft_lexer.specs.declared.token.Token.{Token}
use Rattle.nft_parser.specs.declared.fault.TextFault.{TextFault}
use Rattle.nft_parser.specs.declared.fault.TextFault.TheVariants.{Unsupported}
use Rattle.nft_parser.specs.Beginnings.{BeginsRuleset, IsUnsupportedAt}
use Rattle.fault_location.specs.declared.text_place.SyntaxPlace.{SyntaxPlace}
use Rattle.fault_location.specs.declared.text_place.SyntaxPlace.TheVariants.{Brace, Part}

-- A place in a part comes no later than the first token that no ruleset goes on with: some ruleset begins with
-- the tokens before it; or, of E06, an unsupported word stands there. Nothing is said of a brace that is left open.
abbrev pub IsPlace : TextFault → List Token → SyntaxPlace → Type 0
IsPlace fault tokens (Brace _) = ⊤
IsPlace fault tokens (Part at _) =
    (fault ≡ Unsupported) × IsUnsupportedAt tokens at
    ⊎ BeginsRuleset (terminals (take at tokens))
