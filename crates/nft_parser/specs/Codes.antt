-- The codes of a text's faults, as printed (own).
use Rattle.std.specs.Prelude.{ℕ, List, codes}
use Rattle.nft_lexer.specs.Codes as lexical
use Rattle.nft_parser.specs.declared.fault.TextFault.{TextFault}
use Rattle.nft_parser.specs.declared.fault.TextFault.TheVariants.{Lexical, Syntax, Unsupported}
use Rattle.nft_parser.specs.declared.fault.ParseError.{ParseError}
use Rattle.nft_parser.specs.declared.fault.ParseError.TheVariants.{Refused, Memory}

abbrev pub code_of : TextFault → List ℕ
code_of (Lexical fault) = lexical.code_of fault
code_of Syntax = codes "E05"
code_of Unsupported = codes "E06"

-- of an error: its fault's code, or that memory was refused
abbrev pub word_of : ParseError → List ℕ
word_of (Refused fault) = code_of fault
word_of Memory = codes "memory"
