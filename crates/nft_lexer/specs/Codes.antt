-- The codes of lexical faults, as printed (own).
use Rattle.std.specs.Prelude.{ℕ, List, codes}
use Rattle.nft_lexer.specs.declared.fault.LexFault.{LexFault}
use Rattle.nft_lexer.specs.declared.fault.LexFault.TheVariants.{Byte, OpenString, Number, TooLong}
use Rattle.nft_lexer.specs.declared.fault.LexError.{LexError}
use Rattle.nft_lexer.specs.declared.fault.LexError.TheVariants.{Refused, Memory}

abbrev pub code_of : LexFault → List ℕ
code_of (Byte line) = codes "E01"
code_of (OpenString line) = codes "E02"
code_of (Number line) = codes "E03"
code_of TooLong = codes "E04"

-- of an error: its fault's code, or that memory was refused
abbrev pub word_of : LexError → List ℕ
word_of (Refused fault) = code_of fault
word_of Memory = codes "memory"
