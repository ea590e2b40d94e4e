-- The parser's error for an error of the lexer, and for tokens that spell no ruleset.
use Rattle.std.specs.Prelude.{Bool, true, false}
use Rattle.nft_lexer.specs.declared.fault.LexError.{LexError}
use Rattle.nft_lexer.specs.declared.fault.LexError.TheVariants as lexical
use Rattle.nft_parser.specs.declared.fault.TextFault.{TextFault}
use Rattle.nft_parser.specs.declared.fault.TextFault.TheVariants.{Lexical, Syntax, Unsupported}
use Rattle.nft_parser.specs.declared.fault.ParseError.{ParseError}
use Rattle.nft_parser.specs.declared.fault.ParseError.TheVariants.{Refused, Memory}

abbrev pub of_lex_error : LexError → ParseError
of_lex_error (lexical.Refused fault) = Refused (Lexical fault)
of_lex_error lexical.Memory = Memory

-- The fault of tokens that spell no ruleset, by whether one of them is an unsupported word.
abbrev pub refusal : Bool → TextFault
refusal true = Unsupported
refusal false = Syntax
