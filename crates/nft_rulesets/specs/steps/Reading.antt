-- A production of which only the parser is known, for code that is generic in it.
use Rattle.std.specs.Prelude.{List, [], Option, false}
use Rattle.nft_lexer.specs.Terminal.{Terminal}
use Rattle.token_reader.specs.Grammar.{Grammar}

abbrev pub read_by : {A : Type 0} → (List Terminal → Option (A × List Terminal)) → Grammar A
read_by read = record { spells = λ x from to. ⊥; read = read; first = []; follow = []; empty = false }
