use Rattle.std.proofs.Common.{◌≡◌, length}
use Rattle.nft_lexer.specs.steps.Reading.{value_after}
use Rattle.nft_lexer.proofs.number.value.Given as goal

abbrev pub invariant-loop-rest : goal.invariant-loop-rest
invariant-loop-rest l = value_after l.radix l.number l.rest ≡ value_after l.radix 0 l.digits

abbrev pub decreases-loop-rest : goal.decreases-loop-rest
decreases-loop-rest l = length l.rest
