use Rattle.lowering.proofs.Names.{arith}
use Rattle.std.proofs.lemmas.Bool.Decides.{nat_tests}
use Rattle.lowering.proofs.matches.equals.Goals as goal

pub returns-in-Some : goal.returns-in-Some
returns-in-Some c = λ lookups f. grind (arith, nat_tests, c.in-Some.ensures.0, c.in-Some.ensures.1)
