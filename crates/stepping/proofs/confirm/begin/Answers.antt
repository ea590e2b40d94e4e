use Rattle.stepping.proofs.Names.{arith, refl}
use Rattle.std.proofs.lemmas.Bool.Decides.{nat_tests}
use Rattle.stepping.proofs.Processing.{confirms_refused}
use Rattle.stepping.proofs.confirm.begin.Goals as goal

pub returns-in-Err-Full-clause-confirms : goal.returns-in-Err-Full-clause-confirms
returns-in-Err-Full-clause-confirms g c = λ b.
    let many = (rw c.in-Err-Full.field-0-is at c.in-Err-Full.ensures.full).0 refl in
    rw c.in-Err-Full.ensures.err (confirms_refused (grind (arith, nat_tests, many)))

pub returns-in-Err-Clash-clause-confirms : goal.returns-in-Err-Clash-clause-confirms
returns-in-Err-Clash-clause-confirms g c = λ b.
    let taken = (rw c.in-Err-Clash.field-0-is at c.in-Err-Clash.ensures.clash).0 refl in
    rw c.in-Err-Clash.ensures.err (confirms_refused (grind (arith, nat_tests, taken)))
