use Rattle.stepping.proofs.nat.run_nat_chains.Goals as goal

pub returns-in-New-clause-ran : goal.returns-in-New-clause-ran
returns-in-New-clause-ran c = rw c.in-New.is c.run.ensures.end
