use Rattle.stepping.proofs.OnePath.{at_least_one, at_most_one, next}
use Rattle.stepping.proofs.laws.one_entry.Goals as goal

pub returns-clause-some : goal.returns-clause-some
returns-clause-some c = λ setup history r fine.
    next _ at_least_one setup (c.hooks_terminate.ensures.chains setup.rules setup.network fine) history r

pub returns-clause-one : goal.returns-clause-one
returns-clause-one c = λ setup history r e other.
    next _ at_most_one setup (c.hook_result_unique.ensures.chains setup.network setup.rules) history r e other
