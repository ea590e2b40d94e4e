use Rattle.rule_laws.proofs.TerminationLaws.{some_base, some_chains}
use Rattle.rule_laws.proofs.laws.hooks_terminate.Goals as goal

pub returns-clause-base : goal.returns-clause-base
returns-clause-base c = λ tables network. some_base c.costs_exist.ensures network tables

pub returns-clause-chains : goal.returns-clause-chains
returns-clause-chains c = λ tables network. some_chains c.costs_exist.ensures network tables

pub returns-clause-stages : goal.returns-clause-stages
returns-clause-stages c = λ tables network well stage. some_chains c.costs_exist.ensures network tables well _
