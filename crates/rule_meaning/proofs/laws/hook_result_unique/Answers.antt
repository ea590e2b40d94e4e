use Rattle.rule_meaning.proofs.HookResults.{one_text_order, one_base, one_in_turn, one_chains}
use Rattle.rule_meaning.proofs.laws.hook_result_unique.Goals as goal

pub returns-clause-order : goal.returns-clause-order
returns-clause-order c = one_text_order

pub returns-clause-base : goal.returns-clause-base
returns-clause-base c = one_base

pub returns-clause-in_turn : goal.returns-clause-in_turn
returns-clause-in_turn c = one_in_turn

pub returns-clause-chains : goal.returns-clause-chains
returns-clause-chains c = one_chains

pub returns-clause-stages : goal.returns-clause-stages
returns-clause-stages c = λ stage network tables. one_chains network tables _
