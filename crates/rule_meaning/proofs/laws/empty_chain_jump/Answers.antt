use Rattle.rule_meaning.proofs.SameRuns.{empty_jumps}
use Rattle.rule_meaning.proofs.laws.empty_chain_jump.Goals as goal

pub returns : goal.returns
returns c = empty_jumps
