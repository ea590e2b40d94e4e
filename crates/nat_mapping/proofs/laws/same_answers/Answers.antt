use Rattle.nat_mapping.proofs.Lists.{contains_alike}
use Rattle.nat_mapping.proofs.laws.same_answers.Goals as goal

pub returns-clause-members : goal.returns-clause-members
returns-clause-members c one other m same among = contains_alike one other same m among
