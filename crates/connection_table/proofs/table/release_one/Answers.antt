use Rattle.connection_table.proofs.Counts.{same_fewer}
use Rattle.connection_table.proofs.table.release_one.Goals as goal
use Rattle.list_laws.specs.Lists.{Contains-head}

pub release-requires : goal.release-requires
release-requires c =
    let rest = c.requires.held.0 in
    let m = c.in-Some.mapping in
    c.same_answers.ensures.members _ _ m (rw c.in-Some.is at c.requires.held.1) (Contains-head m rest)

pub returns-in-Some-clause-held : goal.returns-in-Some-clause-held
returns-in-Some-clause-held c = λ rest same.
    same_fewer c.in-Some.mapping rest _ _ (rw c.in-Some.is at same) c.release.ensures.held
