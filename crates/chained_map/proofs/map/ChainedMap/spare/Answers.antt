use Rattle.std.proofs.Common.{subst}
use Rattle.std.specs.HashMap.{IsUnique}
use Rattle.chained_map.proofs.map.ChainedMap.spare.Goals as goal

pub returns-clause-unique : goal.returns-clause-unique
returns-clause-unique g c = subst (IsUnique g.K.PartialEq.eq) c.self.view_is c.self.invariant.hashed.0
