use Rattle.nat_mapping.proofs.Lists.{one_to_one_alike}
use Rattle.nat_mapping.proofs.Represented.{one_to_one}
use Rattle.nat_mapping.proofs.mappings.Mappings.one_to_one.Goals as goal

pub returns : goal.returns
returns c held same = one_to_one_alike held _ (rw (← c.self.view_is) at same) (one_to_one _ _ _ c.self.invariant)
