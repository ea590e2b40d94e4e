use Rattle.std.proofs.Common.{arith}
use Rattle.box_file.proofs.ListLaws.{some-found}
use Rattle.box_file.proofs.PlantLaws.{some-map}
use Rattle.box_file.proofs.network.Plant.is_own.Goals as goal

pub returns : goal.returns
returns c =
    grind (arith, c.is_some.ensures, some-map, c.deref.ensures.value, c.find_by_address.ensures, some-found, c.self.inside.interfaces.items, c.self.view_is)
