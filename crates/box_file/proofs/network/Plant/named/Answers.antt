use Rattle.box_file.proofs.Names.{interface_of, is_named, map}
use Rattle.box_file.proofs.PlantLaws.{number_found}
use Rattle.box_file.proofs.network.Plant.named.Goals as goal

pub returns-clause-index : goal.returns-clause-index
returns-clause-index c = number_found (is_named c.args.name.now) (map interface_of c.self.inside.interfaces.items) _
    c.self.invariant.indexes (rw c.deref.ensures.value at c.in_ok-interface.ensures)
