use Rattle.box_file.proofs.Names.{has_address, interface_of, map}
use Rattle.box_file.proofs.PlantLaws.{number_found}
use Rattle.box_file.proofs.network.Plant.owner.Goals as goal

pub returns-clause-index : goal.returns-clause-index
returns-clause-index c = number_found (has_address c.args.address) (map interface_of c.self.inside.interfaces.items) _
    c.self.invariant.indexes (rw c.deref.ensures.value at c.in_ok-interface.ensures)
