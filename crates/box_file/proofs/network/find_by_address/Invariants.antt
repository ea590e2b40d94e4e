use Rattle.box_file.proofs.Names.{find, has_address, interface_of, length, map, ◌≡◌}
use Rattle.box_file.proofs.network.find_by_address.Given as goal

abbrev pub invariant-loop-rest : goal.invariant-loop-rest
invariant-loop-rest l = find (has_address l.address) (map interface_of l.rest)
    ≡ find (has_address l.address) (map interface_of l.interfaces)

abbrev pub decreases-loop-rest : goal.decreases-loop-rest
decreases-loop-rest l = length l.rest
