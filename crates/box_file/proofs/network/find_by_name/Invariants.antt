use Rattle.box_file.proofs.Names.{find, interface_of, is_named, length, map, ◌≡◌}
use Rattle.box_file.proofs.network.find_by_name.Given as goal

abbrev pub invariant-loop-rest : goal.invariant-loop-rest
invariant-loop-rest l = find (is_named l.name) (map interface_of l.rest) ≡ find (is_named l.name) (map interface_of l.interfaces)

abbrev pub decreases-loop-rest : goal.decreases-loop-rest
decreases-loop-rest l = length l.rest
