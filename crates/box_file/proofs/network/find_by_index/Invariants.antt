use Rattle.box_file.proofs.Names.{find, has_index, interface_of, length, map, ◌≡◌}
use Rattle.box_file.proofs.network.find_by_index.Given as goal

abbrev pub invariant-loop-rest : goal.invariant-loop-rest
invariant-loop-rest l = find (has_index l.index) (map interface_of l.rest) ≡ find (has_index l.index) (map interface_of l.interfaces)

abbrev pub decreases-loop-rest : goal.decreases-loop-rest
decreases-loop-rest l = length l.rest
