use Rattle.box_file.proofs.Names.{index_of, interface_tree, length, map, ◌≡◌}
use Rattle.box_file.proofs.network.index_of.Given as goal

abbrev pub invariant-loop-rest : goal.invariant-loop-rest
invariant-loop-rest l = index_of (map interface_tree l.rest) l.name ≡ index_of (map interface_tree l.lines) l.name

abbrev pub decreases-loop-rest : goal.decreases-loop-rest
decreases-loop-rest l = length l.rest
