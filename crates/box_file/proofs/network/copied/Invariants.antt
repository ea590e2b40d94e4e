use Rattle.box_file.proofs.Names.{interface_of, interface_tree, map, take, ◌≡◌}
use Rattle.box_file.proofs.network.copied.Given as goal

abbrev pub invariant-loop-line : goal.invariant-loop-line
invariant-loop-line l = map interface_of l.found.items ≡ map interface_tree (take l.line-index l.lines)
