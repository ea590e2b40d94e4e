use Rattle.box_file.proofs.Names.{interface_of, map, take, ◌≡◌}
use Rattle.box_file.proofs.network.indexes_of.Given as goal

abbrev pub invariant-loop-interface : goal.invariant-loop-interface
invariant-loop-interface l =
    l.found.items ≡ map (λ i. i.index) (map interface_of (take l.interface-index l.interfaces))
