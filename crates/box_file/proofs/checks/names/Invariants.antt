use Rattle.box_file.proofs.Names.{Bor, List, contains, drop, interface_tree, is_named, list_any, map, nat_eq, pointwise, ℕ, ◌||◌, ◌≡◌}
use Rattle.box_file.proofs.checks.names.Given as goal

-- a name is known or still to come where an interface has it
abbrev pub invariant-loop-interface : goal.invariant-loop-interface
invariant-loop-interface l = (n : Bor (List ℕ)) →
    (contains (λ x y. pointwise nat_eq x.now y.now) l.known n
    || list_any (is_named n.now) (map interface_tree (drop l.interface-index l.interfaces)))
    ≡ list_any (is_named n.now) (map interface_tree l.interfaces)
