use Rattle.box_file.proofs.Names.{find, idle_tree, is_of_kind, length, map, ◌≡◌}
use Rattle.box_file.proofs.idle.find_by_kind.Given as goal

abbrev pub invariant-loop-rest : goal.invariant-loop-rest
invariant-loop-rest l = find (is_of_kind l.kind) (map idle_tree l.rest) ≡ find (is_of_kind l.kind) (map idle_tree l.lines)

abbrev pub decreases-loop-rest : goal.decreases-loop-rest
decreases-loop-rest l = length l.rest
