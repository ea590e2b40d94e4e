use Rattle.stepping.proofs.Names.{find, is_at, length, ◌≡◌}
use Rattle.stepping.proofs.interfaces.find_interface.Given as goal

abbrev pub invariant-loop-rest : goal.invariant-loop-rest
invariant-loop-rest l = find (is_at l.index) l.rest ≡ find (is_at l.index) l.interfaces

abbrev pub decreases-loop-rest : goal.decreases-loop-rest
decreases-loop-rest l = length l.rest
