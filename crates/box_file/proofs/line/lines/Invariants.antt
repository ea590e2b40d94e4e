use Rattle.box_file.proofs.Names.{length, line_tree, lines_in, map, option_map, ◌++◌, ◌≡◌}
use Rattle.box_file.proofs.line.lines.Given as goal

abbrev pub invariant-loop-rest : goal.invariant-loop-rest
invariant-loop-rest l = option_map (λ ls. map line_tree l.found.items ++ ls) (lines_in l.rest) ≡ lines_in l.text

abbrev pub decreases-loop-rest : goal.decreases-loop-rest
decreases-loop-rest l = length l.rest
