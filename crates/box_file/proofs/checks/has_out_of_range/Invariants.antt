use Rattle.box_file.proofs.Names.{drop, idle_tree, is_out_of_range, list_any, map, ◌≡◌}
use Rattle.box_file.proofs.checks.has_out_of_range.Given as goal

abbrev pub invariant-loop-idle : goal.invariant-loop-idle
invariant-loop-idle l = list_any is_out_of_range (map idle_tree (drop l.idle-index l.idles)) ≡ list_any is_out_of_range (map idle_tree l.idles)
