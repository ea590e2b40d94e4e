use Rattle.box_file.proofs.Names.{drop, lacks, list_any, ◌≡◌}
use Rattle.box_file.proofs.checks.has_unknown_default.Given as goal

abbrev pub invariant-loop-name : goal.invariant-loop-name
invariant-loop-name l = list_any (lacks l.known) (drop l.name-index l.defaults) ≡ list_any (lacks l.known) l.defaults
