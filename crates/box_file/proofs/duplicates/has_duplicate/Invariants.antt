use Rattle.box_file.proofs.Names.{any_pair, contains, drop, map, ◌≡◌}
use Rattle.box_file.proofs.RepeatLaws.{repeats}
use Rattle.box_file.proofs.duplicates.has_duplicate.Given as goal

abbrev pub invariant-loop-line : goal.invariant-loop-line
invariant-loop-line g l = repeats g.K.PartialEq.eq (contains g.K.PartialEq.eq l.seen) (map g.L.HasKey.key_of (drop l.line-index l.lines))
    ≡ any_pair g.K.PartialEq.eq (map g.L.HasKey.key_of l.lines)
