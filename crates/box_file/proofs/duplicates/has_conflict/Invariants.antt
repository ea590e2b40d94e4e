use Rattle.box_file.proofs.Names.{any_pair, drop, get, map, two_values, ◌≡◌}
use Rattle.box_file.proofs.RepeatLaws.{differs, repeats}
use Rattle.box_file.proofs.duplicates.has_conflict.Given as goal

abbrev pub invariant-loop-line : goal.invariant-loop-line
invariant-loop-line g l =
    let test = two_values g.K.PartialEq.eq g.V.PartialEq.eq in
    let entry_of = g.L.HasEntry.entry_of in
    repeats test (λ x. differs g.V.PartialEq.eq (get g.K.PartialEq.eq l.values x.0) x.1) (map entry_of (drop l.line-index l.lines))
    ≡ any_pair test (map entry_of l.lines)
