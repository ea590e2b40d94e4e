use Rattle.box_file.proofs.Names.{codes, refl}
use Rattle.box_file.proofs.NumberLaws.{differ}
use Rattle.box_file.proofs.line.line_of.Goals as goal

pub returns-else-eq-4 : goal.returns-else-eq-4
returns-else-eq-4 c = rw (
  differ c.args.first.now (codes "interface") c.as_slice.ensures c.if-eq.ensures,
  differ c.args.first.now (codes "route") c.as_slice-else-eq.ensures c.if-eq-2.ensures,
  differ c.args.first.now (codes "default") c.as_slice-else-eq-2.ensures c.if-eq-3.ensures,
  differ c.args.first.now (codes "idle") c.as_slice-else-eq-3.ensures c.if-eq-4.ensures,
) refl
