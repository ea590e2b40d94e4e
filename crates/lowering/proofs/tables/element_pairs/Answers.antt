use Rattle.lowering.proofs.Names.{arith, drop_all}
use Rattle.std.proofs.Math.Bool.{or-false}
use Rattle.list_laws.specs.Elements.{or-assoc}
use Rattle.lowering.proofs.Entries.{some-or}
use Rattle.lowering.proofs.Remaining.{next}
use Rattle.lowering.proofs.tables.element_pairs.Goals as goal

pub loop-element-preserved : goal.loop-element-preserved
loop-element-preserved c n = rw (c.in_ok-push_entry.ensures n, some-or, c.element_entry.ensures n, ← or-assoc)
    (rw (next c.args.elements.now c.loop-element.element-index c.element-item.result c.loop-element-test.true c.element-item.is)
    at (c.loop-element.invariant n))

pub returns : goal.returns
returns c n = rw (drop_all c.loop-element.element-index c.args.elements.now (omega arith), or-false) at (c.loop-element.invariant n)
