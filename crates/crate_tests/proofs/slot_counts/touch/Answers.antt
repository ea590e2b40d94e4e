use Rattle.std.proofs.Common.{None}
use Rattle.conntrack.specs.Updates.{Confirmed}
use Rattle.conntrack.specs.declared.belonging.Belonging.TheVariants.{Found}
use Rattle.crate_tests.proofs.slot_counts.touch.Goals as goal

pub returns : goal.returns
returns c =
    rw c.touch.ensures.held
    (c.none_later.ensures.packet c.look.new.tracker.held (Found c.in-Some-Found-default.found) (record { 0 = 0 })
    (record { tuple = c.query.result; flags = c.none.result; moment = 0 })
    (Confirmed 0 c.query.result None None) c.look.ensures.later)
