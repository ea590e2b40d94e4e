use Rattle.std.proofs.Common.{None}
use Rattle.conntrack.specs.TableEntries.{IsNoneLater}
use Rattle.conntrack.specs.Updates.{Confirmed}
use Rattle.conntrack.specs.declared.belonging.Belonging.TheVariants.{NotFound}
use Rattle.crate_tests.proofs.slot_counts.begin.Goals as goal

pub returns-in-Ok : goal.returns-in-Ok
returns-in-Ok c =
    let before : IsNoneLater 0 c.reserve_one.new.self.held = rw c.reserve_one.ensures.held c.look.ensures.later in
    rw c.in-Ok.ensures.ok
    (c.none_later.ensures.packet c.reserve_one.new.self.held NotFound c.in-Ok.field-0
    (record { tuple = c.query-original.result; flags = c.none.result; moment = 0 })
    (Confirmed 0 c.inverse.result None None) before)
