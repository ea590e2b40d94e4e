use Rattle.std.proofs.Common.{arith}
use Rattle.aged_tracker.proofs.Index.{has_as, indexed_touched}
use Rattle.aged_tracker.proofs.Names.{slots_of}
use Rattle.aged_tracker.proofs.Order.{lasting, touched_lasts}
use Rattle.aged_tracker.proofs.aged_tracker.AgedTracker.update.Goals as goal

pub touch-follower-requires-clause-is_held : goal.touch-follower-requires-clause-is_held
touch-follower-requires-clause-is_held c = grind (arith, has_as, c.self.invariant.table, c.self.view_is, c.requires.is_held)

pub invariant_of-self : goal.invariant_of-self
invariant_of-self c = record {
  table = c.touch-follower.ensures.table;
  indexed = rw c.touch-follower.ensures.held
      (indexed_touched _ _ _ c.self.invariant.indexed c.args.id c.args.direction c.args.flags c.args.mark c.args.now);
  lasting = lasting c.self.inside.limits c.touch-follower.ensures.slots c.self.invariant.lasting c.note_packet.ensures.sooner
      (touched_lasts c.args.direction c.args.flags c.args.mark c.args.now (slots_of c.self.inside.slots c.args.id.0) c.note_packet.ensures.second);
  soon = omega (arith, c.note_packet.ensures.sooner, c.self.invariant.soon);
}
