use Rattle.aged_tracker.proofs.Names.{sym, ◌∙◌}
use Rattle.aged_tracker.proofs.aged_tracker.AgedTrackerTracker.reserve_one.Goals as goal

pub invariant_of-self : goal.invariant_of-self
invariant_of-self c = record {
  table = c.reserve_one.ensures.table;
  indexed = rw c.reserve_one.ensures.held c.self.invariant.indexed;
  lasting = λ moment within key h is. c.self.invariant.lasting moment within key h (sym (c.reserve_one.ensures.slots key) ∙ is);
  soon = c.self.invariant.soon;
}

pub invariant_of-self-2 : goal.invariant_of-self-2
invariant_of-self-2 c =
    let was = c.self.invariant.indexed in
    record {
      table = c.reserve_one.ensures.table;
      indexed = rw c.reserve_one.ensures.held (record {
        keyed = λ q. c.reserve_two.ensures.slots q ∙ was.keyed q;
        distinct = was.distinct;
        apart = was.apart;
        count = was.count;
      });
      lasting = λ moment within key h is. c.self.invariant.lasting moment within key h (sym (c.reserve_one.ensures.slots key) ∙ is);
      soon = c.self.invariant.soon;
    }
