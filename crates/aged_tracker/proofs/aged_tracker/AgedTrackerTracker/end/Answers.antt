use Rattle.aged_tracker.proofs.Names.{None, ap, arith, cond, same_tuple, ◌∙◌}
use Rattle.aged_tracker.proofs.Index.{found_at, has_as, indexed_ended}
use Rattle.aged_tracker.proofs.Order.{lasting}
use Rattle.aged_tracker.proofs.aged_tracker.AgedTrackerTracker.end.Goals as goal

pub remove-held-requires-clause-is_held : goal.remove-held-requires-clause-is_held
remove-held-requires-clause-is_held c = grind (arith, has_as, c.self.invariant.table, c.self.view_is, c.requires)

pub invariant_of-self : goal.invariant_of-self
invariant_of-self c = record {
  table = c.remove-held.ensures.table;
  indexed = rw c.remove-held.ensures.held (indexed_ended _ _ _ c.self.invariant.indexed _ c.args.id c.remove-held.result
      (found_at c.self.inside.slots c.self.invariant.table c.args.id ∙ c.remove-held.ensures.value)
      (λ q. c.remove-2.ensures.slots q ∙ ap (cond (same_tuple c.remove-held.result.reply q) None) (c.remove.ensures.slots q)));
  lasting = lasting c.self.inside.limits c.remove-held.ensures.slots c.self.invariant.lasting (omega arith) tt;
  soon = c.self.invariant.soon;
}

pub returns-clause-aged : goal.returns-clause-aged
returns-clause-aged c = grind (arith, c.self.view_is, found_at, c.self.invariant.table, c.remove-held.ensures.value, c.aged.ensures)
