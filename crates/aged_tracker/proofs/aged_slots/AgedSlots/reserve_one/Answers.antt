use Rattle.aged_tracker.proofs.Names.{IsTable, Slab, Slot, subst, sym}
use Rattle.aged_tracker.proofs.aged_slots.AgedSlots.reserve_one.Goals as goal

pub returns-clause-table : goal.returns-clause-table
returns-clause-table c =
    let table = c.requires.table in
    subst (λ (s : Slab Slot). IsTable (record c.args.self.now { slots = s })) (sym c.reserve_one.ensures.rest_kept)
    (record {
      rings = table.rings;
      owners = table.owners;
      rising = table.rising;
      numbered = record { apart = table.numbered.apart; below = table.numbered.below };
      oldest = table.oldest;
      few = table.few;
    })
