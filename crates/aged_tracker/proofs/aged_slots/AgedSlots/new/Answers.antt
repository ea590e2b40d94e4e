use Rattle.aged_tracker.proofs.Names.{IsRings, [], arith, none-some, rules}
use Rattle.aged_tracker.proofs.aged_slots.AgedSlots.new.Goals as goal

pub returns-clause-table : goal.returns-clause-table
returns-clause-table c =
    let rings : IsRings c.new.result c.empty_heads.result (λ list. []) = c.empty_heads.ensures c.new.result c.new.ensures.empty in
    record {
      rings = (λ list. [], rings);
      owners = search rules;
      rising = λ q range i j d le less. absurd (omega (arith, less));
      numbered = search rules;
      oldest = λ q range front is. absurd (none-some front is);
      few = search rules;
    }
