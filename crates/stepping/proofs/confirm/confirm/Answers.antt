use Rattle.stepping.proofs.Names.{refl}
use Rattle.stepping.proofs.Processing.{idle_confirms}
use Rattle.stepping.proofs.confirm.confirm.Goals as goal

pub returns-in-Tracked-clause-confirms : goal.returns-in-Tracked-clause-confirms
returns-in-Tracked-clause-confirms g c = rw (c.in-Tracked.is, c.touch.ensures.held, c.mark_in-mark.ensures)
    (record { id = record { 0 = 0 }; step = λ s. refl; held = refl; begun = refl })

pub returns-in_default-clause-confirms : goal.returns-in_default-clause-confirms
returns-in_default-clause-confirms g c = idle_confirms _ c.in_default.not-Tracked c.in_default.not-New
