use Rattle.report.proofs.Imports.{append_assoc}
use Rattle.report.proofs.Putting.{puts_as}
use Rattle.report.proofs.counter_lines.put_counter.Goals as goal

pub returns : goal.returns
returns g c = puts_as c.put_all.ensures (rw (c.family_word-family.ensures, c.deref.ensures.value, c.deref-2.ensures.value)
    (rw (c.unwrap_or-tally.ensures, c.at.ensures) (simp append_assoc)))
