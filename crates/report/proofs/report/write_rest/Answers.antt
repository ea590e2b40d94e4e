use Rattle.report.proofs.Putting.{puts_on, sent_all}
use Rattle.report.proofs.report.write_rest.Goals as goal

pub returns : goal.returns
returns g c =
    let done = sent_all c.new-page.ensures.failed c.new-page.ensures.text
    (puts_on (puts_on c.put_notes.ensures c.put_counters.ensures) c.put_totals.ensures) c.finish.ensures in
    record { wrote_text = done.0; counts = done.1; flushes = done.2 }
