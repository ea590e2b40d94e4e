use Rattle.report.proofs.Imports.{decimal, ◌∙◌, ◌≡◌}
use Rattle.report.proofs.Putting.{puts_on}
use Rattle.report.proofs.page.Page.put_piece.Goals as goal

pub returns-in-Word : goal.returns-in-Word
returns-in-Word g c = rw c.in-Word.is (puts_on c.put-in-Word.ensures.puts c.put-in-Word-2.ensures.puts)

pub returns-in-Number : goal.returns-in-Number
returns-in-Number g c =
    let e : c.as_bytes.result.now ≡ decimal c.in-Number.number = c.as_bytes.ensures.value ∙ c.format.ensures.text in
    rw (c.in-Number.is, ← e) (puts_on c.put-in-Number.ensures.puts c.put-in-Number-2.ensures.puts)
