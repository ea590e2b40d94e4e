use Rattle.report.proofs.Imports.{Appends-kept, [], append-nil, sym}
use Rattle.std.proofs.lemmas.Result.{err_from_is_err_and}
use Rattle.report.proofs.CounterTexts.{rest_written}
use Rattle.report.proofs.report.Report.lines.Goals as goal

pub returns-in_err-write_rest-clause-part : goal.returns-in_err-write_rest-clause-part
returns-in_err-write_rest-clause-part g c = λ trace history written reports.
    let p = err_from_is_err_and c.from_residual.result c.from_residual.ensures.1 in
    let text = rest_written c.args.live c.args.torn c.self.view_is c.deref.ensures.value reports in
    rw p.1 (_, text, c.in_err-write_rest.ensures.wrote_text)

pub returns-then-is_err-clause-part : goal.returns-then-is_err-clause-part
returns-then-is_err-clause-part g c = λ trace history written reports.
    let text = rest_written c.args.live c.args.torn c.self.view_is c.deref.ensures.value reports in
    (_, text, (_, [], sym (append-nil _), Appends-kept _ _ _ _ c.in_ok-write_rest.ensures.wrote_text c.flush.ensures.bytes))

pub returns-clause-ok : goal.returns-clause-ok
returns-clause-ok g c = λ trace history written reports.
    let text = rest_written c.args.live c.args.torn c.self.view_is c.deref.ensures.value reports in
    (_, text, Appends-kept _ _ _ _ c.in_ok-write_rest.ensures.wrote_text c.flush.ensures.bytes)
