use Rattle.report.proofs.Imports.{[], append-nil, arith, false, refl, sym, true, ◌∙◌, ◌≡◌}
use Rattle.report.proofs.Putting.{called, goes_on}
use Rattle.report.proofs.page.Page.put.Goals as goal

pub returns-then-is_err-clause-puts : goal.returns-then-is_err-clause-puts
returns-then-is_err-clause-puts g c =
    let s = c.send.ensures in
    let first = called c.send.result _ _ _ _ _ [] _ (sym (append-nil _)) s.ok s.part s.no_failure s.device in
    record {
      goes = rw c.if-self.false (goes_on false true true _ [] [] _ _ _ c.args.writer.now.failures _ _ [] _
          (rw (← c.is_err.ensures.value, c.if-is_err.true) at first) (refl, refl, refl));
      flushes = s.flushes;
    }

pub returns-then-bytes-gt-PAGE_BYTES-clause-puts : goal.returns-then-bytes-gt-PAGE_BYTES-clause-puts
returns-then-bytes-gt-PAGE_BYTES-clause-puts g c =
    let s = c.send.ensures in
    let w = c.write_whole.ensures in
    let first = called c.send.result _ _ _ _ _ [] _ (sym (append-nil _)) s.ok s.part s.no_failure s.device in
    let empty : c.send.new.self.text.items ≡ [] = grind (arith, s.empty, c.is_err.ensures.value, c.if-is_err.false) in
    record {
      goes = rw (c.if-self.false, c.is_err-self.ensures.value, empty) (goes_on false false _ _ [] _ _ _ _ _ _ _ [] _
          (rw (← c.is_err.ensures.value, c.if-is_err.false) at first)
          (called c.write_whole.result [] _ _ _ _ _ _ refl w.ok w.part w.no_failure w.device));
      flushes = w.flushes ∙ s.flushes;
    }
