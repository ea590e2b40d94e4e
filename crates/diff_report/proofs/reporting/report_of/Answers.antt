use Rattle.std.proofs.Common.{◌==◌, ◌∙◌, ap, length, sym}
use Rattle.std.proofs.lemmas.Bool.{eqb-true}
use Rattle.diff_report.proofs.Telling.{tells_other, tells_same}
use Rattle.diff_report.proofs.reporting.report_of.Goals as goal

pub returns-then-is_empty : goal.returns-then-is_empty
returns-then-is_empty c =
    tells_same _ _ _ _ c.in_ok-diff.diff.diagrams c.in_ok-diff.diff.differences.items _
    (ap length (sym c.differences.ensures) ∙ eqb-true _ _ (sym c.is_empty.ensures ∙ c.if-is_empty.true))
    (c.in_ok-to_vec.ensures.items_if_clones_equal (λ x y e. e)) c.in_ok-diff.ensures.differences

pub returns : goal.returns
returns c =
    tells_other _ _ _ _ c.in_ok-diff.diff.diagrams c.in_ok-diff.diff.differences.items _
    (ap (λ xs. length xs == 0) (sym c.differences.ensures) ∙ sym c.is_empty.ensures ∙ c.if-is_empty.false)
    c.in_ok-diff.ensures.differences
