use Rattle.std.proofs.Common.{◌∙◌, ap, map}
use Rattle.fact_sets.specs.declared.written.MarkSource.TheVariants as sources
use Rattle.action_cases.specs.steps.Picking.{with_outcome}
use Rattle.action_cases.proofs.CaseLaws.{numbers_read}
use Rattle.action_cases.proofs.cases.operand_marks.Goals as goal

pub returns-in_ok-numbers-in-MapLookup-clause-value : goal.returns-in_ok-numbers-in-MapLookup-clause-value
returns-in_ok-numbers-in-MapLookup-clause-value c =
    rw c.in-MapLookup.is (numbers_read c.looked_up.new.diagrams c.in_ok-found-in-MapLookup.found.items c.in_ok-numbers-in-MapLookup.field-0.items _
    (c.in_ok-numbers-in-MapLookup.ensures ∙ ap (map (with_outcome sources.Number)) c.deref-in-MapLookup.ensures.value)
    (rw c.deref.ensures.value at c.in_ok-found-in-MapLookup.ensures.value))
