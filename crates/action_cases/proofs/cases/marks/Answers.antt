use Rattle.std.proofs.Common.{◌∙◌, ap, map}
use Rattle.rule_code.specs.Actions.{operand_reads}
use Rattle.action_cases.specs.declared.cases.Outcome.TheVariants as outcomes
use Rattle.fact_sets.specs.Cases.{seen}
use Rattle.action_cases.specs.steps.Picking.{with_outcome}
use Rattle.action_cases.proofs.CaseLaws.{decides_map, marks_written}
use Rattle.action_cases.proofs.cases.marks.Goals as goal

pub returns-clause-value : goal.returns-clause-value
returns-clause-value c =
    decides_map c.operand_marks.new.diagrams c.args.reader (outcomes.Marks c.args.field) c.in_ok-found.found.items c.in_ok-written.field-0.items _
    (c.in_ok-written.ensures ∙ ap (map (with_outcome (outcomes.Marks c.args.field))) c.deref.ensures.value) c.in_ok-found.ensures.value.are
    (λ f. marks_written c.operand_marks.new.diagrams c.args.reader c.args.field c.in_ok-found.found.items (λ f. operand_reads c.args.lookups.now c.args.operand.now
    (seen c.args.reader f)) f c.in_ok-found.ensures.value)
