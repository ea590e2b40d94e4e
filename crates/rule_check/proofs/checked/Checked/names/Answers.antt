use Rattle.rule_check.specs.declared.fault.CheckFault.TheVariants as faults
use Rattle.rule_check.proofs.checked.Checked.names.Goals as goal

pub tables-requires-clause-apart : goal.tables-requires-clause-apart
tables-requires-clause-apart c = c.self.invariant.fine faults.DuplicateName
