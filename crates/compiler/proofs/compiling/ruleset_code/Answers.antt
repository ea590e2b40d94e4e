use Rattle.compiler.proofs.Names.{false_from_ne_true, rules}
use Rattle.rule_check.specs.declared.fault.CheckFault.TheVariants as faults
use Rattle.compiler.proofs.compiling.ruleset_code.Goals as goal

pub add_base_chains-requires-clause-bounds : goal.add_base_chains-requires-clause-bounds
add_base_chains-requires-clause-bounds c = rw (c.deref-2.ensures.value, c.in_ok-names.ensures) (false_from_ne_true _ (c.requires faults.WrongValue))

pub add_tables-requires-clause-types : goal.add_tables-requires-clause-types
add_tables-requires-clause-types c = rw (c.deref.ensures.value, c.in_ok-names.ensures) (false_from_ne_true _ (c.requires faults.TypeMismatch))

pub add_tables-requires-clause-bounds : goal.add_tables-requires-clause-bounds
add_tables-requires-clause-bounds c = rw (c.deref.ensures.value, c.in_ok-names.ensures, c.plant.ensures)
    (false_from_ne_true _ (c.requires faults.WrongValue))

pub returns : goal.returns
returns c = record {
  tables = search rules;
  bases = c.add_base_chains.new.bases.items;
  are = c.in_ok-add_base_chains.ensures;
  ordered = c.in_ok-add_starts.ensures.starts;
}
