use Rattle.std.proofs.Common.{map, ◌≡◌}
use Rattle.list_laws.specs.Options.{IfSome_at}
use Rattle.nft_tree.specs.TreeViews.{tables_of}
use Rattle.rule_names.specs.Indexed.{names_in}
use Rattle.rule_names.specs.Names.{DuplicateName}
use Rattle.rule_check.specs.declared.fault.CheckFault.TheVariants as faults
use Rattle.rule_check.proofs.LeastFaults.{least, none_yet}
use Rattle.rule_check.proofs.Stages.{at_none, at_some}
use Rattle.rule_check.proofs.checked.judge.Goals as goal

pub returns-in_default-clause-refused : goal.returns-in_default-clause-refused
returns-in_default-clause-refused c =
    let tables = tables_of c.args.tree.now in
    least tables c.args.network.now faults.DuplicateName (none_yet tables c.args.network.now 1)
    (at_none c.in_ok-names.field-0 (DuplicateName tables) (λ names. names ≡ map names_in tables) c.in_default.is
    c.in_ok-names.ensures.names)

pub tables-requires-clause-names : goal.tables-requires-clause-names
tables-requires-clause-names c =
    let tables = tables_of c.args.tree.now in
    at_some c.in_ok-names.field-0 (DuplicateName tables) (λ names. names ≡ map names_in tables) c.in-Some.names c.in-Some.is
    c.in_ok-names.ensures.names

pub tables-requires-clause-apart : goal.tables-requires-clause-apart
tables-requires-clause-apart c = IfSome_at c.in_ok-names.field-0
    (λ names. DuplicateName (tables_of c.args.tree.now) → ⊥) _ c.in-Some.is c.in_ok-names.ensures.apart

pub analyze-requires-clause-apart : goal.analyze-requires-clause-apart
analyze-requires-clause-apart c = IfSome_at c.in_ok-names.field-0
    (λ names. DuplicateName (tables_of c.args.tree.now) → ⊥) _ c.in-Some.is c.in_ok-names.ensures.apart
