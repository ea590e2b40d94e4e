use Rattle.std.proofs.Common.{subst}
use Rattle.nft_tree.specs.TreeViews.{tables_of}
use Rattle.rule_paths.specs.Paths.{Cycles}
use Rattle.rule_paths.specs.Findings.{AreFindings}
use Rattle.rule_check.specs.declared.fault.CheckFault.TheVariants as faults
use Rattle.rule_check.specs.steps.FaultRanges.{HasNone, IsLeastFaultIn}
use Rattle.rule_check.proofs.LeastFaults.{least, least_reported, none_reported, well_formed, without}
use Rattle.rule_check.proofs.Stages.{after_cycles, after_names, at_none, at_some, findings_of}
use Rattle.rule_check.proofs.analysis.analyze.Goals as goal
use Rattle.rule_check.proofs.analysis.analyze.Goals.{In_default, In_ok-fault}

none4 : (c : In_default) → HasNone 1 4 (tables_of c.args.tree.now) c.args.network.now
none4 c = after_names (tables_of c.args.tree.now) c.args.network.now c.args.names.now c.fault_of_names.result
    c.requires.apart c.requires.names c.in_default.is (c.fault_of_names.ensures c.args.network.now)

none5 : (c : In_ok-fault) → HasNone 1 4 (tables_of c.args.tree.now) c.args.network.now
    → HasNone 1 5 (tables_of c.args.tree.now) c.args.network.now
none5 c none4 = after_cycles _ _ c.in-Some-2.found none4
    (findings_of _ c.args.network.now _ c.in-Some-2.found c.requires.names
    (at_some c.in_ok-found.field-0 (Cycles c.args.names.now) (λ found. AreFindings c.args.names.now found) _
    c.in-Some-2.is c.in_ok-found.ensures))

pub returns-in-Some-clause-refused : goal.returns-in-Some-clause-refused
returns-in-Some-clause-refused c =
    let tables = tables_of c.args.tree.now in
    let network = c.args.network.now in
    least_reported tables network 2 4 c.in-Some.fault c.fault_of_names.result
    (without tables network faults.DuplicateName c.requires.apart) c.in-Some.is
    (subst (λ ts. IsLeastFaultIn 2 4 ts network c.fault_of_names.result) c.requires.names (c.fault_of_names.ensures network))

pub returns-in_default-2-clause-refused : goal.returns-in_default-2-clause-refused
returns-in_default-2-clause-refused c =
    least _ _ faults.Cycle (none4 (goal.at.returns-in_default-2-clause-refused c).In_default)
    (subst Cycles c.requires.names (at_none c.in_ok-found.field-0 (Cycles c.args.names.now)
    (λ found. AreFindings c.args.names.now found) c.in_default-2.is c.in_ok-found.ensures))

pub returns-in-Some-3-clause-refused : goal.returns-in-Some-3-clause-refused
returns-in-Some-3-clause-refused c =
    let at = goal.at.returns-in-Some-3-clause-refused c in
    least_reported _ _ 5 16 c.in-Some-3.fault c.in_ok-fault.field-0 (none5 at.In_ok-fault (none4 at.In_default))
    c.in-Some-3.is c.in_ok-fault.ensures

pub returns-in-None-clause-fine : goal.returns-in-None-clause-fine
returns-in-None-clause-fine c =
    let at = goal.at.returns-in-None-clause-fine c in
    well_formed _ _ (none_reported _ _ 5 16 c.in_ok-fault.field-0 (none5 at.In_ok-fault (none4 at.In_default))
    c.in-None.is c.in_ok-fault.ensures)
