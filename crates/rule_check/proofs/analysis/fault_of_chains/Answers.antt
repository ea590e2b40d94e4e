use Rattle.std.proofs.Common.{◌≡◌, ◌∙◌, ap, sym, false, arith}
use Rattle.std.specs.List.{list_any}
use Rattle.nft_tree.specs.TreeViews.{tables_of}
use Rattle.rule_names.specs.Names.{jumps_to_base_chain}
use Rattle.rule_types.specs.Types.{table_mismatches}
use Rattle.rule_check.specs.declared.fault.CheckFault.TheVariants as faults
use Rattle.rule_check.specs.steps.FaultRanges.{HasNone}
use Rattle.rule_check.proofs.LeastFaults.{more, none_yet, not_so, not_true, reported}
use Rattle.rule_check.proofs.analysis.fault_of_chains.Goals as goal
use Rattle.rule_check.proofs.analysis.fault_of_chains.Goals.{After-has_misplaced_chain, After-has_wrong_value}

-- no chain is too deep or too costly, no base chain is called, and all types fit
typed : (c : After-has_wrong_value) → HasNone 5 9 (tables_of c.args.tree.now) c.args.network.now
typed c =
    let tables = tables_of c.args.tree.now in
    let network = c.args.network.now in
    let base : list_any jumps_to_base_chain tables ≡ false = ap (list_any jumps_to_base_chain) (sym c.requires.names)
    ∙ sym c.jumps_to_base_chain.ensures ∙ c.if-jumps_to_base_chain.false in
    let fit : list_any table_mismatches tables ≡ false = ap (list_any table_mismatches) (sym c.requires.names)
    ∙ sym c.has_type_mismatch.ensures ∙ c.if-has_type_mismatch.false in
    let deep = more tables network 5 faults.TooDeep (none_yet tables network 5) (not_so _ _ c.requires.found.deep c.if-found.false) in
    let costly = more tables network 5 faults.TooCostly deep (not_so _ _ c.requires.found.costly c.if-found-2.false) in
    more tables network 5 faults.TypeMismatch (more tables network 5 faults.BaseChainCalled costly (not_true _ base)) (not_true _ fit)

-- and no value is wrong
placed : (c : After-has_misplaced_chain) → HasNone 5 9 (tables_of c.args.tree.now) c.args.network.now
    → HasNone 5 11 (tables_of c.args.tree.now) c.args.network.now
placed c typed = more _ _ 5 faults.MisplacedNat
    (more _ _ 5 faults.WrongValue typed (not_true _ (sym c.has_wrong_value.ensures ∙ c.if-has_wrong_value.false)))
    (not_so _ _ c.requires.found.nat c.if-found-3.false)

pub returns-then-found-3 : goal.returns-then-found-3
returns-then-found-3 c =
    let wrong = more _ _ 5 faults.WrongValue (typed (goal.at.returns-then-found-3 c).After-has_wrong_value)
    (not_true _ (sym c.has_wrong_value.ensures ∙ c.if-has_wrong_value.false)) in
    reported _ _ 5 faults.MisplacedNat 12 (omega arith) (omega arith) wrong (c.requires.found.nat.0 c.if-found-3.true)

pub returns-then-has_misplaced_chain : goal.returns-then-has_misplaced_chain
returns-then-has_misplaced_chain c =
    let at = goal.at.returns-then-has_misplaced_chain c in
    reported _ _ 5 faults.MisplacedNatChain 12 (omega arith) (omega arith)
    (placed at.After-has_misplaced_chain (typed at.After-has_wrong_value))
    (sym c.has_misplaced_chain.ensures ∙ c.if-has_misplaced_chain.true)

pub returns : goal.returns
returns c =
    let at = goal.at.returns c in
    more _ _ 5 faults.MisplacedNatChain (placed at.After-has_misplaced_chain (typed at.After-has_wrong_value))
    (not_true _ (sym c.has_misplaced_chain.ensures ∙ c.if-has_misplaced_chain.false))
