use Rattle.rule_names.proofs.Names.{false, list_any, take, ◌≡◌}
use Rattle.rule_names.specs.steps.NameFaults.{has_fault}
use Rattle.rule_names.proofs.name_faults.any_has_fault.Given as goal

-- no name of the items so far has the fault
abbrev pub invariant-loop-item : goal.invariant-loop-item
invariant-loop-item g l =
    list_any (λ x. list_any (has_fault l.fault l.names) (g.T.HasNames.names_of l.fault (g.T.HasNames.tree x))) (take l.item-index l.items) ≡ false
