use Rattle.std.proofs.Common.{◌-◌, ◌<◌, ◌≤◌}
use Rattle.nft_tree.specs.TreeViews.{tables_of}
use Rattle.rule_check.specs.WellFormed.{LeastFault}
use Rattle.fault_nodes.specs.ReadParts.{read_up_to}
use Rattle.fault_nodes.proofs.first_faults.Subject.completed_at.Given as goal

-- The ruleset has the fault when it is read up to `with`, and hasn't when it is read up to `without`.
abbrev pub invariant-loop-with : goal.invariant-loop-with
invariant-loop-with l =
    (l.without < l.with) × (l.with ≤ l.total)
    × LeastFault l.self.fault (read_up_to l.with (tables_of l.self.tree.now)) l.self.network.now
    × (LeastFault l.self.fault (read_up_to l.without (tables_of l.self.tree.now)) l.self.network.now → ⊥)

abbrev pub decreases-loop-with : goal.decreases-loop-with
decreases-loop-with l = l.with - l.without
