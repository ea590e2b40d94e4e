use Rattle.std.proofs.Common.{◌+◌, ◌≤◌, drop}
use Rattle.nft_tree.specs.TreeViews.{statement}
use Rattle.rule_meaning.specs.Statements.{statement_effect}
use Rattle.lowering.specs.Lowered.{Extends, count_tables, scope_of}
use Rattle.rule_sets.proofs.Advancing.{Comes}
use Rattle.rule_sets.proofs.progress.Progress.after.Given as goal

-- with the cases that are left
abbrev pub invariant-loop-state : goal.invariant-loop-state
invariant-loop-state l = record {
  comes : Comes l.fn.diagrams l.diagrams l.place.reader l.place.last (statement_effect (scope_of l.place.setting.network.now l.place.setting.names.now)
      l.place.position (statement l.place.stmt.now)) l.fn.self l.next (drop l.state-index l.state-items);
  extends : Extends l.fn.lookups l.lookups;
  few : count_tables l.lookups ≤ count_tables l.fn.lookups + l.state-index;
}
