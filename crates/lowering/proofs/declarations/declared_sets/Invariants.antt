use Rattle.lowering.proofs.Names.{IsDeclaredSet, drop, false, list_any, map, set_mismatches, set_tree, sets_of, ◌≡◌}
use Rattle.lowering.proofs.Pairwise.{Completes}
use Rattle.lowering.proofs.declarations.declared_sets.Given as goal

abbrev pub invariant-loop-set : goal.invariant-loop-set
invariant-loop-set l = (list_any set_mismatches (map (λ s. set_tree s.now) (drop l.set-index l.set-items)) ≡ false)
    × Completes (IsDeclaredSet l.network) (map (λ s. set_tree s.now) (drop l.set-index l.set-items)) (sets_of l.names) l.tables.items
