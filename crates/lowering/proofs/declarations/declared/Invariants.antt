use Rattle.lowering.proofs.Names.{IsMapNumbers, IsMapVerdicts, drop, map, map_tree, maps_of}
use Rattle.lowering.proofs.Pairwise.{Completes}
use Rattle.lowering.proofs.declarations.declared.Given as goal

abbrev pub invariant-loop-map : goal.invariant-loop-map
invariant-loop-map l =
    Completes (IsMapVerdicts l.network l.names) (map (λ m. map_tree m.now) (drop l.map-index l.map-items)) (maps_of l.names) l.verdicts.items
    × Completes (IsMapNumbers l.network) (map (λ m. map_tree m.now) (drop l.map-index l.map-items)) (maps_of l.names) l.numbers.items
