use Rattle.nat_mapping.proofs.Names.{All, IsSpare, vec_len, ◌-◌, ◌≤◌}
use Rattle.nat_mapping.proofs.pools.fill_spares.Given as goal

abbrev pub invariant-loop-alloc : goal.invariant-loop-alloc
invariant-loop-alloc l =
    (vec_len l.initial.spares ≤ vec_len l.spares) × (vec_len l.spares ≤ 2) × All IsSpare l.spares.items

abbrev pub decreases-loop-alloc : goal.decreases-loop-alloc
decreases-loop-alloc l = l.pools - vec_len l.spares
