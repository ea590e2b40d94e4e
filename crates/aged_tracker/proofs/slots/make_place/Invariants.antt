use Rattle.std.proofs.Common.{length, slice_index_or, ℕ, ◌+◌, ◌-◌, ◌<◌, ◌≡◌, ◌≤◌}
use Rattle.aged_tracker.proofs.slots.make_place.Given as goal

abbrev pub invariant-loop-filler : goal.invariant-loop-filler
invariant-loop-filler g l =
    ((other : ℕ) → slice_index_or l.list.items other l.filler ≡ slice_index_or l.initial.list.items other l.filler)
    × (length l.initial.list.items ≤ length l.list.items)
    × (l.key < length l.initial.list.items → l.list ≡ l.initial.list)

abbrev pub decreases-loop-filler : goal.decreases-loop-filler
decreases-loop-filler g l = l.key + 1 - length l.list.items
