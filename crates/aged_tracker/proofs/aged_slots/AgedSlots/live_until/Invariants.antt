use Rattle.aged_tracker.proofs.Names.{IsLiveQueue, slots_of, ℕ, ◌+◌, ◌<◌, ◌≤◌}
use Rattle.aged_tracker.proofs.aged_slots.AgedSlots.live_until.Given as goal

abbrev pub invariant-loop-queue : goal.invariant-loop-queue
invariant-loop-queue l =
    (l.now ≤ l.until) × (l.until < l.now + 1000000000)
    × ((q : ℕ) → q < l.queue → (moment : ℕ) → moment ≤ l.until → IsLiveQueue l.limits (slots_of l.self) moment q)
