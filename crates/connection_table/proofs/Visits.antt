-- The visits of slots that are counted while expired entries are removed.
use Rattle.std.proofs.Common.{ℕ, ◌+◌, ◌*◌, ◌<◌, ◌≤◌, Option, Some, None, arith}
use Rattle.std.specs.Option.{option_map}
use Rattle.std.proofs.Math.Nat.{add-mul}
use Rattle.std.proofs.lemmas.Nat.{mul-le}
use Rattle.conntrack.specs.TableEntries.{IsWithin, SlotBounds}

-- after one more call, where so many were counted at most for fewer entries
pub one_more_age : (bounds : Option SlotBounds) (k removed first old new : ℕ) → k < removed
    → IsWithin (option_map (λ most. k * most.age) bounds) first old
    → IsWithin (option_map (λ most. most.age) bounds) old new
    → IsWithin (option_map (λ most. removed * most.age) bounds) first new
one_more_age None k removed first old new fewer before call = omega arith
one_more_age (Some most) k removed first old new fewer before call =
    let all : (k + 1) * most.age ≤ removed * most.age = mul-le (k + 1) most.age removed most.age (omega arith) (omega arith) in
    omega (arith, all, add-mul k 1 most.age)
