-- The walk to an example.
use Rattle.std.specs.Prelude.{◌≡◌, ◌≢◌, ℕ, ◌<◌, ◌≤◌, Bool, false, List, length}
use Rattle.packet_sets.specs.Sets.{has_bit, meaning}
use Rattle.packet_sets.specs.steps.Nodes.{bit_of}
use Rattle.packet_sets.specs.declared.branch.Branch.{Branch}

-- packets with these of the bits before the bit of `at`, and without the others of them, are in the set of
-- `n` where they are in that of `at`, which isn't none
pub record IsAlong (nodes : List Branch) (n : ℕ) (bits : List ℕ) (at : ℕ) : Type 0 where
  pub below : at < length nodes
  pub inner : at ≢ 0
  pub absent : (b : ℕ) → bit_of nodes at ≤ b → has_bit bits b ≡ false
  pub same : (packet : ℕ → Bool) → ((b : ℕ) → b < bit_of nodes at → packet b ≡ has_bit bits b)
      → meaning nodes n packet ≡ meaning nodes at packet
