-- Nodes in order.
use Rattle.std.specs.Prelude.{◌≡◌, ◌≢◌, ℕ, ◌-◌, ◌^◌, ◌<◌, ◌≤◌, Bool, cond, List, length}
use Rattle.packet_sets.specs.Sets.{DiagramsView, branch_at, meaning}
use Rattle.packet_sets.specs.declared.branch.Branch.{Branch}

-- the bit of a node; that of the two ends comes after all others
abbrev pub bit_of : List Branch → ℕ → ℕ
bit_of nodes n = (branch_at nodes n).bit

-- a node with two children, which are before it and have later bits
pub record IsBranch (nodes : List Branch) (n : ℕ) : Type 0 where
  pub bit : bit_of nodes n < 2 ^ 32 - 1
  pub low_before : (branch_at nodes n).low < n
  pub high_before : (branch_at nodes n).high < n
  pub low_after : bit_of nodes n < bit_of nodes (branch_at nodes n).low
  pub high_after : bit_of nodes n < bit_of nodes (branch_at nodes n).high
  pub differ : (branch_at nodes n).low ≢ (branch_at nodes n).high

-- nodes, with the two ends first
pub record AreNodes (nodes : List Branch) : Type 0 where
  pub ends : 2 ≤ length nodes
  pub none : branch_at nodes 0 ≡ record { bit = 2 ^ 32 - 1; low = 0; high = 0 }
  pub all : branch_at nodes 1 ≡ record { bit = 2 ^ 32 - 1; low = 1; high = 1 }
  pub branches : (n : ℕ) → 2 ≤ n → n < length nodes → IsBranch nodes n

-- the old nodes are among the new
pub record Grows (old new : DiagramsView) : Type 0 where
  pub limit : new.limit ≡ old.limit
  pub longer : length old.nodes ≤ length new.nodes
  pub bits : (n : ℕ) → n < length old.nodes → bit_of new.nodes n ≡ bit_of old.nodes n
  pub same : (n : ℕ) (packet : ℕ → Bool) → n < length old.nodes
      → meaning new.nodes n packet ≡ meaning old.nodes n packet

-- a packet is in the node's set where it has the bit and is in high's, or hasn't it and is in low's; the node
-- has no bit before this one
pub record IsJoined (nodes : List Branch) (bit low high n : ℕ) : Type 0 where
  pub below : n < length nodes
  pub after : bit ≤ bit_of nodes n
  pub meaning : (packet : ℕ → Bool) → meaning nodes n packet
      ≡ cond (packet bit) (meaning nodes high packet) (meaning nodes low packet)

-- where a packet goes on from a node by a bit: to high where it has it, else to low. All of these are at most
-- the node, and less where the bit is the node's own
pub record IsPart (nodes : List Branch) (node bit : ℕ) (part : Branch) : Type 0 where
  pub low_most : part.low ≤ node
  pub high_most : part.high ≤ node
  pub low_less : bit_of nodes node ≡ bit → part.low < node
  pub high_less : bit_of nodes node ≡ bit → part.high < node
  pub low_after : bit < bit_of nodes part.low
  pub high_after : bit < bit_of nodes part.high
  pub meaning : (packet : ℕ → Bool) → meaning nodes node packet
      ≡ cond (packet bit) (meaning nodes part.high packet) (meaning nodes part.low packet)
