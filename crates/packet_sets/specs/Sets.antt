-- What a set of packets is, and which one a node means. A packet is its bits: for each number whether it has
-- that bit. A set is a function that tells of each packet whether it is in it. (own; the diagrams are those
-- of Bryant, Graph-based algorithms for Boolean function manipulation, 1986)
use Rattle.std.specs.Prelude.{◌≡◌, ◌≢◌, ℕ, zero, suc, ◌+◌, ◌-◌, ◌^◌, ◌<◌, Bool, false, cond, ◌==◌, ◌||◌, List, [], ◌∷◌, length, slice_index_or}
use Rattle.packet_sets.specs.declared.branch.Branch.{Branch}
use Rattle.packet_sets.specs.declared.packet_set.PacketSet.{PacketSet}
use Rattle.packet_sets.specs.declared.split.Split.{Split}

-- what diagrams show to their users: their nodes, and how many there may be
pub record DiagramsView : Type 0 where
  pub nodes : List Branch
  pub limit : ℕ

-- the node of a number
abbrev pub branch_at : List Branch → ℕ → Branch
branch_at nodes n = slice_index_or nodes n (record { bit = 0; low = 0; high = 0 })

-- where a packet's walk goes on from a node: to high where the packet has its bit, else to low
unfoldable pub next_node : List Branch → ℕ → (ℕ → Bool) → ℕ
next_node nodes n packet =
    cond (packet (branch_at nodes n).bit) (branch_at nodes n).high (branch_at nodes n).low

-- where a packet's walk is after so many steps from a node
unfoldable pub walk : ℕ → List Branch → ℕ → (ℕ → Bool) → ℕ
walk zero nodes n packet = n
walk (suc steps) nodes n packet = walk steps nodes (next_node nodes n packet) packet

-- whether a packet's walk from a node ends at node 1. Each step leads to a smaller number, or stays at 0 or
-- 1: as many steps as the node's number are enough
unfoldable pub meaning : List Branch → ℕ → (ℕ → Bool) → Bool
meaning nodes n packet = walk n nodes n packet == 1

-- whether a packet is in a set
abbrev pub holds : DiagramsView → PacketSet → (ℕ → Bool) → Bool
holds d set packet = meaning d.nodes set.node packet

-- the set is one of these diagrams
abbrev pub IsSet : DiagramsView → PacketSet → Type 0
IsSet d set = set.node < length d.nodes

-- every set of the old diagrams is one of the new, and has the same packets there
pub record Keeps (old new : DiagramsView) : Type 0 where
  pub limit : new.limit ≡ old.limit
  pub sets : (set : PacketSet) → IsSet old set → IsSet new set
  pub same : (set : PacketSet) (packet : ℕ → Bool) → IsSet old set
      → holds new set packet ≡ holds old set packet

-- the number that so many bits from this one on write, the highest first
unfoldable pub field_value : ℕ → ℕ → (ℕ → Bool) → ℕ
field_value first zero packet = 0
field_value first (suc width) packet =
    cond (packet first) (2 ^ width) 0 + field_value (first + 1) width packet

-- the set is one of these diagrams, and has exactly the packets that pass the test
pub record Means (d : DiagramsView) (set : PacketSet) (test : (ℕ → Bool) → Bool) : Type 0 where
  pub is_set : IsSet d set
  pub same : (packet : ℕ → Bool) → holds d set packet ≡ test packet

-- a packet is in the set where it has the bit and is in high, or hasn't it and is in low; these differ
pub record IsSplit (d : DiagramsView) (set : PacketSet) (split : Split) : Type 0 where
  pub bit : split.bit < 2 ^ 32 - 1
  pub low : IsSet d split.low
  pub high : IsSet d split.high
  pub differ : split.low ≢ split.high
  pub same : (packet : ℕ → Bool) → holds d set packet
      ≡ cond (packet split.bit) (holds d split.high packet) (holds d split.low packet)

-- the packet that has these bits and no others
unfoldable pub has_bit : List ℕ → ℕ → Bool
has_bit [] b = false
has_bit (x ∷ xs) b = x == b || has_bit xs b
