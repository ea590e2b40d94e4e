-- Operations on two sets, and the memo of their results.
use Rattle.std.specs.Prelude.{◌≡◌, ℕ, ◌+◌, ◌-◌, ◌^◌, ◌<◌, ◌≤◌, Bool, not, ◌&&◌, ◌||◌, List, length, All}
use Rattle.packet_sets.specs.Sets.{meaning}
use Rattle.packet_sets.specs.steps.Nodes.{bit_of, IsPart}
use Rattle.packet_sets.specs.declared.branch.Branch.{Branch}
use Rattle.packet_sets.specs.declared.diagrams.Step.{Step}
use Rattle.packet_sets.specs.declared.memo.Entry.{Entry}
use Rattle.packet_sets.specs.declared.operation.Operation.{Operation}
use Rattle.packet_sets.specs.declared.operation.Operation.TheVariants.{And, Or, Without}

-- whether a packet is in the result, by whether it is in the first and in the second set
abbrev pub combined : Operation → Bool → Bool → Bool
combined And a b = a && b
combined Or a b = a || b
combined Without a b = a && not b

-- the node of the result; it has no bit before all bits of the two
pub record IsResult (nodes : List Branch) (operation : Operation) (left right n : ℕ) : Type 0 where
  pub below : n < length nodes
  pub after : (bit : ℕ) → bit ≤ bit_of nodes left → bit ≤ bit_of nodes right → bit ≤ bit_of nodes n
  pub meaning : (packet : ℕ → Bool) → meaning nodes n packet
      ≡ combined operation (meaning nodes left packet) (meaning nodes right packet)

-- an entry of the memo is right
pub record IsRight (nodes : List Branch) (entry : Entry) : Type 0 where
  pub left : entry.left < length nodes
  pub right : entry.right < length nodes
  pub result : IsResult nodes entry.operation entry.left entry.right entry.result

-- all entries of the memo are right
abbrev pub AreRight : List Branch → List Entry → Type 0
AreRight nodes entries = All (λ entry. IsRight nodes entry) entries

-- the least bit of two nodes, and where packets go on from them by it
pub record IsStep (nodes : List Branch) (left right : ℕ) (step : Step) : Type 0 where
  pub bit : step.bit < 2 ^ 32 - 1
  pub least : (bit : ℕ) → bit ≤ bit_of nodes left → bit ≤ bit_of nodes right → bit ≤ step.bit
  pub left_part : IsPart nodes left step.bit step.left
  pub right_part : IsPart nodes right step.bit step.right
  pub low_less : step.left.low + step.right.low < left + right
  pub high_less : step.left.high + step.right.high < left + right
