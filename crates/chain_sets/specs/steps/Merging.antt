-- Cases as what they say of a packet.
use Rattle.std.specs.Prelude.{◌≡◌, ℕ, Bool, true, ◌||◌, List, [], ◌∷◌}
use Rattle.std.specs.List.{list_any}
use Rattle.packet_sets.specs.Sets.{DiagramsView, holds}
use Rattle.fact_sets.specs.declared.cases.Case.{Case}
use Rattle.fact_sets.specs.Cases.{AreCases}
use Rattle.rule_sets.specs.Ends.{outcomes_for}

-- the outcome of some case that has the packet passes the test
abbrev pub some_outcome : {V : Type 0} → DiagramsView → List (Case V) → (ℕ → Bool) → (V → Bool) → Bool
some_outcome d cases packet test = list_any test (outcomes_for d cases packet)

-- each outcome of a packet is one that it had before, or one of those that are added
pub record Adds {V : Type 0} (old new : DiagramsView) (more before after : List (Case V)) : Type 0 where
  pub are : AreCases new after
  pub same : (packet : ℕ → Bool) (test : V → Bool) → some_outcome new after packet test
      ≡ (some_outcome old before packet test || some_outcome old more packet test)

-- each case has a packet
abbrev pub HavePackets : {V : Type 0} → DiagramsView → List (Case V) → Type 0
HavePackets d [] = Unit {0}
HavePackets d (c ∷ cs) = ((packet : ℕ → Bool) × (holds d c.set packet ≡ true)) × HavePackets d cs

-- the same case with another outcome
abbrev pub with_outcome : {V W : Type 0} → (V → W) → Case V → Case W
with_outcome f c = record { set = c.set; outcome = f c.outcome }
