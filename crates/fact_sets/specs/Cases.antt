-- Packets with what becomes of them: cases, of which the first one that has a packet tells it; and the facts of a
-- packet. (own)
use Rattle.std.specs.Prelude.{ℕ, Bool, cond, List, [], ◌∷◌, Option, Some, None}
use Rattle.packet_sets.specs.Sets.{DiagramsView, IsSet, holds}
use Rattle.rule_meaning.specs.declared.facts.Facts.{Facts}
use Rattle.fact_sets.specs.declared.readings.Reader.{Reader}
use Rattle.fact_sets.specs.declared.cases.Case.{Case}
use Rattle.fact_sets.specs.Facts.{facts_of}

-- the facts of a packet's bits, as this reader reads them
abbrev pub seen : Reader → (ℕ → Bool) → Facts
seen reader packet = facts_of reader.interfaces.now reader.written packet

-- the outcome of the first case that has the packet
abbrev pub picked : {V : Type 0} → DiagramsView → List (Case V) → (ℕ → Bool) → Option V
picked d [] packet = None
picked d (c ∷ cs) packet = cond (holds d c.set packet) (Some c.outcome) (picked d cs packet)

-- the set of each case is one of these diagrams
abbrev pub AreCases : {V : Type 0} → DiagramsView → List (Case V) → Type 0
AreCases d [] = Unit {0}
AreCases d (c ∷ cs) = IsSet d c.set × AreCases d cs
