-- How the ways of all packets of a set through the base chains of a stage end. (own)
use Rattle.std.specs.Prelude.{◌≡◌, ℕ, Bool, ◌&&◌, List, map}
use Rattle.std.specs.List.{list_any}
use Rattle.packet_sets.specs.declared.packet_set.PacketSet.{PacketSet}
use Rattle.packet_sets.specs.Sets.{DiagramsView, holds}
use Rattle.rule_meaning.specs.declared.facts.Facts.{Facts}
use Rattle.rule_meaning.specs.declared.facts.Interface.{Interface}
use Rattle.fact_sets.specs.declared.cases.Case.{Case}
use Rattle.fact_sets.specs.Boxes.{NOTHING}
use Rattle.fact_sets.specs.Cases.{AreCases}
use Rattle.fact_sets.specs.Facts.{facts_of}
use Rattle.rule_sets.specs.Ends.{outcomes_for}
use Rattle.chain_ways.specs.BaseWays.{StageEnd}
use Rattle.stage_sets.specs.declared.outcome.StageOutcome.{StageOutcome}

-- what a packet in a case with this outcome comes to
abbrev pub end_with : List Interface → (ℕ → Bool) → StageOutcome → StageEnd
end_with interfaces packet o =
    record { verdict = o.verdict; facts = facts_of interfaces o.written packet }

-- the packets of the set end so: a test passes for some outcome of a packet exactly where the packet is in the
-- set, and the end of its way passes
pub record AreStageEnds (interfaces : List Interface) (end : Facts → StageEnd) (old new : DiagramsView)
    (set : PacketSet) (outcomes : List (Case StageOutcome)) : Type 0 where
  pub are : AreCases new outcomes
  pub they_end : (packet : ℕ → Bool) (test : StageEnd → Bool)
      → list_any test (map (end_with interfaces packet) (outcomes_for new outcomes packet))
      ≡ (holds old set packet && test (end (facts_of interfaces NOTHING packet)))
