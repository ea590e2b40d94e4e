-- Packets on their way through a rule: those with which it has ended, and those that have passed all
-- statements so far. (own)
use Rattle.std.specs.Prelude.{◌≡◌, ◌≤◌, ◌++◌, ◌∷◌, [], ℕ, Bool, List, None, cond, false, length, map}
use Rattle.packet_sets.specs.declared.packet_set.PacketSet.{PacketSet}
use Rattle.packet_sets.specs.Sets.{DiagramsView, holds}
use Rattle.rule_meaning.specs.declared.facts.Facts.{Facts}
use Rattle.fact_sets.specs.declared.cases.Case.{Case}
use Rattle.fact_sets.specs.declared.readings.Reader.{Reader}
use Rattle.fact_sets.specs.Cases.{AreCases, seen}
use Rattle.action_cases.specs.Effects.{outcome_effect}
use Rattle.fact_sets.specs.Facts.{facts_of}
use Rattle.rule_sets.specs.declared.parts.Parts.{Parts}
use Rattle.rule_sets.specs.declared.progress.Progress.{Progress}
use Rattle.rule_sets.specs.Ends.{RuleEnd, end_behind, ends_for, outcomes_for}

-- more is added, where that makes one at most
abbrev pub Adds : {V : Type 0} → (before more after : List V) → Type 0
Adds before more after = length (before ++ more) ≤ 1 → after ≡ before ++ more

-- the packets of the set have the outcome too, where no packet has two then
pub record AddsCase {V : Type 0} (old new : DiagramsView) (set : PacketSet) (outcome : V)
    (before after : List (Case V)) : Type 0 where
  pub are : AreCases new after
  pub same : (packet : ℕ → Bool) → Adds (outcomes_for old before packet)
      (cond (holds old set packet) (outcome ∷ []) []) (outcomes_for new after packet)

pub record AreSets (d : DiagramsView) (p : Progress) : Type 0 where
  pub ends : AreCases d p.ends.items
  pub passing : AreCases d p.passing.items

-- the ends that a packet has or will have, where `rest` is the end from the next statement on
abbrev pub prospects : DiagramsView → Reader → (Facts → RuleEnd) → Progress → (ℕ → Bool) → List RuleEnd
prospects d reader rest p packet =
    ends_for d reader p.ends.items packet
    ++ map (λ w. rest (facts_of reader.interfaces.now w packet)) (outcomes_for d p.passing.items packet)

-- those that it will have as the parts of a statement have it, the last one or not
abbrev pub prospects_by : DiagramsView → Reader → Bool → (Facts → RuleEnd) → Parts → (ℕ → Bool)
    → List RuleEnd
prospects_by d reader last rest parts packet =
    cond (holds d parts.rest packet) (record { facts = seen reader packet; verdict = None; met = false } ∷ []) []
    ++ map (λ o. end_behind last rest (seen reader packet) (outcome_effect reader o packet))
    (outcomes_for d parts.cases.items packet)

-- the packets of a statement's parts are added, as they are after it
pub record Passes (old new : DiagramsView) (reader : Reader) (last : Bool) (parts : Parts)
    (before after : Progress) : Type 0 where
  pub sets : AreSets new after
  pub same : (rest : Facts → RuleEnd) (packet : ℕ → Bool) → Adds (prospects old reader rest before packet)
      (prospects_by old reader last rest parts packet) (prospects new reader rest after packet)

-- all packets have come past a statement, where none was in two cases; `whole` is the end from it on
pub record Advances (old new : DiagramsView) (reader : Reader) (whole : (Facts → RuleEnd) → Facts → RuleEnd)
    (before after : Progress) : Type 0 where
  pub sets : AreSets new after
  pub same : (rest : Facts → RuleEnd) (packet : ℕ → Bool)
      → length (prospects old reader (whole rest) before packet) ≤ 1
      → prospects new reader rest after packet ≡ prospects old reader (whole rest) before packet
