-- The ways of all packets of a set, or of states, through a chain. (own)
use Rattle.std.specs.Prelude.{◌≡◌, ℕ, Bool, ◌&&◌, List, map}
use Rattle.std.specs.List.{list_any}
use Rattle.nft_tree.specs.Tree.{Statement}
use Rattle.packet_sets.specs.declared.packet_set.PacketSet.{PacketSet}
use Rattle.packet_sets.specs.Sets.{DiagramsView, Means, holds}
use Rattle.rule_meaning.specs.declared.facts.Facts.{Facts}
use Rattle.rule_meaning.specs.declared.facts.Interface.{Interface}
use Rattle.rule_meaning.specs.Runs.{Program}
use Rattle.fact_sets.specs.declared.cases.Case.{Case}
use Rattle.fact_sets.specs.declared.written.Written.{Written}
use Rattle.fact_sets.specs.Boxes.{NOTHING}
use Rattle.fact_sets.specs.Cases.{AreCases}
use Rattle.fact_sets.specs.Facts.{facts_of}
use Rattle.rule_sets.specs.Ends.{outcomes_for}
use Rattle.chain_ways.specs.Ways.{Way, WayEnd, comes_to, meets}
use Rattle.chain_sets.specs.declared.visits.RuleSets.{RuleSets}
use Rattle.chain_sets.specs.declared.outcomes.ChainEnd.{ChainEnd}
use Rattle.chain_sets.specs.Ends.{end_of}

-- the packets of the set that come to each rule on these ways, and meet its last statement; and the ends of
-- their ways: a test passes for some end of a packet exactly where it is in the set, and its way ends so
pub record AreOnWays (p : Program Statement) (interfaces : List Interface) (way_of : Facts → Way Statement)
    (old new : DiagramsView) (set : PacketSet) (rules : ℕ → ℕ → RuleSets) (ends : List (Case ChainEnd))
    : Type 0 where
  pub reached : (c n : ℕ) → Means new (rules c n).reached
      (λ packet. holds old set packet && comes_to c n (way_of (facts_of interfaces NOTHING packet)))
  pub met : (c n : ℕ) → Means new (rules c n).met
      (λ packet. holds old set packet && meets p c n (way_of (facts_of interfaces NOTHING packet)))
  pub are : AreCases new ends
  pub they_end : (packet : ℕ → Bool) (test : WayEnd → Bool)
      → list_any test (map (end_of interfaces packet) (outcomes_for new ends packet))
      ≡ (holds old set packet && test (way_of (facts_of interfaces NOTHING packet)).end)

-- the same of the packets of states: by what rules have written of them, a packet comes to the chain with the
-- facts of each state that has it
pub record AreOnWaysFrom (p : Program Statement) (interfaces : List Interface) (way_of : Facts → Way Statement)
    (old new : DiagramsView) (states : List (Case Written)) (rules : ℕ → ℕ → RuleSets)
    (ends : List (Case ChainEnd)) : Type 0 where
  pub reached : (c n : ℕ) → Means new (rules c n).reached (λ packet. list_any
      (λ written. comes_to c n (way_of (facts_of interfaces written packet))) (outcomes_for old states packet))
  pub met : (c n : ℕ) → Means new (rules c n).met (λ packet. list_any
      (λ written. meets p c n (way_of (facts_of interfaces written packet))) (outcomes_for old states packet))
  pub are : AreCases new ends
  pub they_end : (packet : ℕ → Bool) (test : WayEnd → Bool)
      → list_any test (map (end_of interfaces packet) (outcomes_for new ends packet))
      ≡ list_any (λ written. test (way_of (facts_of interfaces written packet)).end)
      (outcomes_for old states packet)
