-- What is looked for on ways, and found in sets of packets.
use Rattle.std.specs.Prelude.{◌≡◌, ℕ, Bool, false, ◌==◌, ◌&&◌, ◌||◌, List}
use Rattle.nft_tree.specs.Tree.{Statement}
use Rattle.packet_sets.specs.Sets.{DiagramsView, IsSet, holds}
use Rattle.rule_meaning.specs.declared.facts.Facts.{Facts}
use Rattle.rule_meaning.specs.declared.facts.Interface.{Interface}
use Rattle.rule_meaning.specs.Runs.{Program}
use Rattle.fact_sets.specs.declared.cases.Case.{Case}
use Rattle.fact_sets.specs.declared.written.Written.{Written}
use Rattle.fact_sets.specs.Facts.{facts_of}
use Rattle.rule_sets.specs.Ends.{rule_end}
use Rattle.chain_ways.specs.Ways.{Visit, Way, WayEnd, comes_to, is_of_rule, meets}
use Rattle.chain_sets.specs.declared.visits.RuleSets.{RuleSets}
use Rattle.chain_sets.specs.steps.Merging.{some_outcome}

-- a visit of rule n of chain c, one that meets the rule's last statement, or an end that passes a test
pub data Look : Type 0 where
  reaches : (c n : ℕ) → Look
  meets_last : (c n : ℕ) → Look
  ends_so : (test : WayEnd → Bool) → Look

module _ (p : Program Statement) where
  -- the way has it
  abbrev pub looks : Look → Way Statement → Bool
  looks (reaches c n) way = comes_to c n way
  looks (meets_last c n) way = meets p c n way
  looks (ends_so test) way = test way.end

  -- the visit is it
  abbrev pub is_seen : Look → Visit Statement → Bool
  is_seen (reaches c n) v = is_of_rule c n v
  is_seen (meets_last c n) v = is_of_rule c n v && (rule_end p c n 1 v.statements v.facts).met
  is_seen (ends_so test) v = false

-- the sets of rules have it for a packet
abbrev pub in_rules : DiagramsView → (ℕ → ℕ → RuleSets) → Look → (ℕ → Bool) → Bool
in_rules d rules (reaches c n) packet = holds d (rules c n).reached packet
in_rules d rules (meets_last c n) packet = holds d (rules c n).met packet
in_rules d rules (ends_so test) packet = false

-- those of rule n of chain c do
abbrev pub in_rule : DiagramsView → ℕ → ℕ → RuleSets → Look → (ℕ → Bool) → Bool
in_rule d c n sets (reaches c' n') packet = ((c == c') && (n == n')) && holds d sets.reached packet
in_rule d c n sets (meets_last c' n') packet = ((c == c') && (n == n')) && holds d sets.met packet
in_rule d c n sets (ends_so test) packet = false

abbrev pub AreRuleSets : DiagramsView → (ℕ → ℕ → RuleSets) → Type 0
AreRuleSets d rules = (c n : ℕ) → IsSet d (rules c n).reached × IsSet d (rules c n).met

-- these packets are added to those of rule n of chain c
pub record AddsRule (old new : DiagramsView) (c n : ℕ) (more : RuleSets) (before after : ℕ → ℕ → RuleSets)
    : Type 0 where
  pub are : AreRuleSets new after
  pub same : (look : Look) (packet : ℕ → Bool)
      → in_rules new after look packet ≡ (in_rules old before look packet || in_rule old c n more look packet)

-- some state that has the packet passes the test, by the facts then
abbrev pub some_state : List Interface → DiagramsView → List (Case Written) → (ℕ → Bool) → (Facts → Bool)
    → Bool
some_state interfaces d states packet test =
    some_outcome d states packet (λ written. test (facts_of interfaces written packet))
