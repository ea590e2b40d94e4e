-- The packets of states through one rule.
use Rattle.std.specs.Prelude.{◌≡◌, ℕ, Bool, ◌||◌, List, Option}
use Rattle.nft_tree.specs.Tree.{Statement}
use Rattle.packet_sets.specs.Sets.{DiagramsView}
use Rattle.rule_meaning.specs.declared.event.RuleVerdict.{RuleVerdict}
use Rattle.rule_meaning.specs.declared.facts.Facts.{Facts}
use Rattle.rule_meaning.specs.declared.facts.Interface.{Interface}
use Rattle.rule_meaning.specs.Runs.{Program}
use Rattle.fact_sets.specs.declared.cases.Case.{Case}
use Rattle.fact_sets.specs.declared.written.Written.{Written}
use Rattle.fact_sets.specs.Cases.{AreCases}
use Rattle.fact_sets.specs.Facts.{facts_of}
use Rattle.rule_sets.specs.Ends.{rule_end}
use Rattle.chain_ways.specs.Ways.{Visit}
use Rattle.chain_sets.specs.declared.outcomes.Turn.{Turn}
use Rattle.chain_sets.specs.declared.visits.RuleSets.{RuleSets}
use Rattle.chain_sets.specs.steps.Merging.{some_outcome}
use Rattle.chain_sets.specs.steps.Looks.{AreRuleSets, Look, in_rules, is_seen, some_state}

-- some turn that has the packet passes the test
abbrev pub some_turn : List Interface → DiagramsView → List (Case Turn) → (ℕ → Bool)
    → (Option RuleVerdict → Facts → Bool) → Bool
some_turn interfaces d turns packet test =
    some_outcome d turns packet (λ t. test t.verdict (facts_of interfaces t.written packet))

-- a visit of the rule
abbrev pub visit_of : ℕ → ℕ → List Statement → Facts → Visit Statement
visit_of c n ss f = record { chain = c; rule = n; statements = ss; facts = f }

-- the packets of the states come to rule n of chain c, which has these statements and ends so
pub record GoThrough (p : Program Statement) (interfaces : List Interface) (c n : ℕ) (ss : List Statement)
    (old new : DiagramsView) (states : List (Case Written)) (turns : List (Case Turn))
    (before after : ℕ → ℕ → RuleSets) : Type 0 where
  pub are : AreCases new turns
  pub rules_are : AreRuleSets new after
  pub they_end : (packet : ℕ → Bool) (test : Option RuleVerdict → Facts → Bool)
      → some_turn interfaces new turns packet test ≡ some_state interfaces old states packet
      (λ f. test (rule_end p c n 1 ss f).verdict (rule_end p c n 1 ss f).facts)
  pub visits : (look : Look) (packet : ℕ → Bool) → in_rules new after look packet
      ≡ (in_rules old before look packet
      || some_state interfaces old states packet (λ f. is_seen p look (visit_of c n ss f)))
