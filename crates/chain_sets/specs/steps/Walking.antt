-- The packets of states through the rules of chains.
use Rattle.std.specs.Prelude.{◌≡◌, ℕ, ◌≤◌, Bool, ◌||◌, List, [], ◌∷◌, map}
use Rattle.nft_tree.specs.Tree.{RuleTree, Statement}
use Rattle.packet_sets.specs.Sets.{DiagramsView}
use Rattle.rule_meaning.specs.declared.facts.Facts.{Facts}
use Rattle.rule_meaning.specs.declared.facts.Interface.{Interface}
use Rattle.rule_meaning.specs.Runs.{Program}
use Rattle.fact_sets.specs.declared.cases.Case.{Case}
use Rattle.fact_sets.specs.declared.written.Written.{Written}
use Rattle.fact_sets.specs.Cases.{AreCases}
use Rattle.fact_sets.specs.Facts.{facts_of}
use Rattle.rule_sets.specs.Ends.{rule_end}
use Rattle.chain_ways.specs.Ways.{Way, after_verdict, ends_here, visits_before, way}
use Rattle.chain_sets.specs.declared.outcomes.ChainEnd.{ChainEnd}
use Rattle.chain_sets.specs.declared.outcomes.Exit.{Exit}
use Rattle.chain_sets.specs.declared.outcomes.Exit.TheVariants.{Next, Ends}
use Rattle.chain_sets.specs.declared.outcomes.Turn.{Turn}
use Rattle.chain_sets.specs.declared.visits.RuleSets.{RuleSets}
use Rattle.chain_sets.specs.Ends.{end_of}
use Rattle.chain_sets.specs.steps.Merging.{some_outcome}
use Rattle.chain_sets.specs.steps.Looks.{AreRuleSets, Look, in_rules, looks, some_state}
use Rattle.chain_sets.specs.steps.Turns.{some_turn, visit_of}

-- the statements of rules
abbrev pub statements_in : List RuleTree → List (List Statement)
statements_in rules = map (λ r. r.statements) rules

module _ (p : Program Statement) (interfaces : List Interface) where
  -- the way of a packet from an exit on, where `rest` is that from the next rule on
  abbrev pub way_from : (rest : Facts → Way Statement) → (ℕ → Bool) → Exit → Way Statement
  way_from rest packet (Next written) = rest (facts_of interfaces written packet)
  way_from rest packet (Ends e) = ends_here (end_of interfaces packet e)

  -- the way from some exit of the packet has it
  abbrev pub some_exit : DiagramsView → List (Case Exit) → (rest : Facts → Way Statement) → Look
      → (ℕ → Bool) → Bool
  some_exit d exits rest look packet = some_outcome d exits packet (λ x. looks p look (way_from rest packet x))

  -- some end of the packet is it
  abbrev pub some_end : DiagramsView → List (Case ChainEnd) → Look → (ℕ → Bool) → Bool
  some_end d ends look packet = some_outcome d ends packet (λ e. looks p look (ends_here (end_of interfaces packet e)))

  -- the packets of the turns are at these exits, behind the chains that they jump or go to; at least so many levels
  -- of chains are left
  pub record Leave (levels : ℕ) (old new : DiagramsView) (turns : List (Case Turn)) (exits : List (Case Exit))
      (before after : ℕ → ℕ → RuleSets) : Type 0 where
    pub are : AreCases new exits
    pub rules_are : AreRuleSets new after
    pub same : (l : ℕ) → levels ≤ l → (rest : Facts → Way Statement) (look : Look) (packet : ℕ → Bool)
        → (in_rules new after look packet || some_exit new exits rest look packet)
        ≡ (in_rules old before look packet || some_turn interfaces old turns packet
        (λ v f. looks p look (after_verdict (way p l) rest v f)))

  -- the packets of the states are at these exits behind rule n of chain c
  pub record Pass (levels c n : ℕ) (ss : List Statement) (old new : DiagramsView) (states : List (Case Written))
      (exits : List (Case Exit)) (before after : ℕ → ℕ → RuleSets) : Type 0 where
    pub are : AreCases new exits
    pub rules_are : AreRuleSets new after
    pub same : (l : ℕ) → levels ≤ l → (rest : Facts → Way Statement) (look : Look) (packet : ℕ → Bool)
        → (in_rules new after look packet || some_exit new exits rest look packet)
        ≡ (in_rules old before look packet || some_state interfaces old states packet
        (λ f. looks p look (visits_before (visit_of c n ss f ∷ [])
        (after_verdict (way p l) rest (rule_end p c n 1 ss f).verdict (rule_end p c n 1 ss f).facts))))

  -- the ways of the states' packets through chain c have these ends
  pub record Walk (levels c : ℕ) (old new : DiagramsView) (states : List (Case Written))
      (ends : List (Case ChainEnd)) (before after : ℕ → ℕ → RuleSets) : Type 0 where
    pub are : AreCases new ends
    pub rules_are : AreRuleSets new after
    pub same : (l : ℕ) → levels ≤ l → (look : Look) (packet : ℕ → Bool)
        → (in_rules new after look packet || some_end new ends look packet)
        ≡ (in_rules old before look packet
        || some_state interfaces old states packet (λ f. looks p look (way p l c f)))
