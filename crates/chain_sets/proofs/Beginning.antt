-- The ways of the packets of states, where the walk has begun with them.
use Rattle.std.proofs.Common.{◌≡◌, ◌∙◌, ◌&&◌, ◌||◌, ◌≤◌, ℕ, List, [], ◌∷◌, Bool, false, refl, ap, sym, subst}
use Rattle.nft_tree.specs.Tree.{Statement}
use Rattle.packet_sets.specs.declared.packet_set.PacketSet.{PacketSet}
use Rattle.packet_sets.specs.Sets.{DiagramsView, IsSet, Means, holds}
use Rattle.rule_meaning.specs.declared.facts.Facts.{Facts}
use Rattle.rule_meaning.specs.declared.facts.Interface.{Interface}
use Rattle.rule_meaning.specs.Runs.{Program}
use Rattle.fact_sets.specs.declared.cases.Case.{Case}
use Rattle.fact_sets.specs.declared.written.Written.{Written}
use Rattle.fact_sets.specs.Boxes.{NOTHING}
use Rattle.fact_sets.specs.Facts.{facts_of}
use Rattle.rule_sets.specs.Ends.{outcomes_for}
use Rattle.chain_ways.specs.Ways.{Way, comes_to, meets, way}
use Rattle.chain_sets.specs.ChainSets.{AreOnWays, AreOnWaysFrom}
use Rattle.chain_sets.specs.declared.outcomes.ChainEnd.{ChainEnd}
use Rattle.chain_sets.specs.declared.visits.RuleSets.{RuleSets}
use Rattle.chain_sets.specs.Ends.{end_of}
use Rattle.chain_sets.specs.RuleSets.{no_packet, no_packets}
use Rattle.chain_sets.specs.steps.Looks.{AreRuleSets, Look, ends_so, in_rules, looks, meets_last, reaches, some_state}
use Rattle.chain_sets.specs.steps.Merging.{some_outcome}
use Rattle.chain_sets.specs.steps.Walking.{Walk, some_end}
use Rattle.chain_sets.proofs.Cases.{or-none, some-one}
use Rattle.chain_sets.proofs.Passing.{any-map}
use Rattle.chain_sets.proofs.Levels.{never}

pub none-are-sets : (d : DiagramsView) (rules : ℕ → ℕ → RuleSets) → ((c n : ℕ) → rules c n ≡ no_packets)
    → Means d no_packet (λ packet. false) → AreRuleSets d rules
none-are-sets d rules none empty = λ c n. (
  subst (λ s. IsSet d s.reached) (sym (none c n)) empty.is_set,
  subst (λ s. IsSet d s.met) (sym (none c n)) empty.is_set,
)

-- before the walk no rule has a packet
module _ (p : Program Statement) (interfaces : List Interface) (levels chain : ℕ) (d0 d : DiagramsView) (states : List (Case Written))
    (ends : List (Case ChainEnd)) (before after : ℕ → ℕ → RuleSets)
    (none : (c n : ℕ) → before c n ≡ no_packets) (empty : Means d0 no_packet (λ packet. false))
    (walk : Walk p interfaces levels chain d0 d states ends before after) (l : ℕ) (deep : levels ≤ l) where
  none-before : (look : Look) (f : ℕ → Bool) → in_rules d0 before look f ≡ false
  none-before (reaches c n) f = ap (λ s. holds d0 s.reached f) (none c n) ∙ empty.same f
  none-before (meets_last c n) f = ap (λ s. holds d0 s.met f) (none c n) ∙ empty.same f
  none-before (ends_so test) f = refl

  found : (look : Look) (f : ℕ → Bool) → (in_rules d after look f || some_end p interfaces d ends look f)
      ≡ some_state interfaces d0 states f (λ g. looks p look (way p l chain g))
  found look f =
      walk.same l deep look f
      ∙ ap (λ b. b || some_state interfaces d0 states f (λ g. looks p look (way p l chain g))) (none-before look f)

  pub on_ways_from : AreOnWaysFrom p interfaces (way p l chain) d0 d states after ends
  on_ways_from = record {
    reached = λ c n. record {
      is_set = (walk.rules_are c n).0;
      same = λ f. sym (or-none (holds d (after c n).reached f)) ∙ ap (λ b. holds d (after c n).reached f || b) (sym (never d ends f))
          ∙ found (reaches c n) f;
    };
    met = λ c n. record {
      is_set = (walk.rules_are c n).1;
      same = λ f. sym (or-none (holds d (after c n).met f)) ∙ ap (λ b. holds d (after c n).met f || b) (sym (never d ends f))
          ∙ found (meets_last c n) f;
    };
    are = walk.are;
    they_end = λ f test. any-map (end_of interfaces f) test (outcomes_for d ends f) ∙ found (ends_so test) f;
  }

-- one state, of which nothing is written
pub on_ways : (p : Program Statement) (interfaces : List Interface) (way_of : Facts → Way Statement) (d0 d : DiagramsView) (set : PacketSet)
    (rules : ℕ → ℕ → RuleSets) (ends : List (Case ChainEnd))
    → AreOnWaysFrom p interfaces way_of d0 d (record { set = set; outcome = NOTHING } ∷ []) rules ends
    → AreOnWays p interfaces way_of d0 d set rules ends
on_ways p interfaces way_of d0 d set rules ends from = record {
  reached = λ c n. record {
    is_set = (from.reached c n).is_set;
    same = λ f. (from.reached c n).same f ∙ one f (λ w. comes_to c n (way_of (facts_of interfaces w f)));
  };
  met = λ c n. record {
    is_set = (from.met c n).is_set;
    same = λ f. (from.met c n).same f ∙ one f (λ w. meets p c n (way_of (facts_of interfaces w f)));
  };
  are = from.are;
  they_end = λ f test. from.they_end f test ∙ one f (λ w. test (way_of (facts_of interfaces w f)).end);
}
  where
    one : (f : ℕ → Bool) (test : Written → Bool)
        → some_outcome d0 (record { set = set; outcome = NOTHING } ∷ []) f test ≡ (holds d0 set f && test NOTHING)
    one f test = some-one d0 (record { set = set; outcome = NOTHING }) f test
