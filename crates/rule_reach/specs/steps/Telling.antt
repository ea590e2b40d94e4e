-- What sets of packets tell of rules and of the ends of ways.
use Rattle.std.specs.Prelude.{◌≡◌, ◌⊎◌, ℕ, Bool, true, false, not, List, is_some}
use Rattle.std.specs.List.{list_any}
use Rattle.packet_sets.specs.declared.packet_set.PacketSet.{PacketSet}
use Rattle.packet_sets.specs.Sets.{DiagramsView, IsSet, holds}
use Rattle.fact_sets.specs.declared.cases.Case.{Case}
use Rattle.rule_sets.specs.Ends.{outcomes_for}
use Rattle.chain_sets.specs.declared.outcomes.ChainEnd.{ChainEnd}
use Rattle.chain_sets.specs.declared.visits.RuleSets.{RuleSets}
use Rattle.rule_reach.specs.declared.answers.Answer.{Answer}
use Rattle.rule_reach.specs.declared.answers.Answer.TheVariants.{Met, NotMatched, NotReached}
use Rattle.rule_reach.specs.declared.answers.RuleReach.{RuleReach}
use Rattle.rule_reach.specs.steps.Answering.{better}

-- some packet passes the test, none does
abbrev pub SomeIn : ((ℕ → Bool) → Bool) → Type 0
SomeIn test = (packet : ℕ → Bool) × (test packet ≡ true)

abbrev pub NoneIn : ((ℕ → Bool) → Bool) → Type 0
NoneIn test = (packet : ℕ → Bool) → test packet ≡ false

-- whether a packet is in the set
abbrev pub HasPacket : DiagramsView → PacketSet → Bool → Type 0
HasPacket d set true = SomeIn (holds d set)
HasPacket d set false = NoneIn (holds d set)

abbrev pub IsAnswerBy : DiagramsView → RuleSets → Answer → Type 0
IsAnswerBy d sets Met = SomeIn (holds d sets.met)
IsAnswerBy d sets NotReached = NoneIn (holds d sets.reached)
IsAnswerBy d sets NotMatched = SomeIn (holds d sets.reached) × NoneIn (holds d sets.met)

abbrev pub AreRuleSets : DiagramsView → (ℕ → ℕ → RuleSets) → Type 0
AreRuleSets d visits = (c n : ℕ) → IsSet d (visits c n).reached × IsSet d (visits c n).met

-- the answer for a base chain of this table with these sets
abbrev pub IsHere : DiagramsView → ℕ → (ℕ → ℕ → RuleSets) → RuleReach → Answer → Type 0
IsHere d table visits r answer =
    ((r.rule.table ≡ table) × IsAnswerBy d (visits r.rule.chain r.rule.rule) answer)
    ⊎ ((r.rule.table ≡ table → ⊥) × (answer ≡ NotReached))

-- it is put together with those so far
pub record IsTold (d : DiagramsView) (table : ℕ) (visits : ℕ → ℕ → RuleSets) (old new : RuleReach)
    : Type 0 where
  pub rule : new.rule ≡ old.rule
  pub answer : Answer
  pub is_here : IsHere d table visits old answer
  pub both : new.answer ≡ better old.answer answer

-- whether there is a packet with an end without a verdict
abbrev pub at_end : DiagramsView → List (Case ChainEnd) → (ℕ → Bool) → Bool
at_end d ends packet = list_any (λ e. not (is_some e.verdict)) (outcomes_for d ends packet)

abbrev pub SomeEnd : DiagramsView → List (Case ChainEnd) → Bool → Type 0
SomeEnd d ends true = SomeIn (at_end d ends)
SomeEnd d ends false = NoneIn (at_end d ends)
