-- Differences of two rulesets in one stage, by the outcomes of both.
use Rattle.std.specs.Prelude.{◌≡◌, ◌⊎◌, ◌&&◌, not, ℕ, Bool, true, false, List, [], ◌∷◌, ◌++◌, All, Contains, Some, slice_get}
use Rattle.std.specs.List.{list_any}
use Rattle.packet_sets.specs.declared.packet_set.PacketSet.{PacketSet}
use Rattle.packet_sets.specs.Sets.{DiagramsView, IsSet, Means, holds}
use Rattle.rule_meaning.specs.declared.stage.HookStage.{HookStage}
use Rattle.fact_sets.specs.declared.cases.Case.{Case}
use Rattle.rule_sets.specs.Ends.{outcomes_for}
use Rattle.stage_sets.specs.declared.outcome.StageOutcome.{StageOutcome}
use Rattle.ruleset_diff.specs.declared.differences.Difference.{Difference}
use Rattle.ruleset_diff.specs.steps.Pieces.{SameOutcome, some_has}

-- one of the differences has the packet
abbrev pub some_differs : DiagramsView → List Difference → (ℕ → Bool) → Bool
some_differs d its packet = list_any (λ it. holds d it.set packet) its

-- one of the cases has the packet
abbrev pub some_case : DiagramsView → List (Case StageOutcome) → (ℕ → Bool) → Bool
some_case d cases packet = list_any (λ c. holds d c.set packet) cases

-- some packet is in the difference's set, and each is in cases of both rulesets with its outcomes, by which it
-- ends differently
pub record IsPair (d : DiagramsView) (stage : HookStage) (old new : List (Case StageOutcome)) (it : Difference)
    : Type 0 where
  pub here : it.stage ≡ stage
  pub set : IsSet d it.set
  pub example : (packet : ℕ → Bool) × (holds d it.set packet ≡ true)
  pub by_old : (packet : ℕ → Bool) → holds d it.set packet ≡ true → Contains (outcomes_for d old packet) it.old
  pub by_new : (packet : ℕ → Bool) → holds d it.set packet ≡ true → Contains (outcomes_for d new packet) it.new
  pub differ : (packet : ℕ → Bool) → holds d it.set packet ≡ true → SameOutcome it.old it.new packet → ⊥

-- the packet ends by an outcome of the new ruleset as by this one of the old, or is in one of the differences
abbrev pub IsTold : DiagramsView → StageOutcome → List (Case StageOutcome) → List Difference → (ℕ → Bool)
    → Type 0
IsTold d old new its packet =
    ((o : StageOutcome) × Contains (outcomes_for d new packet) o × SameOutcome old o packet)
    ⊎ (some_differs d its packet ≡ true)

-- ---- two cases

-- a difference by these two outcomes was added for each of the sets that has a packet
pub record AddsSome (d : DiagramsView) (stage : HookStage) (old new : StageOutcome) (sets : List PacketSet)
    (before after : List Difference) : Type 0 where
  pub more : List Difference
  pub added : after ≡ before ++ more
  pub here : All (λ it. it.stage ≡ stage) more
  pub by_old : All (λ it. it.old ≡ old) more
  pub by_new : All (λ it. it.new ≡ new) more
  pub are_sets : All (λ it. IsSet d it.set) more
  pub examples : All (λ it. (packet : ℕ → Bool) × (holds d it.set packet ≡ true)) more
  pub among : All (λ it. Contains sets it.set) more
  pub same : (packet : ℕ → Bool) → some_differs d more packet ≡ some_has d sets packet

-- differences of the packets that both cases have were added; those packets aren't left
pub record AddsMet (d e : DiagramsView) (stage : HookStage) (old new : Case StageOutcome)
    (before after : List Difference) (rest : PacketSet) : Type 0 where
  pub more : List Difference
  pub added : after ≡ before ++ more
  pub pairs : All (IsPair e stage (old ∷ []) (new ∷ [])) more
  pub told : (packet : ℕ → Bool) → holds d old.set packet ≡ true → holds d new.set packet ≡ true
      → IsTold e old.outcome (new ∷ []) more packet
  pub left : Means e rest (λ packet. holds d old.set packet && not (holds d new.set packet))

-- ---- one case of the old ruleset

-- the packets that aren't left of the case are told
pub record IsTried (d : DiagramsView) (stage : HookStage) (old : Case StageOutcome) (new : List (Case StageOutcome))
    (left : PacketSet) (before after : List Difference) : Type 0 where
  pub old_set : IsSet d old.set
  pub more : List Difference
  pub added : after ≡ before ++ more
  pub pairs : All (IsPair d stage (old ∷ []) new) more
  pub left_set : IsSet d left
  pub within : (packet : ℕ → Bool) → holds d left packet ≡ true → holds d old.set packet ≡ true
  pub told : (packet : ℕ → Bool) → holds d old.set packet ≡ true → holds d left packet ≡ false
      → IsTold d old.outcome new more packet

-- the packets that are left after the case with this index: none of its own
pub record IsRest (d e : DiagramsView) (left : PacketSet) (new : List (Case StageOutcome)) (index : ℕ)
    (rest : PacketSet) : Type 0 where
  pub set : IsSet e rest
  pub within : (packet : ℕ → Bool) → holds e rest packet ≡ true → holds d left packet ≡ true
  pub none : (c : Case StageOutcome) → slice_get new index ≡ Some c
      → (packet : ℕ → Bool) → holds e rest packet ≡ true → holds d c.set packet ≡ false

-- all its packets that the new ruleset has a case for are told
pub record IsCompared (d : DiagramsView) (stage : HookStage) (old : Case StageOutcome)
    (new : List (Case StageOutcome)) (before after : List Difference) : Type 0 where
  pub more : List Difference
  pub added : after ≡ before ++ more
  pub pairs : All (IsPair d stage (old ∷ []) new) more
  pub told : (packet : ℕ → Bool) → holds d old.set packet ≡ true → some_case d new packet ≡ true
      → IsTold d old.outcome new more packet

-- ---- all cases

-- packets of these cases of the old ruleset that the new one has a case for are told
pub record AreCompared (d : DiagramsView) (stage : HookStage) (old new : List (Case StageOutcome))
    (before after : List Difference) : Type 0 where
  pub more : List Difference
  pub added : after ≡ before ++ more
  pub pairs : All (IsPair d stage old new) more
  pub told : (packet : ℕ → Bool) (o : StageOutcome) → Contains (outcomes_for d old packet) o
      → some_case d new packet ≡ true → IsTold d o new more packet
