-- The packets of a set, sorted by what a statement does with them. (own)
use Rattle.std.specs.Prelude.{◌≡◌, ℕ, ◌&&◌, not, Bool, cond, List, [], ◌∷◌, Option, Some, None, is_some}
use Rattle.packet_sets.specs.declared.packet_set.PacketSet.{PacketSet}
use Rattle.packet_sets.specs.Sets.{DiagramsView, Means, holds}
use Rattle.fact_sets.specs.declared.cases.Case.{Case}
use Rattle.action_cases.specs.declared.cases.Outcome.{Outcome}
use Rattle.fact_sets.specs.Cases.{AreCases, picked}
use Rattle.rule_sets.specs.Ends.{outcomes_for}

abbrev pub as_list : {V : Type 0} → Option V → List V
as_list None = []
as_list (Some x) = x ∷ []

-- each packet of the set is in exactly one part, with the outcome that the cases have for it; those for which
-- they have none are the rest
pub record AreParts (old new : DiagramsView) (set : PacketSet) (cases parts : List (Case Outcome))
    (rest : PacketSet) : Type 0 where
  pub are : AreCases new parts
  pub same : (packet : ℕ → Bool) → outcomes_for new parts packet
      ≡ cond (holds old set packet) (as_list (picked old cases packet)) []
  pub others : Means new rest
      (λ packet. holds old set packet && not (is_some (picked old cases packet)))
