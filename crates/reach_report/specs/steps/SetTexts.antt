-- Sets of packets of which it is told (own).
use Rattle.std.specs.Prelude.{ℕ, All}
use Rattle.packet_sets.specs.Sets.{DiagramsView, IsSet}
use Rattle.chain_sets.specs.RuleSets.{sets_of}
use Rattle.rule_reach.specs.declared.sets.BaseSets.{BaseSets}
use Rattle.rule_reach.specs.declared.sets.ReachSets.{ReachSets}

-- the sets of a base chain are of these diagrams
pub record IsOfSets (d : DiagramsView) (base : BaseSets) : Type 0 where
  pub reached : (c n : ℕ) → IsSet d (sets_of base.rules c n).reached
  pub met : (c n : ℕ) → IsSet d (sets_of base.rules c n).met
  pub ends : All (λ e. IsSet d e.set) base.ends.items

abbrev pub HasSets : ReachSets → Type 0
HasSets sets = All (IsOfSets sets.diagrams) sets.bases.items
