-- The packets of a stage through one base chain.
use Rattle.std.specs.Prelude.{◌≡◌, ℕ, Bool, List}
use Rattle.nft_tree.specs.Tree.{TableTree}
use Rattle.box_file.specs.Box.{PlantTree}
use Rattle.packet_sets.specs.Sets.{DiagramsView}
use Rattle.rule_meaning.specs.declared.facts.Facts.{Facts}
use Rattle.rule_meaning.specs.declared.facts.Interface.{Interface}
use Rattle.rule_meaning.specs.Runs.{table_program}
use Rattle.rule_meaning.specs.Hooks.{BaseChain, policy_of}
use Rattle.fact_sets.specs.declared.cases.Case.{Case}
use Rattle.fact_sets.specs.Cases.{AreCases}
use Rattle.chain_ways.specs.Ways.{way}
use Rattle.chain_ways.specs.BaseWays.{LEVELS, StageEnd, behind_end, by_policy}
use Rattle.chain_sets.specs.steps.Merging.{some_outcome}
use Rattle.stage_sets.specs.declared.outcome.StageOutcome.{StageOutcome}
use Rattle.stage_sets.specs.Ends.{end_with}

-- the end of a packet's way through a base chain of this table
abbrev pub end_in : PlantTree → TableTree → BaseChain → Facts → StageEnd
end_in network names b f =
    by_policy (policy_of b.head) (way (table_program network b.number.table names) LEVELS b.number.chain f).end

-- with one more base chain, where `end` is the end of a packet's way through it, these outcomes become those
pub record Advances (interfaces : List Interface) (end : Facts → StageEnd) (old new : DiagramsView)
    (before after : List (Case StageOutcome)) : Type 0 where
  pub are : AreCases new after
  pub same : (packet : ℕ → Bool) (test : StageEnd → Bool)
      → some_outcome new after packet (λ o. test (end_with interfaces packet o))
      ≡ some_outcome old before packet (λ o. test (behind_end end (end_with interfaces packet o)))
