-- Chains in one another in the rulesets that are compared, or in one that is assumed. (own)
use Rattle.std.specs.Prelude.{ℕ, List, Option, Some, None}
use Rattle.std.specs.Borrow.{Bor}
use Rattle.nft_tree.specs.Tree.{TableTree}
use Rattle.box_file.specs.Box.{PlantTree}
use Rattle.rule_check.specs.Checked.{CheckedTree}
use Rattle.rule_meaning.specs.Hooks.{base_chains_of}
use Rattle.chain_ways.specs.BaseWays.{filters_of}
use Rattle.chain_ways.specs.Nesting.{SomeNestsOver}

-- more than so many, from a filter chain of the ruleset on, where one is assumed
abbrev pub AssumedNestsOver : ℕ → Option (Bor CheckedTree) → Type 0
AssumedNestsOver most None = ⊥
AssumedNestsOver most (Some filter) =
    SomeNestsOver most filter.now.network filter.now.rules (filters_of filter.now.rules)

-- more than so many, from a base chain of the old ruleset on or of the new one, or in the assumed ruleset
pub data OneNestsOver (most : ℕ) (network : PlantTree) (old new : List TableTree)
    (assumed : Option (Bor CheckedTree)) : Type 0 where
  in_old : SomeNestsOver most network old (base_chains_of old) → OneNestsOver most network old new assumed
  in_new : SomeNestsOver most network new (base_chains_of new) → OneNestsOver most network old new assumed
  in_assumed : AssumedNestsOver most assumed → OneNestsOver most network old new assumed
