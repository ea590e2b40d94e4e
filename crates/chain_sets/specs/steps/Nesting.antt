-- Where walks are too deep: rules lead to chains from which on too many lie in one another.
use Rattle.std.specs.Prelude.{◌≡◌, ℕ, List, Contains, Option, Some}
use Rattle.nft_tree.specs.Tree.{Statement}
use Rattle.chain_graph.specs.Graph.{Call}
use Rattle.rule_meaning.specs.declared.event.RuleVerdict.{RuleVerdict}
use Rattle.rule_meaning.specs.declared.facts.Facts.{Facts}
use Rattle.rule_meaning.specs.Runs.{Program}
use Rattle.fact_sets.specs.declared.cases.Case.{Case}
use Rattle.rule_sets.specs.Ends.{rule_end}
use Rattle.chain_ways.specs.Nesting.{NestsOver, verdict_of}
use Rattle.chain_sets.specs.declared.outcomes.Turn.{Turn}

module _ (p : Program Statement) (levels : ℕ) where
  -- the verdict is a jump or goto to a chain from which on more than so many chains lie in one another
  pub record VerdictNests (verdict : Option RuleVerdict) : Type 0 where
    pub call : Call ℕ
    pub is : verdict ≡ Some (verdict_of call)
    pub nests : NestsOver p levels call.to

  -- that of one of these turns is
  pub record SomeTurnNests (turns : List (Case Turn)) : Type 0 where
    pub turn : Case Turn
    pub among : Contains turns turn
    pub nests : VerdictNests turn.outcome.verdict

  -- that of rule n of chain c, which has these statements, is with some facts
  pub record RuleNests (c n : ℕ) (ss : List Statement) : Type 0 where
    pub facts : Facts
    pub nests : VerdictNests (rule_end p c n 1 ss facts).verdict
