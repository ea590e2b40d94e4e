-- Chains in one another: how far jumps and gotos lead from a chain (nft(8), "Verdict statement").
use Rattle.std.specs.Prelude.{◌≡◌, ℕ, ◌+◌, ◌<◌, Bool, true, false, List, Contains, Some, length}
use Rattle.nft_tree.specs.Tree.{TableTree}
use Rattle.box_file.specs.Box.{PlantTree}
use Rattle.chain_graph.specs.Graph.{Call, IsPath}
use Rattle.rule_meaning.specs.declared.facts.Facts.{Facts}
use Rattle.rule_meaning.specs.declared.event.RuleVerdict.{RuleVerdict}
use Rattle.rule_meaning.specs.declared.event.RuleVerdict.TheVariants.{Jump, Goto}
use Rattle.rule_meaning.specs.Runs.{Program}
use Rattle.rule_meaning.specs.Hooks.{BaseChain}
use Rattle.rule_sets.specs.Ends.{rule_end}
use Rattle.chain_ways.specs.BaseWays.{program_at}
use Rattle.chain_ways.specs.Laws.{statements_at}

-- the verdict by which a rule calls a chain, that with this index
abbrev pub verdict_by : Bool → ℕ → RuleVerdict
verdict_by true chain = Jump chain
verdict_by false chain = Goto chain

abbrev pub verdict_of : Call ℕ → RuleVerdict
verdict_of call = verdict_by call.is_jump call.to

module _ {S : Type 0} (p : Program S) where
  -- a rule of chain c gives this jump or goto, by its verdict or an element of its verdict map, to a packet that
  -- comes to it with some facts
  pub record Leads (c : ℕ) (call : Call ℕ) : Type 0 where
    pub rule : ℕ
    pub statements : List S
    pub stands : statements_at p c rule ≡ Some statements
    pub facts : Facts
    pub gives : (rule_end p c rule 1 statements facts).verdict ≡ Some (verdict_of call)

  -- a path from chain c on through more than so many chains, c included: a rule of each leads to the next
  pub record NestsOver (most c : ℕ) : Type 0 where
    pub to : ℕ
    pub along : List (Call ℕ)
    pub path : IsPath Leads c along to
    pub over : most < 1 + length along

-- there is such a path from one of these base chains of a ruleset
pub record SomeNestsOver (most : ℕ) (network : PlantTree) (tables : List TableTree) (bases : List BaseChain)
    : Type 0 where
  pub base : BaseChain
  pub member : Contains bases base
  pub nests : NestsOver (program_at network tables base.number.table) most base.number.chain
