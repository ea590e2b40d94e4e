-- What packets do at each rule of a ruleset, and whether a policy applies to any. A packet is one that can
-- come to a base chain, whatever other base chains did before. (own, but for what the ways of packets are)
use Rattle.std.specs.Prelude.{◌≡◌, ℕ, suc, ◌+◌, ◌==◌, ◌&&◌, Bool, true, false, List, [], ◌∷◌, ◌++◌, filter}
use Rattle.std.specs.Prelude.{Contains}
use Rattle.nft_tree.specs.declared.ruleset.RuleNo.{RuleNo}
use Rattle.nft_tree.specs.Tree.{ChainTree, RuleTree, TableTree}
use Rattle.nft_tree.specs.TableItems.{chains_of}
use Rattle.box_file.specs.Box.{PlantTree}
use Rattle.rule_meaning.specs.declared.facts.Facts.{Facts}
use Rattle.rule_meaning.specs.Hooks.{BaseChain, base_chains_of}
use Rattle.fact_sets.specs.Boxes.{IsOfBox}
use Rattle.rule_sets.specs.Interfaces.{interfaces_of}
use Rattle.chain_ways.specs.Ways.{WayEnd, comes_to, ended, meets, over}
use Rattle.chain_ways.specs.BaseWays.{base_way, program_at}
use Rattle.rule_reach.specs.declared.answers.Answer.{Answer}
use Rattle.rule_reach.specs.declared.answers.Answer.TheVariants.{Met, NotMatched, NotReached}
use Rattle.rule_reach.specs.declared.answers.PolicyReach.{PolicyReach}
use Rattle.coming_sets.specs.Bases.{runs}
use Rattle.coming_sets.specs.Coming.{can_come}

-- ---- all rules of a ruleset, in text order

abbrev pub rules_of_chain : ℕ → ℕ → ℕ → List RuleTree → List RuleNo
rules_of_chain table chain number [] = []
rules_of_chain table chain number (r ∷ rs) =
    record { table = table; chain = chain; rule = number } ∷ rules_of_chain table chain (number + 1) rs

-- of these chains of a table, of which the first has this index
abbrev pub rules_of_chains : ℕ → ℕ → List ChainTree → List RuleNo
rules_of_chains table chain [] = []
rules_of_chains table chain (c ∷ cs) =
    rules_of_chain table chain 1 c.rules ++ rules_of_chains table (suc chain) cs

abbrev pub rules_of_tables : ℕ → List TableTree → List RuleNo
rules_of_tables table [] = []
rules_of_tables table (t ∷ ts) = rules_of_chains table 0 (chains_of t) ++ rules_of_tables (suc table) ts

abbrev pub rules_of : List TableTree → List RuleNo
rules_of = rules_of_tables 0

-- ---- base chains to which packets come

-- in text order
abbrev pub run_chains : List TableTree → List BaseChain
run_chains tables = filter runs (base_chains_of tables)

-- ---- packets that come

-- a packet with these facts comes to the base chain
pub record Comes (network : PlantTree) (b : BaseChain) (f : Facts) : Type 0 where
  pub of_box : IsOfBox (interfaces_of network) f
  pub can : can_come b f ≡ true

-- ---- what packets do

abbrev pub is_end : WayEnd → Bool
is_end (ended f) = true
is_end (over verdict f) = false

module _ (network : PlantTree) (tables : List TableTree) where
  -- in the base chain a packet with these facts comes to the rule
  abbrev pub comes_at : RuleNo → BaseChain → Facts → Bool
  comes_at r b f = (b.number.table == r.table) && comes_to r.chain r.rule (base_way network tables b f)

  -- and meets its last statement
  abbrev pub meets_at : RuleNo → BaseChain → Facts → Bool
  meets_at r b f =
      (b.number.table == r.table)
      && meets (program_at network tables b.number.table) r.chain r.rule (base_way network tables b f)

  -- it comes to the base chain's end, so that its policy applies
  abbrev pub ends_at : BaseChain → Facts → Bool
  ends_at b f = is_end (base_way network tables b f).end

  -- some packet that comes to one of the base chains passes the test
  pub record SomePacket (bases : List BaseChain) (test : BaseChain → Facts → Bool) : Type 0 where
    pub base : BaseChain
    pub among : Contains bases base
    pub facts : Facts
    pub comes : Comes network base facts
    pub passes : test base facts ≡ true

  abbrev pub NoPacket : List BaseChain → (BaseChain → Facts → Bool) → Type 0
  NoPacket bases test = (base : BaseChain) (facts : Facts) → Contains bases base → Comes network base facts
      → test base facts ≡ false

  -- the answer holds of the rule, as far as these base chains are concerned
  abbrev pub IsAnswer : List BaseChain → RuleNo → Answer → Type 0
  IsAnswer bases r Met = SomePacket bases (meets_at r)
  IsAnswer bases r NotReached = NoPacket bases (comes_at r)
  IsAnswer bases r NotMatched = SomePacket bases (comes_at r) × NoPacket bases (meets_at r)

  -- whether a base chain's policy applies to some packet
  abbrev pub Applies : BaseChain → Bool → Type 0
  Applies b true = SomePacket (b ∷ []) ends_at
  Applies b false = NoPacket (b ∷ []) ends_at

  -- it is told of one of these base chains
  pub record IsPolicyReach (bases : List BaseChain) (p : PolicyReach) : Type 0 where
    pub base : BaseChain
    pub among : Contains bases base
    pub has_number : base.number ≡ p.chain
    pub applies : Applies base p.applies
