-- Costs and depths as a ranking, which rules out that a chain reaches itself. (own)
use Rattle.std.specs.Prelude.{◌≡◌, ℕ, ◌+◌, ◌≤◌, List, sum_by, slice_get, Contains, Option, Some, None}
use Rattle.nft_tree.specs.Tree.{Statement, ChainTree, TableTree}
use Rattle.nft_tree.specs.TableItems.{chains_of}
use Rattle.chain_graph.specs.Graph.{greatest}
use Rattle.rule_paths.specs.Paths.{Caller, a_chain, statement_calls}
use Rattle.rule_meaning.specs.declared.facts.Facts.{Facts}
use Rattle.rule_meaning.specs.declared.event.StatementPosition.{StatementPosition}
use Rattle.rule_meaning.specs.declared.event.RuleVerdict.TheVariants.{Jump, Goto}
use Rattle.rule_meaning.specs.Statements.{give}
use Rattle.rule_meaning.specs.Runs.{Program}

module _ {S : Type 0} (p : Program S) where
  -- the statement is one of the chain's
  pub record IsStatementOf (c : ℕ) (s : S) : Type 0 where
    pub rules : List (List S)
    pub has : p.rules_at c ≡ Some rules
    pub rule : List S
    pub in_chain : Contains rules rule
    pub in_rule : Contains rule s

  -- each statement weighs at least 1 plus the cost of its target, a chain costs at least the weight of its
  -- statements, and a jump's target has a smaller depth
  pub record IsRanking (weight : S → ℕ) (cost depth : ℕ → ℕ) : Type 0 where
    pub some : (s : S) → 1 ≤ weight s
    pub sums : (c : ℕ) (rules : List (List S)) → p.rules_at c ≡ Some rules
        → sum_by (sum_by weight) rules ≤ cost c
    pub jumps : (c d : ℕ) (s : S) (at_place : StatementPosition) (f : Facts) → IsStatementOf c s
        → p.effect_of at_place s f ≡ give (Jump d)
        → (cost d + 1 ≤ weight s) × (depth d + 1 ≤ depth c)
    pub gotos : (c d : ℕ) (s : S) (at_place : StatementPosition) (f : Facts) → IsStatementOf c s
        → p.effect_of at_place s f ≡ give (Goto d)
        → (cost d + 1 ≤ weight s) × (depth d ≤ depth c)

-- the weight of a statement: 1 and the greatest cost among its targets
abbrev pub weight_by : (Caller → ℕ) → Statement → ℕ
weight_by cost s = 1 + greatest cost (statement_calls s)

abbrev pub cost_of : (Caller → ℕ) → Option ChainTree → ℕ
cost_of cost None = 0
cost_of cost (Some c) = cost (a_chain c.name)

-- the cost of the chain with index c
abbrev pub chain_cost_by : TableTree → (Caller → ℕ) → ℕ → ℕ
chain_cost_by t cost c = cost_of cost (slice_get (chains_of t) c)
