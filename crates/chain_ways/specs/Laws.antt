-- Runs and ways agree. (own)
use Rattle.std.specs.Prelude.{◌≡◌, ◌↔◌, ℕ, ◌<◌, true, List, [], ◌∷◌, ◌++◌, Contains, Option, Some, None}
use Rattle.std.specs.Option.{option_and_then}
use Rattle.nft_tree.specs.declared.ruleset.RuleNo.{RuleNo}
use Rattle.nft_tree.specs.declared.statement.CounterStart.{CounterStart}
use Rattle.nft_tree.specs.Tree as tree
use Rattle.nft_tree.specs.Tree.{Statement, TableTree}
use Rattle.nft_tree.specs.TableItems.{numbered_from_one}
use Rattle.box_file.specs.Box.{PlantTree}
use Rattle.rule_paths.specs.Paths.{MAX_COST}
use Rattle.rule_check.specs.Chains.{is_terminal}
use Rattle.rule_meaning.specs.declared.facts.Facts.{Facts}
use Rattle.rule_meaning.specs.declared.event.Event.{Event}
use Rattle.rule_meaning.specs.declared.event.Event.TheVariants.{Counted, Logged, TookVerdict}
use Rattle.rule_meaning.specs.declared.event.RuleVerdict.{RuleVerdict}
use Rattle.rule_meaning.specs.declared.event.StatementPosition.{StatementPosition}
use Rattle.rule_meaning.specs.declared.event.RuleVerdict.TheVariants.{Jump, Goto}
use Rattle.rule_meaning.specs.Statements.{give}
use Rattle.rule_meaning.specs.Runs.{Program, table_program, RunResult, Runs, at_rule, rule_no, statement_position}
use Rattle.rule_meaning.specs.Hooks.{BaseChain, HookResult, RunsBaseChain, policy_of, with_policy}
use Rattle.rule_laws.specs.Ranking.{IsStatementOf, IsRanking}
use Rattle.chain_ways.specs.Ways.{Way, way, comes_to, meets, run_result}

-- the program has each chain that its rules jump or go to
pub record HasTargets {S : Type 0} (p : Program S) : Type 0 where
  pub jumps : (c d : ℕ) (s : S) (at_place : StatementPosition) (f : Facts) → IsStatementOf p c s
      → p.effect_of at_place s f ≡ give (Jump d) → (rules : List (List S)) × (p.rules_at d ≡ Some rules)
  pub gotos : (c d : ℕ) (s : S) (at_place : StatementPosition) (f : Facts) → IsStatementOf p c s
      → p.effect_of at_place s f ≡ give (Goto d) → (rules : List (List S)) × (p.rules_at d ≡ Some rules)

-- each run of a chain is along the way through it, if that has more levels than the chain costs
abbrev pub RunsAreWays : Program Statement → Type 0
RunsAreWays p =
    (weight : Statement → ℕ) (cost depth : ℕ → ℕ) → IsRanking p weight cost depth → (c : ℕ)
    (rules : List (List Statement)) → p.rules_at c ≡ Some rules → (levels : ℕ) → cost c < levels → (f : Facts)
    (es : List Event) (o : RunResult)
    → Runs p c 1 (at_rule rules) f es o → o ≡ run_result p (way p levels c f) es

-- and each such way is run, if the program has the chains that it needs
abbrev pub WaysAreRuns : Program Statement → Type 0
WaysAreRuns p =
    (weight : Statement → ℕ) (cost depth : ℕ → ℕ) → IsRanking p weight cost depth → HasTargets p → (c : ℕ)
    (rules : List (List Statement)) → p.rules_at c ≡ Some rules → (levels : ℕ) → cost c < levels → (f : Facts)
    (es : List Event) → Runs p c 1 (at_rule rules) f es (run_result p (way p levels c f) es)

-- the result of a base chain of table `table` is that of the way through it, and then its policy
abbrev pub BaseChainRunsAreWays : PlantTree → List TableTree → BaseChain → TableTree → Type 0
BaseChainRunsAreWays network tables b table =
    (levels : ℕ) → MAX_COST < levels → (f : Facts) (es : List Event) (hook_result : HookResult)
    → RunsBaseChain network tables b f es hook_result
    ↔ (hook_result ≡ with_policy b.number (policy_of b.head)
    (run_result (table_program network b.number.table table)
    (way (table_program network b.number.table table) levels b.number.chain f) es))

-- ---- events

-- the rule that counts or logs the packet, or gives it a verdict
abbrev pub rule_of_event : Event → Option RuleNo
rule_of_event (Counted place) = Some place.rule
rule_of_event (Logged place) = Some place.rule
rule_of_event (TookVerdict rule d) = Some rule
rule_of_event _ = None

-- the statements of rule n of chain c
abbrev pub statements_at : {S : Type 0} → Program S → ℕ → ℕ → Option (List S)
statements_at p c n = option_and_then (λ rules. numbered_from_one rules n) (p.rules_at c)

-- a packet's own events show which rules it comes to on this way, and which it meets
pub record EventsFitWay (p : Program Statement) (way : Way Statement) (events : List Event) : Type 0 where
  -- a rule that counts or logs it, or gives it a verdict, is one that it comes to
  pub active : (c n : ℕ) (e : Event) → Contains events e → rule_of_event e ≡ Some (rule_no p c n)
      → comes_to c n way ≡ true
  -- a rule that begins with a counter counts it where it comes to the rule
  pub counted : (c n : ℕ) (start : Option CounterStart) (rest : List Statement)
      → statements_at p c n ≡ Some (tree.counter start ∷ rest) → comes_to c n way ≡ true
      → Contains events (Counted (statement_position p c n 1))
  -- a rule that gives it a verdict is one that it meets
  pub verdicts : (c n : ℕ) (d : RuleVerdict) → Contains events (TookVerdict (rule_no p c n) d)
      → meets p c n way ≡ true
  -- a rule that ends with a verdict, a verdict map or a NAT statement gives it a verdict where it meets that
  pub given : (c n : ℕ) (before : List Statement) (s : Statement)
      → statements_at p c n ≡ Some (before ++ s ∷ []) → is_terminal s ≡ true → meets p c n way ≡ true
      → (d : RuleVerdict) × Contains events (TookVerdict (rule_no p c n) d)

-- the events of each run through a base chain of table `table`, with none before it, fit the way through it
abbrev pub BaseChainEventsFitWays : PlantTree → List TableTree → BaseChain → TableTree → Type 0
BaseChainEventsFitWays network tables b table =
    (levels : ℕ) → MAX_COST < levels → (f : Facts) (hook_result : HookResult)
    → RunsBaseChain network tables b f [] hook_result
    → EventsFitWay (table_program network b.number.table table)
    (way (table_program network b.number.table table) levels b.number.chain f) hook_result.events
