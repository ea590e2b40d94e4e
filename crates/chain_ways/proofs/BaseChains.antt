-- Base chains of well-formed rulesets run along their ways.
use Rattle.std.proofs.Common.{◌≡◌, ◌⊎◌, ℕ, ◌<◌, List, slice_get, slice_index, Contains, Some, unwrap_or, sym, ap, ◌∙◌, subst, arith}
use Rattle.nft_tree.specs.Tree.{Statement, TableTree}
use Rattle.box_file.specs.Box.{PlantTree}
use Rattle.rule_paths.specs.Paths.{Caller, AreCosts, AreAllCosts, Cycles, MAX_COST}
use Rattle.rule_paths.specs.Findings.{AreChainDepths}
use Rattle.rule_check.specs.declared.fault.CheckFault.TheVariants as faults
use Rattle.rule_check.specs.WellFormed.{WellFormed}
use Rattle.rule_meaning.specs.declared.facts.Facts.{Facts}
use Rattle.rule_meaning.specs.declared.event.Event.{Event}
use Rattle.rule_meaning.specs.Runs.{Program, table_program, Runs, at_rule}
use Rattle.rule_meaning.specs.Hooks.{BaseChain, base_chains_of, HookResult, RunsBaseChain, policy_of, with_policy}
use Rattle.rule_laws.specs.Ranking.{IsRanking, weight_by, chain_cost_by}
use Rattle.rule_laws.specs.Terminates.{Terminates}
use Rattle.rule_sets.specs.Ends.{RunsToItsEnd}
use Rattle.chain_ways.specs.Ways.{way, run_result}
use Rattle.chain_ways.specs.Laws.{BaseChainRunsAreWays}
use Rattle.chain_ways.proofs.Along.{Falls, along}
use Rattle.chain_ways.proofs.Lists.{got}
use Rattle.chain_ways.proofs.Costs.{all_costs, all_costs_are, base_cheap, falling}

-- ---- the laws of lower crates

abbrev pub CyclesDecidable : Type 0
CyclesDecidable = (tables : List TableTree) → Cycles tables ⊎ (Cycles tables → ⊥)

abbrev pub SomeCosts : Type 0
SomeCosts = (tables : List TableTree) (t : TableTree) → (Cycles tables → ⊥) → Contains tables t → (cost : Caller → ℕ) × AreCosts t cost

abbrev pub CostsRank : Type 0
CostsRank =
    (tables : List TableTree) (network : PlantTree) → WellFormed tables network → (number : ℕ) (t : TableTree)
    → slice_get tables number ≡ Some t → (cost : Caller → ℕ) → AreCosts t cost → (depths : List ℕ)
    → AreChainDepths t depths
    → IsRanking (table_program network number t) (weight_by cost) (chain_cost_by t cost) (λ c. slice_index depths c)

abbrev pub BaseTerminates : Type 0
BaseTerminates =
    (tables : List TableTree) (network : PlantTree) → WellFormed tables network → (b : BaseChain)
    → Contains (base_chains_of tables) b → Terminates (RunsBaseChain network tables b)

module _ (to_end : (p : Program Statement) → RunsToItsEnd p) (decide : CyclesDecidable) (some_costs : SomeCosts) (rank : CostsRank)
    (terminate : BaseTerminates) (tables : List TableTree) (network : PlantTree) (well : WellFormed tables network) (b : BaseChain)
    (has : Contains (base_chains_of tables) b) (t : TableTree) (at : slice_get tables b.number.table ≡ Some t) where
  abbrev p : Program Statement
  p = table_program network b.number.table t

  abbrev cost : TableTree → Caller → ℕ
  cost = all_costs decide some_costs

  are : AreAllCosts tables cost
  are = all_costs_are decide some_costs tables (well faults.Cycle)

  contained : Contains tables t
  contained = got tables b.number.table t at

  falls : Falls p (chain_cost_by t (cost t))
  falls = falling t (λ deep. well faults.TooDeep (record { table = t; member = contained; deep = deep })) p (weight_by (cost t))
      (chain_cost_by t (cost t)) (rank tables network well b.number.table t at (cost t) (are t contained))

  module _ (levels : ℕ) (many : MAX_COST < levels) (f : Facts) (es : List Event) where
    abbrev result_of_way : HookResult
    result_of_way = with_policy b.number (policy_of b.head) (run_result p (way p levels b.number.chain f) es)

    is_way : (r : HookResult) → RunsBaseChain network tables b f es r → r ≡ result_of_way
    is_way r run =
        let same : run.table ≡ t = ap (λ o. unwrap_or o t) (sym run.stands ∙ at) in
        let stands = subst (λ x. (table_program network b.number.table x).rules_at b.number.chain ≡ Some run.rules) same run.has in
        let runs = subst (λ x. Runs (table_program network b.number.table x) b.number.chain 1 (at_rule run.rules) f es run.after) same run.runs in
        let cheap = base_cheap tables cost are (well faults.TooCostly) b has t at in
        run.is ∙ ap (with_policy b.number (policy_of b.head)) (along p (to_end p) (chain_cost_by t (cost t)) falls levels b.number.chain
        run.rules stands (omega (arith, cheap, many)) f es run.after runs)

    is_run : (r : HookResult) → r ≡ result_of_way → RunsBaseChain network tables b f es r
    is_run r is =
        let q = terminate tables network well b has f es in
        subst (RunsBaseChain network tables b f es) (is_way q.0 q.1 ∙ sym is) q.1

  pub base_chain_runs_are_ways : BaseChainRunsAreWays network tables b t
  base_chain_runs_are_ways levels many f es r = (is_way levels many f es r, is_run levels many f es r)
