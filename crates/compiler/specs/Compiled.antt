-- When code does what a ruleset means (own): its verdicts and events are those of the rules, and its
-- costs those that `check` counts.
use Rattle.std.specs.Prelude.{◌≡◌, ◌↔◌, ℕ, ◌+◌, ℤ, not, Bool, Option, Some, None}
use Rattle.std.specs.Prelude.{List, map, filter, slice_get, sum_by, Contains}
use Rattle.nft_tree.specs.declared.chain.Hook.{Hook}
use Rattle.nft_tree.specs.declared.chain.Hook.TheVariants as hooks
use Rattle.nft_tree.specs.declared.chain.Policy.{Policy}
use Rattle.nft_tree.specs.Tree.{TableTree}
use Rattle.rule_paths.specs.Paths.{Caller, AreAllCosts}
use Rattle.rule_check.specs.Checked.{CheckedTree}
use Rattle.rule_laws.specs.Ranking.{chain_cost_by}
use Rattle.rule_meaning.specs.declared.facts.Facts.{Facts}
use Rattle.rule_meaning.specs.declared.event.ChainNo.{ChainNo}
use Rattle.rule_meaning.specs.declared.event.Event.{Event}
use Rattle.rule_meaning.specs.Hooks.{BaseChain, base_chains_of, priority, policy_of, is_filter, is_on_hook, InOrder, HookResult, RunsBaseChain}
use Rattle.filter_vm.specs.declared.code.Code.{Code}
use Rattle.filter_vm.specs.declared.code.Start.{Start}
use Rattle.filter_vm.specs.Machine.{starts_of, base_chain_result}

-- ---- starts

-- what starts and base chains have in common
pub record StartHead : Type 0 where
  pub chain : ChainNo
  pub policy : Policy
  pub priority : ℤ
  pub is_nat : Bool

-- that of a start
abbrev pub start_head : Start → StartHead
start_head s = record { chain = s.chain; policy = s.policy; priority = s.priority; is_nat = s.is_nat }

-- that of a base chain: without a policy it accepts (nft(8), "Chains")
abbrev pub base_chain_head : BaseChain → StartHead
base_chain_head b = record {
  chain = b.number;
  policy = policy_of b.head;
  priority = priority b;
  is_nat = not (is_filter b.head.kind);
}

-- what the chain of this number costs in the table, plus 1
abbrev pub cost_in : (TableTree → Caller → ℕ) → Option TableTree → ℕ → ℕ
cost_in cost None chain = 0
cost_in cost (Some t) chain = 1 + chain_cost_by t (cost t) chain

-- what a base chain costs: its rules, plus 1 for its policy
abbrev pub start_cost : List TableTree → (TableTree → Caller → ℕ) → BaseChain → ℕ
start_cost tables cost b = cost_in cost (slice_get tables b.number.table) b.number.chain

-- the starts are the base chains of the hook, in order of priority and then of the text, each with its
-- cost
pub record HasStarts (tables : List TableTree) (hook : Hook) (starts : List Start) : Type 0 where
  pub order : List BaseChain
  pub in_order : InOrder (filter (is_on_hook hook) (base_chains_of tables)) order
  pub are : map start_head starts ≡ map base_chain_head order
  pub costs : (cost : TableTree → Caller → ℕ) → AreAllCosts tables cost
      → map (λ s. s.cost) starts ≡ map (start_cost tables cost) order

-- ---- runs

-- the code of each start has the result (verdict, facts, events) that the rules of its base chain have
abbrev pub AgreesWithRules : CheckedTree → Code → Type 0
AgreesWithRules checked code = (hook : Hook) (start : Start) (b : BaseChain)
    → Contains (starts_of code hook) start → Contains (base_chains_of checked.rules) b
    → start_head start ≡ base_chain_head b
    → (f : Facts) (es : List Event) (end : HookResult)
    → RunsBaseChain checked.network checked.rules b f es end ↔ (end ≡ base_chain_result code start f es)

-- ---- cost

-- what the starts of a hook cost together
abbrev pub hook_cost : Code → Hook → ℕ
hook_cost code hook = sum_by (λ s. s.cost) (starts_of code hook)

-- what all starts cost together
abbrev pub total_cost : Code → ℕ
total_cost code =
    hook_cost code hooks.Prerouting + hook_cost code hooks.Input + hook_cost code hooks.Forward
    + hook_cost code hooks.Output + hook_cost code hooks.Postrouting
