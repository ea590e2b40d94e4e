-- Base chains with their costs, the order in which they run, and the code of a ruleset.
use Rattle.std.specs.Prelude.{◌≡◌, ℕ, ◌+◌, ◌<◌, not, Bool, List, length, map, filter, slice_get, slice_index, Some}
use Rattle.std.specs.List.Sorted.{IsPermutation}
use Rattle.nft_tree.specs.declared.chain.Hook.{Hook}
use Rattle.nft_tree.specs.Tree.{TableTree}
use Rattle.nft_tree.specs.TreeViews.{head_tree}
use Rattle.rule_paths.specs.Paths.{MAX_COST}
use Rattle.rule_paths.specs.Findings.{AreChainCosts}
use Rattle.rule_meaning.specs.declared.event.ChainNo.{ChainNo}
use Rattle.rule_check.specs.Checked.{CheckedTree}
use Rattle.rule_meaning.specs.Hooks.{BaseChain, base_chains_of, policy_of, priority, is_filter, is_on_hook, InOrder}
use Rattle.filter_vm.specs.declared.code.Code.{Code}
use Rattle.filter_vm.specs.declared.code.Start.{Start}
use Rattle.filter_vm.specs.Machine.{starts_of}
use Rattle.code_layout.specs.CodeLayout.{AreTableCodes}
use Rattle.compiler.specs.declared.compiled_chain.CompiledChain.{CompiledChain}

abbrev pub base : CompiledChain → BaseChain
base b = record { number = b.number; head = head_tree b.head.now }

-- its start: without a policy it accepts (nft(8), "Chains")
abbrev pub start_of : CompiledChain → Start
start_of b = record {
  chain = b.number;
  policy = policy_of (base b).head;
  priority = priority (base b);
  is_nat = not (is_filter (base b).head.kind);
  cost = b.cost;
  is_positive = b.is_positive;
}

abbrev pub runs_on_hook : Hook → CompiledChain → Bool
runs_on_hook hook b = is_on_hook hook (base b)

-- the starts of those on a hook
abbrev pub hook_starts : Hook → List CompiledChain → List Start
hook_starts hook bases = map start_of (filter (runs_on_hook hook) bases)

-- it with its cost
abbrev pub costed : CompiledChain → BaseChain × ℕ
costed b = (base b, b.cost)

abbrev pub priced : (ChainNo → ℕ) → BaseChain → BaseChain × ℕ
priced price b = (b, price b.number)

-- of a table with these costs each chain has a price: 1 more than its cost, if that is below the limit
abbrev pub PricesTable : (ChainNo → ℕ) → ℕ → List ℕ → Type 0
PricesTable price table costs = (j : ℕ) → j < length costs → slice_index costs j < MAX_COST
    → price (record { table = table; chain = j }) ≡ 1 + slice_index costs j

-- of all tables
abbrev pub Prices : List TableTree → (ChainNo → ℕ) → Type 0
Prices tables price = (i : ℕ) (t : TableTree) (costs : List ℕ) → slice_get tables i ≡ Some t → AreChainCosts t costs → PricesTable price i costs

-- the starts of each hook are its base chains, in order of priority and then of the text
pub record AreOrdered (bases : List CompiledChain) (code : Code) : Type 0 where
  pub order : List CompiledChain
  pub moved : IsPermutation bases order
  pub in_order : InOrder (map base bases) (map base order)
  pub starts : (hook : Hook) → starts_of code hook ≡ hook_starts hook order

-- the code of each table, and the starts of each hook
pub record IsRulesetCode (checked : CheckedTree) (code : Code) : Type 0 where
  pub tables : AreTableCodes checked.network checked.rules code.tables.items
  pub bases : List CompiledChain
  pub are : (price : ChainNo → ℕ) → Prices checked.rules price → map costed bases ≡ map (priced price) (base_chains_of checked.rules)
  pub ordered : AreOrdered bases code
