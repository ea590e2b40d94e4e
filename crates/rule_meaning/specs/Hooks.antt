-- How a packet runs through base chains: the order of their priorities, their policies, and the stages of
-- hooks, between which connections are looked up and addresses translated (nft(8), "Chains"; priorities are
-- NF_IP_PRI_* of linux/netfilter_ipv4.h).
use Rattle.std.specs.Prelude.{◌≡◌, ℕ, suc, ℤ, int_lt, not, ◌&&◌, Bool, true, false, List, [], ◌∷◌, ◌++◌}
use Rattle.std.specs.Prelude.{filter, Option, Some, None, slice_get, unwrap_or}
use Rattle.std.specs.List.Sorted.{IsSortedBy, IsStableBy}
use Rattle.nft_tree.specs.declared.chain.ChainKind.{ChainKind}
use Rattle.nft_tree.specs.declared.chain.ChainKind.TheVariants as kinds
use Rattle.nft_tree.specs.declared.chain.Hook.{Hook}
use Rattle.nft_tree.specs.declared.chain.Hook.TheVariants as hooks
use Rattle.nft_tree.specs.declared.chain.Policy.{Policy}
use Rattle.nft_tree.specs.declared.chain.Policy.TheVariants as policies
use Rattle.nft_tree.specs.Tree.{Statement, HeadTree, ChainTree, TableTree}
use Rattle.nft_tree.specs.TableItems.{chains_of}
use Rattle.nft_tree.specs.Priorities.{priority_number, DSTNAT, SRCNAT, AFTER_CONNTRACK}
use Rattle.box_file.specs.Box.{PlantTree}
use Rattle.rule_meaning.specs.declared.facts.Facts.{Facts}
use Rattle.rule_meaning.specs.declared.event.ChainNo.{ChainNo}
use Rattle.rule_meaning.specs.declared.event.Event.{Event}
use Rattle.rule_meaning.specs.declared.event.Event.TheVariants.{TookPolicy}
use Rattle.rule_meaning.specs.declared.event.HookVerdict.{HookVerdict}
use Rattle.rule_meaning.specs.declared.event.HookVerdict.TheVariants.{Accepted, Dropped}
use Rattle.rule_meaning.specs.declared.stage.HookStage.{HookStage}
use Rattle.rule_meaning.specs.declared.stage.HookStage.TheVariants as stages
use Rattle.rule_meaning.specs.Runs.{table_program, at_rule, RunResult, at_end, over, Runs}

-- ---- base chains

-- a base chain: its position and its head
pub record BaseChain : Type 0 where
  pub number : ChainNo
  pub head : HeadTree

abbrev pub base_chain_of : ℕ → ℕ → Option HeadTree → List BaseChain
base_chain_of table chain None = []
base_chain_of table chain (Some head) =
    record { number = record { table = table; chain = chain }; head = head } ∷ []

-- the base chains among these chains of a table, of which the first has this index
abbrev pub base_chains_from : ℕ → ℕ → List ChainTree → List BaseChain
base_chains_from table chain [] = []
base_chains_from table chain (c ∷ cs) =
    base_chain_of table chain c.head ++ base_chains_from table (suc chain) cs

abbrev pub base_chains_of_tables : ℕ → List TableTree → List BaseChain
base_chains_of_tables table [] = []
base_chains_of_tables table (t ∷ ts) =
    base_chains_from table 0 (chains_of t) ++ base_chains_of_tables (suc table) ts

-- all base chains of a ruleset, in text order
abbrev pub base_chains_of : List TableTree → List BaseChain
base_chains_of = base_chains_of_tables 0

abbrev pub priority : BaseChain → ℤ
priority b = priority_number b.head.priority

-- the lower priority runs first
abbrev pub runs_before : BaseChain → BaseChain → Bool
runs_before a b = int_lt (priority a) (priority b)

-- the chains sorted by priority; those of equal priority stay in text order (own: nft(8) leaves that order
-- open)
pub record InOrder (text order : List BaseChain) : Type 0 where
  pub rising : IsSortedBy runs_before order
  pub stable : IsStableBy runs_before text order

-- ---- hooks and chain types

abbrev pub same_hook : Hook → Hook → Bool
same_hook hooks.Prerouting hooks.Prerouting = true
same_hook hooks.Input hooks.Input = true
same_hook hooks.Forward hooks.Forward = true
same_hook hooks.Output hooks.Output = true
same_hook hooks.Postrouting hooks.Postrouting = true
same_hook _ _ = false

abbrev pub is_filter : ChainKind → Bool
is_filter kinds.Filter = true
is_filter kinds.Nat = false

abbrev pub is_on_hook : Hook → BaseChain → Bool
is_on_hook hook b = same_hook b.head.hook hook

-- the filter chains of a hook, and its chains of type nat
abbrev pub filter_chains_on : Hook → BaseChain → Bool
filter_chains_on hook b = is_on_hook hook b && is_filter b.head.kind

abbrev pub nat_chains_on : Hook → BaseChain → Bool
nat_chains_on hook b = is_on_hook hook b && not (is_filter b.head.kind)

abbrev pub is_below : ℤ → BaseChain → Bool
is_below limit b = int_lt (priority b) limit

-- ---- results

-- the result of base chains for a packet: the verdict of the last one, the facts then, and all events
pub record HookResult : Type 0 where
  pub verdict : HookVerdict
  pub facts : Facts
  pub events : List Event

abbrev pub policy_of : HeadTree → Policy
policy_of head = unwrap_or head.policy policies.Accept

abbrev pub policy_verdict : Policy → HookVerdict
policy_verdict policies.Accept = Accepted
policy_verdict policies.Drop = Dropped

-- the policy applies to a packet that reaches the end of a base chain
abbrev pub with_policy : ChainNo → Policy → RunResult → HookResult
with_policy number policy (at_end f es) =
    record { verdict = policy_verdict policy; facts = f; events = es ++ TookPolicy number policy ∷ [] }
with_policy number policy (over verdict f es) = record { verdict = verdict; facts = f; events = es }

-- a relation between the facts and events before and the result
abbrev pub Traversal : Type 1
Traversal = Facts → List Event → HookResult → Type 0

-- a packet runs through a base chain of the ruleset
pub record RunsBaseChain (network : PlantTree) (tables : List TableTree) (b : BaseChain) (f : Facts)
    (es : List Event) (hook_result : HookResult) : Type 0 where
  pub table : TableTree
  pub stands : slice_get tables b.number.table ≡ Some table
  pub rules : List (List Statement)
  pub has : (table_program network b.number.table table).rules_at b.number.chain ≡ Some rules
  pub after : RunResult
  pub runs : Runs (table_program network b.number.table table) b.number.chain 1 (at_rule rules) f es after
  pub is : hook_result ≡ with_policy b.number (policy_of b.head) after

-- ---- sequences

abbrev pub Continues : HookVerdict → Type 0
Continues Accepted = Unit {0}
Continues _ = ⊥

abbrev pub Stops : HookVerdict → Type 0
Stops verdict = Continues verdict → ⊥

-- no chain: the packet is accepted unchanged
abbrev pub NoChain : Traversal
NoChain f es hook_result = hook_result ≡ record { verdict = Accepted; facts = f; events = es }

-- the first, and then, if it accepts, the second
pub data Then (first second : Traversal) (f : Facts) (es : List Event)
    (hook_result : HookResult) : Type 0 where
  goes_on : (between : HookResult) → first f es between → Continues between.verdict
      → second between.facts between.events hook_result
      → Then first second f es hook_result
  stops : first f es hook_result → Stops hook_result.verdict → Then first second f es hook_result

-- base chains one after the other: an accept ends one of them, a drop or a NAT statement all
abbrev pub InTurn : PlantTree → List TableTree → List BaseChain → Traversal
InTurn network tables [] = NoChain
InTurn network tables (b ∷ bs) = Then (RunsBaseChain network tables b) (InTurn network tables bs)

-- all base chains that pass the test, in order of priority
pub record Chains (network : PlantTree) (tables : List TableTree) (test : BaseChain → Bool) (f : Facts)
    (es : List Event) (hook_result : HookResult) : Type 0 where
  pub order : List BaseChain
  pub in_order : InOrder (filter test (base_chains_of tables)) order
  pub run : InTurn network tables order f es hook_result

-- ---- the stages of hooks

-- filter chains on prerouting with a priority of -200 or below run before the conntrack lookup
-- (NF_IP_PRI_CONNTRACK is -200; own: -200 itself counts as before)
abbrev pub is_prerouting_raw : BaseChain → Bool
is_prerouting_raw b = filter_chains_on hooks.Prerouting b && is_below AFTER_CONNTRACK b

-- the filter chains on prerouting that run after the conntrack lookup
abbrev pub is_after_conntrack : BaseChain → Bool
is_after_conntrack b = filter_chains_on hooks.Prerouting b && not (is_prerouting_raw b)

-- the base chains of a stage: those of type nat where their hook translates, whatever their own priority
-- (own); destination NAT runs at dstnat, -100, source NAT at srcnat, 100, a filter chain of the same
-- priority after it (own)
abbrev pub chains_in_stage : HookStage → BaseChain → Bool
chains_in_stage stages.PreroutingRaw = is_prerouting_raw
chains_in_stage stages.PreroutingBeforeNat = λ b. is_after_conntrack b && is_below DSTNAT b
chains_in_stage stages.PreroutingNat = nat_chains_on hooks.Prerouting
chains_in_stage stages.PreroutingAfterNat = λ b. is_after_conntrack b && not (is_below DSTNAT b)
chains_in_stage stages.Input = filter_chains_on hooks.Input
chains_in_stage stages.Forward = filter_chains_on hooks.Forward
chains_in_stage stages.PostroutingBeforeNat = λ b. filter_chains_on hooks.Postrouting b && is_below SRCNAT b
chains_in_stage stages.PostroutingNat = nat_chains_on hooks.Postrouting
chains_in_stage stages.PostroutingAfterNat = λ b. filter_chains_on hooks.Postrouting b
    && not (is_below SRCNAT b)

-- a packet runs through the base chains of a stage; those of type nat until a NAT statement applies
-- (nft(8), "NAT statements")
abbrev pub Stage : HookStage → PlantTree → List TableTree → Traversal
Stage stage network tables = Chains network tables (chains_in_stage stage)
