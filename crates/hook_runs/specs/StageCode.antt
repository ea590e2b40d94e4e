-- The code of a stage (own): the starts of its base chains, and how many statements they start.
use Rattle.std.specs.Prelude.{◌≡◌, ℕ, ◌+◌, if◌then◌else◌, Bool, true, false, List, [], ◌∷◌, filter}
use Rattle.nft_tree.specs.Tree.{TableTree}
use Rattle.rule_paths.specs.Paths.{AreAllCosts, Caller}
use Rattle.rule_check.specs.Checked.{CheckedTree}
use Rattle.rule_meaning.specs.declared.facts.Facts.{Facts}
use Rattle.rule_meaning.specs.declared.event.Event.{Event}
use Rattle.rule_meaning.specs.declared.event.HookVerdict.{HookVerdict}
use Rattle.rule_meaning.specs.declared.event.HookVerdict.TheVariants.{Accepted}
use Rattle.rule_meaning.specs.Hooks.{BaseChain, HookResult, InOrder, RunsBaseChain, base_chains_of}
use Rattle.filter_vm.specs.declared.code.Code.{Code}
use Rattle.filter_vm.specs.declared.code.Start.{Start}
use Rattle.filter_vm.specs.Machine.{base_chain_result, base_chain_stop}
use Rattle.compiler.specs.Compiled.{start_cost, start_head, base_chain_head}
use Rattle.rule_meaning.specs.declared.stage.HookStage.{HookStage}
use Rattle.hook_runs.specs.Stages.{CostedTree, stage_starts}

-- ---- starts

-- the start is that of the base chain, costs what the chain costs, and its code has the result of the
-- chain's rules
pub record IsStartOf (checked : CheckedTree) (code : Code) (s : Start) (b : BaseChain) : Type 0 where
  pub same : start_head s ≡ base_chain_head b
  pub costs : (cost : TableTree → Caller → ℕ) → AreAllCosts checked.rules cost
      → s.cost ≡ start_cost checked.rules cost b
  pub runs : (f : Facts) (es : List Event) → RunsBaseChain checked.network checked.rules b f es
      (base_chain_result code s f es)

abbrev pub AreStartsOf : CheckedTree → Code → List Start → List BaseChain → Type 0
AreStartsOf checked code [] [] = Unit {0}
AreStartsOf checked code (s ∷ ss) (b ∷ bs) = IsStartOf checked code s b × AreStartsOf checked code ss bs
AreStartsOf _ _ _ _ = ⊥

-- the starts are those of the base chains that pass the test, in the order in which they run
pub record AreStarts (checked : CheckedTree) (code : Code) (test : BaseChain → Bool)
    (starts : List Start) : Type 0 where
  pub order : List BaseChain
  pub in_order : InOrder (filter test (base_chains_of checked.rules)) order
  pub are_starts : AreStartsOf checked code starts order

-- ---- statements

-- whether the next base chain runs after this verdict
abbrev pub continues : HookVerdict → Bool
continues Accepted = true
continues _ = false

-- how many statements the next base chains start: none where this one doesn't accept
abbrev pub started_after : HookResult → (Facts → List Event → ℕ) → ℕ
started_after hook_result next =
    if continues hook_result.verdict then next hook_result.facts hook_result.events else 0

-- how many statements these starts start, one after another
abbrev pub started : Code → List Start → Facts → List Event → ℕ
started code [] f es = 0
started code (s ∷ ss) f es =
    (base_chain_stop code s f es).ticks + started_after (base_chain_result code s f es) (started code ss)

-- how many statements a stage starts for a packet with these facts, after these events
abbrev pub stage_started : CostedTree → HookStage → Facts → List Event → ℕ
stage_started runs stage = started runs.code (stage_starts runs.starts stage)
