-- A stage costs what its base chains cost. All together cost at most as much as the code: each start is in one
-- stage at most.
use Rattle.std.proofs.Common.{◌≡◌, ℕ, ◌+◌, ◌≤◌, Bool, true, false, cond, List, [], ◌∷◌, filter, sum_by, refl, sym, ap, ap₂, ◌∙◌, arith}
use Rattle.std.proofs.lemmas.List.Sums.{sum_by-cons}
use Rattle.nft_tree.specs.Tree.{TableTree}
use Rattle.rule_paths.specs.Paths.{AreAllCosts, Caller}
use Rattle.rule_check.specs.Checked.{CheckedTree}
use Rattle.filter_vm.specs.declared.code.Code.{Code}
use Rattle.filter_vm.specs.declared.code.Start.{Start}
use Rattle.compiler.specs.Compiled.{start_cost, total_cost}
use Rattle.rule_meaning.specs.Hooks.{BaseChain, base_chains_of}
use Rattle.rule_meaning.specs.declared.stage.HookStage.{HookStage}
use Rattle.rule_meaning.specs.declared.stage.HookStage.TheVariants as stages
use Rattle.hook_runs.specs.declared.stages.StagedChains.{StagedChains}
use Rattle.nft_tree.specs.declared.chain.Hook.TheVariants as hooks
use Rattle.rule_meaning.specs.Hooks.{chains_in_stage}
use Rattle.hook_runs.specs.Stages.{stage_cost, total_stage_cost}
use Rattle.hook_runs.specs.StageCode.{AreStarts, AreStartsOf}
use Rattle.hook_runs.specs.steps.Starts.{AreStagedChains, cost_of, costed_tree, hook_of, runs_in, staged_starts}
use Rattle.hook_runs.proofs.Orders.{sum_in_order}

abbrev cost : Start → ℕ
cost s = s.cost

-- what those of a list that run in a stage cost
abbrev in_stage : HookStage → List Start → ℕ
in_stage stage ss = cost_of (filter (runs_in (hook_of stage) stage) ss)

one_more : (t : Bool) (s : Start) (kept : List Start) → cost_of (cond t (s ∷ kept) kept) ≡ cond t (cost s) 0 + cost_of kept
one_more true s kept = sum_by-cons cost s kept
one_more false s kept = omega arith

in_stage_more : (stage : HookStage) (s : Start) (ss : List Start)
    → in_stage stage (s ∷ ss) ≡ cond (runs_in (hook_of stage) stage s) (cost s) 0 + in_stage stage ss
in_stage_more stage s ss = one_more (runs_in (hook_of stage) stage s) s (filter (runs_in (hook_of stage) stage) ss)

-- each start of a hook is in one of its stages, if in any
on_prerouting : (ss : List Start) → in_stage stages.PreroutingRaw ss + in_stage stages.PreroutingBeforeNat ss
    + in_stage stages.PreroutingNat ss + in_stage stages.PreroutingAfterNat ss ≡ cost_of ss
on_prerouting [] = refl
on_prerouting (s ∷ ss) = grind (
  arith,
  sum_by-cons cost s ss,
  on_prerouting ss,
  in_stage_more stages.PreroutingRaw s ss,
  in_stage_more stages.PreroutingBeforeNat s ss,
  in_stage_more stages.PreroutingNat s ss,
  in_stage_more stages.PreroutingAfterNat s ss,
)

on_postrouting : (ss : List Start) → in_stage stages.PostroutingBeforeNat ss + in_stage stages.PostroutingNat ss
    + in_stage stages.PostroutingAfterNat ss ≡ cost_of ss
on_postrouting [] = refl
on_postrouting (s ∷ ss) = grind (
  arith,
  sum_by-cons cost s ss,
  on_postrouting ss,
  in_stage_more stages.PostroutingBeforeNat s ss,
  in_stage_more stages.PostroutingNat s ss,
  in_stage_more stages.PostroutingAfterNat s ss,
)

some_of : (test : Start → Bool) (ss : List Start) → cost_of (filter test ss) ≤ cost_of ss
some_of test [] = omega arith
some_of test (s ∷ ss) = grind (arith, one_more (test s) s (filter test ss), sum_by-cons cost s ss, some_of test ss)

pub costs_little : (checked : CheckedTree) (code : Code) (p : StagedChains) → AreStagedChains code p
    → total_stage_cost (costed_tree checked code p) ≤ total_cost code
costs_little checked code p are = omega (
  arith,
  ap cost_of (are stages.PreroutingRaw),
  ap cost_of (are stages.PreroutingBeforeNat),
  ap cost_of (are stages.PreroutingNat),
  ap cost_of (are stages.PreroutingAfterNat),
  ap cost_of (are stages.Input),
  ap cost_of (are stages.Forward),
  ap cost_of (are stages.PostroutingBeforeNat),
  ap cost_of (are stages.PostroutingNat),
  ap cost_of (are stages.PostroutingAfterNat),
  on_prerouting code.prerouting.items,
  some_of (runs_in hooks.Input stages.Input) code.input.items,
  some_of (runs_in hooks.Forward stages.Forward) code.forward.items,
  on_postrouting code.postrouting.items,
)

-- ---- one stage

module _ (checked : CheckedTree) (code : Code) where
  -- a stage costs what its starts cost
  pub of_starts : (p : StagedChains) (stage : HookStage)
      → stage_cost (costed_tree checked code p) stage ≡ cost_of (staged_starts p stage)
  of_starts p stages.PreroutingRaw = refl
  of_starts p stages.PreroutingBeforeNat = refl
  of_starts p stages.PreroutingNat = refl
  of_starts p stages.PreroutingAfterNat = refl
  of_starts p stages.Input = refl
  of_starts p stages.Forward = refl
  of_starts p stages.PostroutingBeforeNat = refl
  of_starts p stages.PostroutingNat = refl
  of_starts p stages.PostroutingAfterNat = refl

  module _ (costs : TableTree → Caller → ℕ) (are : AreAllCosts checked.rules costs) where
    of_chains : (ss : List Start) (bs : List BaseChain) → AreStartsOf checked code ss bs
        → cost_of ss ≡ sum_by (start_cost checked.rules costs) bs
    of_chains [] [] all = refl
    of_chains [] (b ∷ bs) all = absurd all
    of_chains (s ∷ ss) [] all = absurd all
    of_chains (s ∷ ss) (b ∷ bs) all =
        sum_by-cons cost s ss ∙ ap₂ ◌+◌ (all.0.costs costs are) (of_chains ss bs all.1)
        ∙ sym (sum_by-cons (start_cost checked.rules costs) b bs)

    pub costs_its_chains : (p : StagedChains) (stage : HookStage)
        → AreStarts checked code (chains_in_stage stage) (staged_starts p stage)
        → stage_cost (costed_tree checked code p) stage ≡ sum_by (start_cost checked.rules costs)
        (filter (chains_in_stage stage) (base_chains_of checked.rules))
    costs_its_chains p stage starts = grind (arith, of_starts, of_chains, starts.order, starts.are_starts, sum_in_order, starts.in_order)
