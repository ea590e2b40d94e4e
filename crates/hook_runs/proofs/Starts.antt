-- The starts of each stage are those of its base chains, and have their results.
use Rattle.std.proofs.Common.{arith}
use Rattle.std.proofs.Common.{◌≡◌, ℕ, Bool, true, false, ◌&&◌, cond, List, [], ◌∷◌, map, filter, refl, sym, ap, subst}
use Rattle.std.specs.Prelude.{All, Contains}
use Rattle.std.proofs.lemmas.Bool.{false≢true}
use Rattle.std.proofs.lemmas.List.Elements.{All-head, All-tail, All-contains, All-contains_itself, All-filter, All-weaker}
use Rattle.nft_tree.specs.declared.chain.Hook.{Hook}
use Rattle.rule_check.specs.Checked.{CheckedTree}
use Rattle.rule_meaning.specs.declared.facts.Facts.{Facts}
use Rattle.rule_meaning.specs.declared.event.Event.{Event}
use Rattle.rule_meaning.specs.declared.event.HookVerdict.{HookVerdict}
use Rattle.rule_meaning.specs.declared.event.HookVerdict.TheVariants.{Accepted, Dropped, Translated}
use Rattle.rule_meaning.specs.Hooks as meaning
use Rattle.rule_meaning.specs.Hooks.{BaseChain, base_chains_of, is_on_hook, InOrder}
use Rattle.rule_meaning.specs.Hooks.{HookResult, Traversal, RunsBaseChain, Continues, Stops, Then, InTurn, Chains}
use Rattle.filter_vm.specs.declared.code.Code.{Code}
use Rattle.filter_vm.specs.declared.code.Start.{Start}
use Rattle.filter_vm.specs.Machine.{starts_of, base_chain_result}
use Rattle.nft_tree.specs.Tree.{TableTree}
use Rattle.rule_paths.specs.Paths.{AreAllCosts, Caller}
use Rattle.compiler.specs.Compiled.{StartHead, HasStarts, AgreesWithRules, start_cost, start_head, base_chain_head}
use Rattle.rule_meaning.specs.declared.stage.HookStage.{HookStage}
use Rattle.rule_meaning.specs.declared.stage.HookStage.TheVariants as stages
use Rattle.hook_runs.specs.declared.stages.StagedChains.{StagedChains}
use Rattle.rule_meaning.specs.Hooks.{chains_in_stage}
use Rattle.hook_runs.specs.StageCode.{AreStartsOf, AreStarts, IsStartOf, continues}
use Rattle.hook_runs.specs.steps.Starts.{AreStagedChains, hook_of, in_order_result, is_that, stage_of, staged_starts, starts_of_stage, then_continue}
use Rattle.compiler.proofs.OrderLaws.{filter_twice, some_in_order}
use Rattle.hook_runs.proofs.Orders.{in_text}

-- ---- one after another

on : (e : HookVerdict) → continues e ≡ true → Continues e
on Accepted e = tt
on Dropped e = absurd (false≢true e)
on (Translated t) e = absurd (false≢true e)

off : (e : HookVerdict) → continues e ≡ false → Stops e
off Accepted e = λ g. false≢true (sym e)
off Dropped e = λ g. g
off (Translated t) e = λ g. g

module _ (first second : Traversal) (f : Facts) (es : List Event) (e : HookResult) (next : Facts → List Event
    → HookResult) (runs : first f es e) (more : (g : Facts) (later : List Event)
    → second g later (next g later)) where
  then_by : (b : Bool) → continues e.verdict ≡ b → Then first second f es (cond b (next e.facts e.events) e)
  then_by true is = meaning.goes_on e runs (on e.verdict is) (more e.facts e.events)
  then_by false is = meaning.stops runs (off e.verdict is)

  thens : Then first second f es (then_continue e next)
  thens = then_by (continues e.verdict) refl

none_headed : (s : Start) (ss : List Start) → map start_head (s ∷ ss) ≡ [] → ⊥
none_headed s ss e = cc

no_more_headed : (b : BaseChain) (bs : List BaseChain) → [] ≡ map base_chain_head (b ∷ bs) → ⊥
no_more_headed b bs e = cc

first_head : (s : Start) (b : BaseChain) (ss : List Start) (bs : List BaseChain)
    → map start_head (s ∷ ss) ≡ map base_chain_head (b ∷ bs) → start_head s ≡ base_chain_head b
first_head s b ss bs e = cc

rest_heads : (s : Start) (b : BaseChain) (ss : List Start) (bs : List BaseChain)
    → map start_head (s ∷ ss) ≡ map base_chain_head (b ∷ bs) → map start_head ss ≡ map base_chain_head bs
rest_heads s b ss bs e = cc

first_cost : (cost : BaseChain → ℕ) (s : Start) (b : BaseChain) (ss : List Start) (bs : List BaseChain)
    → map (λ (t : Start). t.cost) (s ∷ ss) ≡ map cost (b ∷ bs) → s.cost ≡ cost b
first_cost cost s b ss bs e = cc

rest_costs : (cost : BaseChain → ℕ) (s : Start) (b : BaseChain) (ss : List Start) (bs : List BaseChain)
    → map (λ (t : Start). t.cost) (s ∷ ss) ≡ map cost (b ∷ bs) → map (λ (t : Start). t.cost) ss ≡ map cost bs
rest_costs cost s b ss bs e = cc

module _ (checked : CheckedTree) (code : Code) where
  -- ---- base chains in order

  runs_in_order : (ss : List Start) (bs : List BaseChain) → AreStartsOf checked code ss bs
      → (f : Facts) (es : List Event) → InTurn checked.network checked.rules bs f es
      (in_order_result code ss f es)
  runs_in_order [] [] all f es = refl
  runs_in_order [] (b ∷ bs) all f es = absurd all
  runs_in_order (s ∷ ss) [] all f es = absurd all
  runs_in_order (s ∷ ss) (b ∷ bs) all f es =
      thens (RunsBaseChain checked.network checked.rules b) (InTurn checked.network checked.rules bs) f es
      (base_chain_result code s f es) (in_order_result code ss) (all.0.runs f es)
      (runs_in_order ss bs all.1)

  pub chains_run : (test : BaseChain → Bool) (ss : List Start) → AreStarts checked code test ss
      → (f : Facts) (es : List Event) → Chains checked.network checked.rules test f es
      (in_order_result code ss f es)
  chains_run test ss are f es = grind (arith, are.order, are.in_order, runs_in_order, are.are_starts)

  -- ---- some of them

  module _ (has : Start → Bool) (more : BaseChain → Bool) (agree : (s : Start) (b : BaseChain)
      → start_head s ≡ base_chain_head b → has s ≡ more b) where
    start_kept : (s : Start) (b : BaseChain) (t : Bool) (ss : List Start) (bs : List BaseChain)
        → IsStartOf checked code s b → AreStartsOf checked code ss bs
        → AreStartsOf checked code (cond t (s ∷ ss) ss) (cond t (b ∷ bs) bs)
    start_kept s b true ss bs here all = (here, all)
    start_kept s b false ss bs here all = all

    starts_filtered : (ss : List Start) (bs : List BaseChain) → AreStartsOf checked code ss bs
        → AreStartsOf checked code (filter has ss) (filter more bs)
    starts_filtered [] [] all = tt
    starts_filtered [] (b ∷ bs) all = absurd all
    starts_filtered (s ∷ ss) [] all = absurd all
    starts_filtered (s ∷ ss) (b ∷ bs) all =
        subst (λ u. AreStartsOf checked code (filter has (s ∷ ss))
        (cond u (b ∷ filter more bs) (filter more bs))) (agree s b all.0.same)
        (start_kept s b (has s) (filter has ss) (filter more bs) all.0 (starts_filtered ss bs all.1))

    narrowed : (test : BaseChain → Bool) (ss : List Start) → AreStarts checked code test ss
        → AreStarts checked code (λ b. test b && more b) (filter has ss)
    narrowed test ss are =
        let bases = base_chains_of checked.rules in
        record {
          order = filter more are.order;
          in_order = subst (λ (text : List BaseChain). InOrder text (filter more are.order))
              (filter_twice test more bases) (some_in_order more (filter test bases) are.order are.in_order);
          are_starts = starts_filtered ss are.order are.are_starts;
        }

  alike : (test other : BaseChain → Bool) → ((b : BaseChain) → test b ≡ other b) → (ss : List Start)
      → AreStarts checked code test ss → AreStarts checked code other ss
  alike test other same ss are = grind arith

  -- ---- those of a hook

  module _ (starts : (hook : Hook) → HasStarts checked.rules hook (starts_of code hook))
      (runs : AgreesWithRules checked code) where
    -- each start costs what its base chain costs
    abbrev CostsOf : List Start → List BaseChain → Type 0
    CostsOf ss bs = (cost : TableTree → Caller → ℕ) → AreAllCosts checked.rules cost
        → map (λ (t : Start). t.cost) ss ≡ map (start_cost checked.rules cost) bs

    starts_all : (hook : Hook) (ss : List Start) (bs : List BaseChain)
        → map start_head ss ≡ map base_chain_head bs → CostsOf ss bs → All (Contains (starts_of code hook)) ss
        → All (Contains (base_chains_of checked.rules)) bs → AreStartsOf checked code ss bs
    starts_all hook [] [] e costs among among_bases = tt
    starts_all hook [] (b ∷ bs) e costs among among_bases = no_more_headed b bs e
    starts_all hook (s ∷ ss) [] e costs among among_bases = none_headed s ss e
    starts_all hook (s ∷ ss) (b ∷ bs) e costs among among_bases =
        let bases = base_chains_of checked.rules in
        let same = first_head s b ss bs e in
        let here = All-head (Contains (starts_of code hook)) s ss among in
        let there = All-head (Contains bases) b bs among_bases in (
          record {
            same = same;
            costs = λ cost are. first_cost (start_cost checked.rules cost) s b ss bs (costs cost are);
            runs = λ f es. (runs hook s b here there same f es
                (base_chain_result code s f es)).1 refl;
          },
          starts_all hook ss bs (rest_heads s b ss bs e)
              (λ cost are. rest_costs (start_cost checked.rules cost) s b ss bs (costs cost are))
              (All-tail (Contains (starts_of code hook)) s ss among) (All-tail (Contains bases) b bs among_bases),
        )

    at_hook : (hook : Hook) → AreStarts checked code (is_on_hook hook) (starts_of code hook)
    at_hook hook =
        let has = starts hook in
        let bases = base_chains_of checked.rules in
        let text = filter (is_on_hook hook) bases in
        let kept = All-filter (is_on_hook hook) (Contains bases) bases (All-contains_itself bases) in
        let among_bases = All-weaker (Contains has.order) (Contains bases)
        (λ b h. All-contains (Contains bases) text b kept (in_text text has.order has.in_order b h))
        has.order (All-contains_itself has.order) in
        record {
          order = has.order;
          in_order = has.in_order;
          are_starts =
              starts_all hook (starts_of code hook) has.order has.are has.costs (All-contains_itself (starts_of code hook))
              among_bases;
        }

    -- ---- those of a stage

    -- the base chains of the stage's hook that run in it
    of_stage : (stage : HookStage) (b : BaseChain)
        → is_on_hook (hook_of stage) b && is_that stage (stage_of (hook_of stage) (base_chain_head b)) ≡ chains_in_stage stage b
    of_stage stages.PreroutingRaw b = grind arith
    of_stage stage b = grind arith

    pub of_parts : (p : StagedChains) → AreStagedChains code p → (stage : HookStage)
        → AreStarts checked code (chains_in_stage stage) (staged_starts p stage)
    of_parts p are stage =
        let test : StartHead → Bool = λ h. is_that stage (stage_of (hook_of stage) h) in
        let on : BaseChain → Bool = is_on_hook (hook_of stage) in
        subst (AreStarts checked code (chains_in_stage stage)) (sym (are stage))
        (alike (λ b. on b && test (base_chain_head b)) (chains_in_stage stage) (of_stage stage) (starts_of_stage code stage)
        (narrowed (λ s. test (start_head s)) (λ b. test (base_chain_head b)) (λ s b same. ap test same) on
        (starts_of code (hook_of stage)) (at_hook (hook_of stage))))
