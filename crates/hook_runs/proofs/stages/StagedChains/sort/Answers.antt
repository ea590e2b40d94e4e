use Rattle.std.proofs.Common.{ap, filter, ◌++◌, ◌∙◌}
use Rattle.std.proofs.lemmas.Result.{on_ok_weaker}
use Rattle.nft_tree.specs.declared.chain.Hook.TheVariants as hooks
use Rattle.hook_runs.specs.steps.Starts.{runs_in, staged_starts, starts_in}
use Rattle.hook_runs.proofs.Sorted.{all_sorted}
use Rattle.hook_runs.proofs.stages.StagedChains.sort.Goals as goal

pub returns : goal.returns
returns c = on_ok_weaker _ (λ last. all_sorted c.args.code.now (staged_starts c.args.self.now) (staged_starts c.add_all.new.self)
    (staged_starts c.add_all-2.new.self) (staged_starts c.add_all-3.new.self) (starts_in c.add_all-4.new.self) c.requires.empty
    (λ stage. c.in_ok-add_all.ensures stage
    ∙ ap (λ ss. staged_starts c.args.self.now stage ++ filter (runs_in hooks.Prerouting stage) ss) c.deref.ensures.value)
    (λ stage. c.in_ok-add_all-2.ensures stage
    ∙ ap (λ ss. staged_starts c.add_all.new.self stage ++ filter (runs_in hooks.Input stage) ss) c.deref-2.ensures.value)
    (λ stage. c.in_ok-add_all-3.ensures stage
    ∙ ap (λ ss. staged_starts c.add_all-2.new.self stage ++ filter (runs_in hooks.Forward stage) ss) c.deref-3.ensures.value)
    (λ stage. last stage
    ∙ ap (λ ss. staged_starts c.add_all-3.new.self stage ++ filter (runs_in hooks.Postrouting stage) ss) c.deref-4.ensures.value))
    c.add_all-4.ensures
