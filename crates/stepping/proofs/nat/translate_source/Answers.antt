use Rattle.stepping.proofs.Names.{refl, setup_in}
use Rattle.stepping.proofs.OldConnections.{source_kept}
use Rattle.stepping.proofs.StepsTaken.{of_step, unspent}
use Rattle.stepping.proofs.nat.translate_source.Goals as goal

pub returns-in_default : goal.returns-in_default
returns-in_default c = record {
  took = of_step (λ held. rw c.update_source.ensures (source_kept (setup_in c.args.setup.now.hooks) held
      c.args.state.now.facts c.args.events.now.events c.args.state.now.info c.in_default.not-New)) refl refl (unspent _ _);
}
