use Rattle.std.proofs.Common.{subst}
use Rattle.packet_sets.specs.Sets.{Means}
use Rattle.coming_sets.specs.Coming.{has_output, has_state_in, hook_of}
use Rattle.fact_sets.specs.Cases.{seen}
use Rattle.fact_sets.proofs.SetLaws.{keeps_trans, keeps_twice}
use Rattle.coming_sets.proofs.Matching.{and_after}
use Rattle.coming_sets.proofs.stages.places.Goals as goal

pub returns-in_err-state-clause-keeps : goal.returns-in_err-state-clause-keeps
returns-in_err-state-clause-keeps c =
    keeps_trans c.args.diagrams.now c.output.new.diagrams c.state.new.diagrams c.output.ensures.keeps c.state.ensures.keeps

pub returns-clause-keeps : goal.returns-clause-keeps
returns-clause-keeps c = keeps_twice c.args.diagrams.now c.output.new.diagrams c.state.new.diagrams c.and.new.self c.output.ensures.keeps
    c.state.ensures.keeps c.and.ensures.keeps

pub returns-clause-value : goal.returns-clause-value
returns-clause-value c =
    let there = subst (λ h. Means c.output.new.diagrams c.in_ok-output.output (λ f. has_output h (seen c.args.reader f))) c.hook.ensures
    c.in_ok-output.ensures.value in
    and_after c.output.new.diagrams c.state.new.diagrams c.and.new.self c.in_ok-output.output c.in_ok-state.state
    (λ f. has_output (hook_of c.args.stage) (seen c.args.reader f))
    (λ f. has_state_in c.args.stage (seen c.args.reader f)) c.and.result c.state.ensures.keeps
    there c.in_ok-state.ensures.value c.and.ensures.value
