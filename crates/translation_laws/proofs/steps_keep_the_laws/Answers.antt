use Rattle.stepping.specs.Representing.{recorded_of}
use Rattle.translation_laws.proofs.Answered.{ok_so, steps_so}
use Rattle.translation_laws.proofs.steps_keep_the_laws.Goals as goal

pub returns : goal.returns
returns g c = λ history is represents.
    let laws = c.translation_laws.ensures in
    ok_so c.step.result _ _
    (steps_so laws.obeys laws.entries c.args.engine.now c.step.new.self history (recorded_of c.args.recorded.now) is
    c.step.ensures.setup)
    (c.step.ensures.represents history represents)
