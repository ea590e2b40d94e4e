use Rattle.stepping.proofs.Names.{EngineState, recorded_of, subst, ◌∷◌}
use Rattle.stepping.specs.Next.{Next}
use Rattle.stepping.specs.Representing.{Represents}
use Rattle.stepping.proofs.engine.Engine.step.Goals as goal

pub returns-clause-represents : goal.returns-clause-represents
returns-clause-represents g c = λ history represents.
    let is = c.in_ok-reserve.ensures.ok in
    let ready : Represents c.reserve.new.self history =
    rw is (record { records = represents.records; newest = represents.newest; held = represents.held }) in
    let x = c.process.ensures.represents history ready in (
      x.0,
      subst (λ (s : EngineState). Next s.setup history (recorded_of c.args.record.now) x.0) is x.1,
      x.2,
      (c.newest.ensures.newest (x.0 ∷ history) x.2).outcome,
    )
