use Rattle.engine.proofs.Names.{EngineState, Represents, [], ap, arith, err_from_is_err_and, refl, subst, sym, ◌∙◌, ◌≡◌}
use Rattle.engine.proofs.Meanings.{accepted_of, refuses_header}
use Rattle.engine.proofs.rerun.Rerun.open.Goals as goal
use Rattle.pcap_io.specs.CaptureStates.{CaptureState}

none_yet : (engine kept : EngineState) → kept ≡ engine → Represents engine [] → Represents kept []
none_yet engine kept is none = subst (λ (e : EngineState). Represents e []) (sym is) none

pub invariant_of-result : goal.invariant_of-result
invariant_of-result g c = λ is.
    let same = c.in_ok-replay.ensures.same in
    let begun = none_yet c.in_ok-engine.engine c.in_ok-replay.replay.engine same.0 c.in_ok-engine.ensures.none in
    let none = begun.records in
    let noted = same.2 in
    record {
      represents = ([], begun);
      processed = omega (arith, none);
      noted = omega (arith, noted);
      going = ap (λ (s : CaptureState). s.fault) same.1 ∙ c.in_ok-records.ensures.fresh.0;
    }

pub returns-clause-begun : goal.returns-clause-begun
returns-clause-begun g c =
    let same = c.in_ok-replay.ensures.same in (
      accepted_of c.in_ok-checked.ensures.fine,
      ap (λ (e : EngineState). e.setup) same.0 ∙ c.in_ok-engine.ensures.setup,
      record {
        represents = none_yet c.in_ok-engine.engine c.in_ok-replay.replay.engine same.0 c.in_ok-engine.ensures.none;
        is_fullest = c.new-2.ensures c.in_ok-replay.replay.engine.setup;
      },
      refl,
    )

pub returns-in_err-records-clause-refusals : goal.returns-in_err-records-clause-refusals
returns-in_err-records-clause-refusals g c =
    let q = err_from_is_err_and c.from_residual-in_err-records.result c.from_residual-in_err-records.ensures.1 in
    rw (q.1, q.2) (refuses_header c.args.rules.now c.args.network.now (g.R.Read.remaining c.args.capture.now.inner)
    c.in_err-records.field-0.0 (accepted_of c.in_ok-checked.ensures.fine) c.in_err-records.ensures.refused)
