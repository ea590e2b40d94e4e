-- OUT is created, then the report's file, and then the run is one call.
use Rattle.std.proofs.Common.{[], ◌∷◌, ◌++◌, append-nil, refl, sym}
use Rattle.std.proofs.lemmas.Result.{err_from_is_err_and}
use Rattle.program.specs.Calls.{create, run}
use Rattle.program.proofs.Chains.{HappenInOrder-append}
use Rattle.program.proofs.replaying.play.Goals as goal

pub returns-in_err-output : goal.returns-in_err-output
returns-in_err-output g c =
    let p = err_from_is_err_and c.from_residual.result c.from_residual.ensures.1 in
    rw p.1 (create _ _ ∷ [], (_, c.in_err-output.ensures, refl), (refl, p.2))

pub returns-in_err-report : goal.returns-in_err-report
returns-in_err-report g c =
    let p = err_from_is_err_and c.from_residual-in_err-report.result c.from_residual-in_err-report.ensures.1 in
    let made = c.in_err-report.ensures in
    rw p.1 rw p.2 (
      create _ _ ∷ made.0,
      (_, c.in_ok-output.ensures, made.1),
      (refl, (made.0, _, [], made.2, sym (append-nil made.0), (refl, refl))),
    )

pub returns-in_err-run : goal.returns-in_err-run
returns-in_err-run g c =
    let p = err_from_is_err_and c.from_residual-in_err-run.result c.from_residual-in_err-run.ensures.1 in
    let made = c.in_ok-report.ensures in
    let later = run _ _ _ _ ∷ [] in
    rw p.1 (
      create _ _ ∷ made.0 ++ later,
      (
        _,
        c.in_ok-output.ensures,
        HappenInOrder-append g.H.Host.happens _ _ _ made.0 _ made.1 (_, c.in_err-run.ensures, refl),
      ),
      (refl, (made.0, _, later, made.2, refl, (refl, refl, p.2))),
    )

pub returns : goal.returns
returns g c =
    let made = c.in_ok-report.ensures in
    let later = run _ _ _ _ ∷ [] in (
      create _ _ ∷ made.0 ++ later,
      (
        _,
        c.in_ok-output.ensures,
        HappenInOrder-append g.H.Host.happens _ _ _ made.0 _ made.1 (_, c.in_ok-run.ensures, refl),
      ),
      (refl, (made.0, _, later, made.2, refl, (refl, refl, refl))),
    )
