-- Each return gives its calls, in order.
use Rattle.std.proofs.Common.{[], ◌∷◌, ◌++◌, append-nil, refl, sym}
use Rattle.std.proofs.lemmas.Result.{err_from_is_err_and}
use Rattle.program.specs.Calls.{draw_keys, open_input}
use Rattle.program.proofs.Chains.{HappenInOrder-append}
use Rattle.program.proofs.replaying.replay_texts.Goals as goal

pub returns-in_err-input : goal.returns-in_err-input
returns-in_err-input g c =
    let p = err_from_is_err_and c.from_residual.result c.from_residual.ensures.1 in
    rw p.1 (open_input _ _ ∷ [], (_, c.in_err-input.ensures, refl), (refl, p.2))

pub returns-in_err-check_output : goal.returns-in_err-check_output
returns-in_err-check_output g c =
    let p = err_from_is_err_and c.from_residual-in_err-check_output.result
    c.from_residual-in_err-check_output.ensures.1 in
    let looked = c.in_err-check_output.ensures in
    rw p.1 rw p.2 (
      open_input _ _ ∷ looked.0,
      (_, c.in_ok-input.ensures, looked.1),
      (refl, (looked.0, _, [], looked.2, sym (append-nil looked.0), (refl, refl))),
    )

pub returns-in_err-check_report : goal.returns-in_err-check_report
returns-in_err-check_report g c =
    let p = err_from_is_err_and c.from_residual-in_err-check_report.result
    c.from_residual-in_err-check_report.ensures.1 in
    let looked = c.in_ok-check_output.ensures in
    let again = c.in_err-check_report.ensures in
    rw p.1 rw p.2 (
      open_input _ _ ∷ looked.0 ++ again.0,
      (_, c.in_ok-input.ensures, HappenInOrder-append g.H.Host.happens _ _ _ looked.0 _ looked.1 again.1),
      (
        refl,
        (looked.0, _, again.0, looked.2, refl, (again.0, _, [], again.2, sym (append-nil again.0), (refl, refl))),
      ),
    )

pub returns-in_err-hasher : goal.returns-in_err-hasher
returns-in_err-hasher g c =
    let p = err_from_is_err_and c.from_residual-in_err-hasher.result c.from_residual-in_err-hasher.ensures.1 in
    let looked = c.in_ok-check_output.ensures in
    let again = c.in_ok-check_report.ensures in
    let later = draw_keys _ ∷ [] in
    rw p.1 (
      open_input _ _ ∷ looked.0 ++ (again.0 ++ later),
      (
        _,
        c.in_ok-input.ensures,
        HappenInOrder-append g.H.Host.happens _ _ _ looked.0 _ looked.1
            (HappenInOrder-append g.H.Host.happens _ _ _ again.0 _ again.1 (_, c.in_err-hasher.ensures, refl)),
      ),
      (refl, (looked.0, _, again.0 ++ later, looked.2, refl, (again.0, _, later, again.2, refl, p.2))),
    )

pub returns : goal.returns
returns g c =
    let looked = c.in_ok-check_output.ensures in
    let again = c.in_ok-check_report.ensures in
    let played = c.play.ensures in
    let later = draw_keys _ ∷ played.0 in (
      open_input _ _ ∷ looked.0 ++ (again.0 ++ later),
      (
        _,
        c.in_ok-input.ensures,
        HappenInOrder-append g.H.Host.happens _ _ _ looked.0 _ looked.1
            (HappenInOrder-append g.H.Host.happens _ _ _ again.0 _ again.1 (_, c.in_ok-hasher.ensures, played.1)),
      ),
      (refl, (looked.0, _, again.0 ++ later, looked.2, refl, (again.0, _, later, again.2, refl, (_, (refl, refl, refl, refl), played.2)))),
    )
