-- Comparing is one call.
use Rattle.std.proofs.Common.{[], ◌∷◌, refl}
use Rattle.std.proofs.lemmas.Result.{err_from_is_err_and}
use Rattle.program.specs.Calls.{diff}
use Rattle.program.proofs.diffing.tell.Goals as goal

pub returns-in_err-diff : goal.returns-in_err-diff
returns-in_err-diff g c =
    let p = err_from_is_err_and c.from_residual.result c.from_residual.ensures.1 in
    rw p.1 (diff _ _ ∷ [], (_, c.in_err-diff.ensures, refl), (refl, refl, refl, refl, p.2))

pub returns : goal.returns
returns g c = (diff _ _ ∷ [], (_, c.in_ok-diff.ensures, refl), (refl, refl, refl, refl, refl))
