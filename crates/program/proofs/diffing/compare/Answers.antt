-- FILTER is read, if there is one.
use Rattle.std.proofs.Common.{[], ◌∷◌, refl}
use Rattle.std.proofs.lemmas.Result.{err_from_is_err_and}
use Rattle.program.specs.Calls.{read}
use Rattle.program.proofs.diffing.compare.Goals as goal

pub returns-in_err-filter : goal.returns-in_err-filter
returns-in_err-filter g c =
    let p = err_from_is_err_and c.from_residual.result c.from_residual.ensures.1 in
    rw (c.in-Some.is, p.1) (read _ _ ∷ [], (_, c.in_err-filter.ensures, refl), (refl, p.2))

pub returns : goal.returns
returns g c =
    let told = c.tell-2.ensures in
    rw c.in-Some.is (
      read _ _ ∷ told.0,
      (_, c.in_ok-filter.ensures, told.1),
      (refl, rw (← c.deref.ensures.value) told.2),
    )
