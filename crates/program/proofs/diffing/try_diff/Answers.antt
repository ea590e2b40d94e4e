-- Each return gives its calls, in order.
use Rattle.std.proofs.Common.{[], ◌∷◌, refl}
use Rattle.std.proofs.lemmas.Result.{err_from_is_err_and}
use Rattle.program.specs.Calls.{read}
use Rattle.program.proofs.diffing.try_diff.Goals as goal

pub returns-in_err-old : goal.returns-in_err-old
returns-in_err-old g c =
    let p = err_from_is_err_and c.from_residual.result c.from_residual.ensures.1 in
    rw p.1 (read _ _ ∷ [], (_, c.in_err-old.ensures, refl), (refl, p.2))

pub returns-in_err-new : goal.returns-in_err-new
returns-in_err-new g c =
    let p = err_from_is_err_and c.from_residual-in_err-new.result c.from_residual-in_err-new.ensures.1 in
    rw p.1 (
      read _ _ ∷ read _ _ ∷ [],
      (_, c.in_ok-old.ensures, (_, c.in_err-new.ensures, refl)),
      (refl, (refl, p.2)),
    )

pub returns-in_err-network : goal.returns-in_err-network
returns-in_err-network g c =
    let p = err_from_is_err_and c.from_residual-in_err-network.result c.from_residual-in_err-network.ensures.1 in
    rw p.1 (
      read _ _ ∷ read _ _ ∷ read _ _ ∷ [],
      (_, c.in_ok-old.ensures, (_, c.in_ok-new.ensures, (_, c.in_err-network.ensures, refl))),
      (refl, (refl, (refl, p.2))),
    )

pub returns : goal.returns
returns g c =
    let told = c.compare.ensures in (
      read _ _ ∷ read _ _ ∷ read _ _ ∷ told.0,
      (_, c.in_ok-old.ensures, (_, c.in_ok-new.ensures, (_, c.in_ok-network.ensures, told.1))),
      (
        refl,
        (refl, (refl, rw (← c.deref.ensures.value, ← c.deref-2.ensures.value, ← c.deref-3.ensures.value) told.2)),
      ),
    )
