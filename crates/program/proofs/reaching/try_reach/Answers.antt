-- Each return gives its calls, in order.
use Rattle.std.proofs.Common.{[], ◌∷◌, refl}
use Rattle.std.proofs.lemmas.Result.{err_from_is_err_and}
use Rattle.program.specs.Calls.{read, reach}
use Rattle.program.proofs.reaching.try_reach.Goals as goal

pub returns-in_err-rules : goal.returns-in_err-rules
returns-in_err-rules g c =
    let p = err_from_is_err_and c.from_residual.result c.from_residual.ensures.1 in
    rw p.1 (read _ _ ∷ [], (_, c.in_err-rules.ensures, refl), (refl, p.2))

pub returns-in_err-network : goal.returns-in_err-network
returns-in_err-network g c =
    let p = err_from_is_err_and c.from_residual-in_err-network.result c.from_residual-in_err-network.ensures.1 in
    rw p.1 (
      read _ _ ∷ read _ _ ∷ [],
      (_, c.in_ok-rules.ensures, (_, c.in_err-network.ensures, refl)),
      (refl, (refl, p.2)),
    )

pub returns-in_err-reach : goal.returns-in_err-reach
returns-in_err-reach g c =
    let p = err_from_is_err_and c.from_residual-in_err-reach.result c.from_residual-in_err-reach.ensures.1 in
    rw p.1 (
      read _ _ ∷ read _ _ ∷ reach _ _ _ _ ∷ [],
      (_, c.in_ok-rules.ensures, (_, c.in_ok-network.ensures, (_, c.in_err-reach.ensures, refl))),
      (refl, (refl, (refl, c.deref.ensures.value, refl, p.2))),
    )

pub returns : goal.returns
returns g c = (
  read _ _ ∷ read _ _ ∷ reach _ _ _ _ ∷ [],
  (_, c.in_ok-rules.ensures, (_, c.in_ok-network.ensures, (_, c.in_ok-reach.ensures, refl))),
  (refl, (refl, (refl, c.deref.ensures.value, refl, refl))),
)
