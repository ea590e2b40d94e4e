-- Each return gives its calls, in order.
use Rattle.std.proofs.Common.{[], ◌∷◌, refl}
use Rattle.std.proofs.lemmas.Result.{err_from_is_err_and}
use Rattle.program.specs.Calls.{read, judge, print_accepted}
use Rattle.program.proofs.examining.try_examine.Goals as goal

pub returns-in_err-rules : goal.returns-in_err-rules
returns-in_err-rules g c =
    let p = err_from_is_err_and c.from_residual.result c.from_residual.ensures.1 in
    rw p.1 (read _ _ ∷ [], (_, c.in_err-rules.ensures, refl), (refl, p.2))

pub returns-in_err-network : goal.returns-in_err-network
returns-in_err-network g c =
    let p = err_from_is_err_and c.from_residual-in_err-network.result c.from_residual-in_err-network.ensures.1 in
    rw p.1 (
      read _ _ ∷ read _ _ ∷ [],
      (_, c.in_ok-rules.ensures, (_, c.in_err-network.ensures, refl)),
      (refl, (refl, p.2)),
    )

pub returns-in_err-counts : goal.returns-in_err-counts
returns-in_err-counts g c =
    let p = err_from_is_err_and c.from_residual-in_err-counts.result c.from_residual-in_err-counts.ensures.1 in
    rw p.1 (
      read _ _ ∷ read _ _ ∷ judge _ _ _ ∷ [],
      (_, c.in_ok-rules.ensures, (_, c.in_ok-network.ensures, (_, c.in_err-counts.ensures, refl))),
      (refl, (refl, (refl, c.deref.ensures.value, p.2))),
    )

pub returns-in_err-print_accepted : goal.returns-in_err-print_accepted
returns-in_err-print_accepted g c =
    let p = err_from_is_err_and c.from_residual-in_err-print_accepted.result
    c.from_residual-in_err-print_accepted.ensures.1 in
    rw p.1 (
      read _ _ ∷ read _ _ ∷ judge _ _ _ ∷ print_accepted _ _ ∷ [],
      (
        _,
        c.in_ok-rules.ensures,
        (
          _,
          c.in_ok-network.ensures,
          (_, c.in_ok-counts.ensures, (_, c.in_err-print_accepted.ensures, refl)),
        ),
      ),
      (refl, (refl, (refl, c.deref.ensures.value, (refl, p.2)))),
    )

pub returns : goal.returns
returns g c = (
  read _ _ ∷ read _ _ ∷ judge _ _ _ ∷ print_accepted _ _ ∷ [],
  (
    _,
    c.in_ok-rules.ensures,
    (
      _,
      c.in_ok-network.ensures,
      (_, c.in_ok-counts.ensures, (_, c.in_ok-print_accepted.ensures, refl)),
    ),
  ),
  (refl, (refl, (refl, c.deref.ensures.value, (refl, refl)))),
)
