-- Each return gives its calls, in order.
use Rattle.std.proofs.Common.{[], ◌∷◌, refl}
use Rattle.std.proofs.lemmas.Result.{err_from_is_err_and}
use Rattle.program.specs.Calls.{read}
use Rattle.program.proofs.replaying.try_replay.Goals as goal

pub returns-in_err-rules : goal.returns-in_err-rules
returns-in_err-rules g c =
    let p = err_from_is_err_and c.from_residual.result c.from_residual.ensures.1 in
    rw p.1 (read _ _ ∷ [], (_, c.in_err-rules.ensures, refl), (refl, p.2))

pub returns-in_err-network : goal.returns-in_err-network
returns-in_err-network g c =
    let p = err_from_is_err_and c.from_residual-in_err-network.result c.from_residual-in_err-network.ensures.1 in
    rw p.1 (
      read _ _ ∷ read _ _ ∷ [],
      (_, c.in_ok-rules.ensures, (_, c.in_err-network.ensures, refl)),
      (refl, (refl, p.2)),
    )

pub returns : goal.returns
returns g c =
    let went = c.replay_texts.ensures in (
      read _ _ ∷ read _ _ ∷ went.0,
      (_, c.in_ok-rules.ensures, (_, c.in_ok-network.ensures, went.1)),
      (refl, (refl, rw (← c.deref.ensures.value, ← c.deref-2.ensures.value) went.2)),
    )
