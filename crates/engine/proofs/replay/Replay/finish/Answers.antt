use Rattle.engine.proofs.Names.{err_from_is_err_and, inl, inr, sym, ◌∙◌}
use Rattle.std.proofs.Common.{arith}
use Rattle.engine.proofs.WritingOutputs.{all_sent, closed, lines_all, lines_part, part_unsent}
use Rattle.engine.proofs.replay.Replay.finish.Goals as goal

pub returns-in_err-finish-in-Ok-clause-finished : goal.returns-in_err-finish-in-Ok-clause-finished
returns-in_err-finish-in-Ok-clause-finished g c =
    let q = err_from_is_err_and c.from_residual.result c.from_residual.ensures.1 in
    rw q.1 (rw q.2 (λ start history p.
    inl (part_unsent p _ c.in_err-finish-in-Ok.ensures.part)))

pub returns-in_err-lines-in-Ok-clause-finished : goal.returns-in_err-lines-in-Ok-clause-finished
returns-in_err-lines-in-Ok-clause-finished g c =
    let q = err_from_is_err_and c.from_residual-in_err-lines-in-Ok.result
    c.from_residual-in_err-lines-in-Ok.ensures.1 in
    rw q.1 (rw q.2 (λ start history p. inr (
      c.in-Ok.torn,
      sym c.torn_at.ensures ∙ c.in-Ok.is,
      (
        all_sent p _ c.in_ok-finish-in-Ok.ensures.ok,
        closed p _ (lines_part _ _ _) c.rules.ensures (c.live-live.ensures history p.represents) c.in_err-lines-in-Ok.ensures.part,
      ),
      c.in_err-lines-in-Ok.ensures.device,
    )))

pub returns-in_ok-lines-in-Ok-clause-finished : goal.returns-in_ok-lines-in-Ok-clause-finished
returns-in_ok-lines-in-Ok-clause-finished g c =
    grind (arith, all_sent, c.in_ok-finish-in-Ok.ensures.ok, closed, lines_all, c.rules.ensures, c.live-live.ensures, c.in_ok-lines-in-Ok.ensures.ok)

pub returns-in_err-close-in-Err-clause-finished : goal.returns-in_err-close-in-Err-clause-finished
returns-in_err-close-in-Err-clause-finished g c =
    let q = err_from_is_err_and c.from_residual-in_err-close-in-Err.result
    c.from_residual-in_err-close-in-Err.ensures.1 in
    rw q.1 (rw q.2 (λ start history p. inl (c.in_err-close-in-Err.ensures.written start history p)))
