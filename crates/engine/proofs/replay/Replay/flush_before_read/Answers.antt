use Rattle.engine.proofs.Names.{err_from_is_err_and}
use Rattle.engine.proofs.WritingOutputs.{all_drained, part_undrained, part_unsent}
use Rattle.engine.proofs.replay.Replay.flush_before_read.Goals as goal

pub returns-in_err-send-clause-kept : goal.returns-in_err-send-clause-kept
returns-in_err-send-clause-kept g c =
    let q = err_from_is_err_and c.from_residual.result c.from_residual.ensures.1 in
    rw q.1 (λ start history p. part_unsent p _ c.in_err-send.ensures.part)

pub returns-in_err-drain-clause-kept : goal.returns-in_err-drain-clause-kept
returns-in_err-drain-clause-kept g c =
    let q = err_from_is_err_and c.from_residual-in_err-drain.result c.from_residual-in_err-drain.ensures.1 in
    rw q.1 (λ start history p. part_undrained p _ _ _ c.rules.ensures
    c.in_ok-send.ensures.ok c.in_err-drain.ensures.part)

pub returns-clause-kept : goal.returns-clause-kept
returns-clause-kept g c = λ start history p.
    (all_drained p _ c.drain.new.self c.send.new.self _ _ c.rules.ensures c.in_ok-send.ensures.ok c.in_ok-send.ensures.empty
    c.in_ok-drain.ensures.ok).0

pub returns-clause-written : goal.returns-clause-written
returns-clause-written g c = λ unready start history p.
    (all_drained p _ c.drain.new.self c.send.new.self _ _ c.rules.ensures c.in_ok-send.ensures.ok c.in_ok-send.ensures.empty
    c.in_ok-drain.ensures.ok).1
