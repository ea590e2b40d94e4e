use Rattle.engine.proofs.Names.{err_from_is_err_and}
use Rattle.engine.proofs.WritingOutputs.{all_drained, part_undrained, part_unsent, prefix_written, still_written}
use Rattle.engine.proofs.replay.Replay.close.Goals as goal

pub returns-in_err-finish-clause-written : goal.returns-in_err-finish-clause-written
returns-in_err-finish-clause-written g c =
    let q = err_from_is_err_and c.from_residual.result c.from_residual.ensures.1 in
    rw q.1 (λ start history p. part_unsent p _ c.in_err-finish.ensures.part)

pub returns-in_err-drain-clause-written : goal.returns-in_err-drain-clause-written
returns-in_err-drain-clause-written g c =
    let q = err_from_is_err_and c.from_residual-in_err-drain.result c.from_residual-in_err-drain.ensures.1 in
    rw q.1 (λ start history p. part_undrained p _ _ _ c.rules.ensures
    c.in_ok-finish.ensures.ok c.in_err-drain.ensures.part)

pub returns-in-Ok-clause-written : goal.returns-in-Ok-clause-written
returns-in-Ok-clause-written g c = λ start history p.
    let done = all_drained p _ c.drain.new.self c.finish.new.self _ _ c.rules.ensures
    c.in_ok-finish.ensures.ok c.in_ok-finish.ensures.empty c.in_ok-drain.ensures.ok in
    still_written start history _ _ _ done.1 c.flush.ensures.bytes

pub returns-in-Err-clause-written : goal.returns-in-Err-clause-written
returns-in-Err-clause-written g c = λ start history p.
    let done = all_drained p _ c.drain.new.self c.finish.new.self _ _ c.rules.ensures
    c.in_ok-finish.ensures.ok c.in_ok-finish.ensures.empty c.in_ok-drain.ensures.ok in
    prefix_written start history _ _ (still_written start history _ _ _ done.1 c.flush.ensures.bytes)
