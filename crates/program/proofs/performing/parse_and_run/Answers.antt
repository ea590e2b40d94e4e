-- The calls of the task, then the line of the status, and then its explanations.
use Rattle.std.proofs.Common.{◌++◌, [], inl, inr, refl}
use Rattle.clap.specs.Values.{kind_of}
use Rattle.program.specs.Performing.{detail_calls, status_line_calls}
use Rattle.program.proofs.Chains.{HappenInOrder-append}
use Rattle.program.proofs.performing.parse_and_run.Goals as goal

pub returns-in-Ok : goal.returns-in-Ok
returns-in-Ok g c =
    let served = c.run_task-status.ensures in (
      served.0 ++ (status_line_calls c.run_task-status.result
          ++ detail_calls c.args.terminal c.in-Ok.task c.run_task-status.result),
      HappenInOrder-append g.H.Host.happens _ _ _ served.0
          (status_line_calls c.run_task-status.result ++ detail_calls c.args.terminal c.in-Ok.task
          c.run_task-status.result) served.1
          (HappenInOrder-append g.H.Host.happens _ _ _ (status_line_calls c.run_task-status.result)
          (detail_calls c.args.terminal c.in-Ok.task c.run_task-status.result)
          c.end-code.ensures.0 c.add_details.ensures),
      (
        served.0,
        c.run_task-status.result,
        detail_calls c.args.terminal c.in-Ok.task c.run_task-status.result,
        inl (c.in-Ok.task, c.in-Ok.ensures.requested, served.2, refl),
        refl,
        c.end-code.ensures.1,
      ),
    )

pub returns-in-Err : goal.returns-in-Err
returns-in-Err g c =
    let explained = c.explain-status.ensures in (
      explained.0 ++ (status_line_calls c.explain-status.result ++ []),
      HappenInOrder-append g.H.Host.happens _ _ _ explained.0 (status_line_calls c.explain-status.result ++ [])
          explained.1
          (HappenInOrder-append g.H.Host.happens _ _ _ (status_line_calls c.explain-status.result) []
          c.end.ensures.0 refl),
      (
        explained.0,
        c.explain-status.result,
        [],
        inr (
          kind_of c.in-Err.error,
          c.in-Err.ensures.refused,
          explained.2,
          refl,
        ),
        refl,
        c.end.ensures.1,
      ),
    )
