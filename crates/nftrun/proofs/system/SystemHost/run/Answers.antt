-- Whichever way the run went, the files are those that it left, and the engine guarantees what it did.
use Rattle.nftrun.proofs.system.SystemHost.run.Goals as goal
use Rattle.nftrun.proofs.system.SystemHost.run.Goals.{else-is_closed, in-None, in-Some, then-is_closed}

pub returns : goal.returns
returns g c =
    elim c.if-is_closed.branch [
      | then-is_closed w ↦ rw w.files-is elim c.match-report.branch [
        | in-Some v ↦ rw (v.in-Some.is, v.files-is, v.input-is, v.output-is, v.outcome-is) v.run_with_progress-outcome.ensures
        | in-None v ↦ rw (v.files-is, v.input-is, v.output-is, v.outcome-is, v.in-None.is)
            (_, _, v.run_with_progress-outcome-in-None.ensures)
      ]
      | else-is_closed w ↦ rw w.files-is elim c.match-report.branch [
        | in-Some v ↦ rw (v.in-Some.is, v.files-is, v.input-is, v.output-is, v.outcome-is) v.run_with_progress-outcome.ensures
        | in-None v ↦ rw (v.files-is, v.input-is, v.output-is, v.outcome-is, v.in-None.is)
            (_, _, v.run_with_progress-outcome-in-None.ensures)
      ]
    ]
