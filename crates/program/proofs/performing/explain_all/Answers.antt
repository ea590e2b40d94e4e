-- What the status means, and then what of the capture may mislead.
use Rattle.program.specs.Performing.{meaning_calls, remark_calls}
use Rattle.program.proofs.Chains.{HappenInOrder-append}
use Rattle.program.proofs.performing.explain_all.Goals as goal

pub returns : goal.returns
returns g c =
    HappenInOrder-append g.H.Host.happens _ _ _ (meaning_calls c.args.task.now c.args.status)
    (remark_calls c.args.task.now c.args.status) c.explain_status.ensures c.remark_on_capture.ensures
