-- The explanation of the status, then all faults, and then what nft(8) refuses.
use Rattle.std.proofs.Common.{◌++◌}
use Rattle.program.specs.Performing.{explanation_calls, all_faults_calls, nft_calls}
use Rattle.program.proofs.Chains.{HappenInOrder-append}
use Rattle.program.proofs.performing.add_details.Goals as goal

pub returns : goal.returns
returns g c =
    let task = c.args.task.now in
    let listed = all_faults_calls task c.args.status in
    let warned = nft_calls task c.args.status in
    HappenInOrder-append g.H.Host.happens _ _ _ (explanation_calls c.args.terminal task c.args.status) (listed ++ warned)
    c.explain_if_asked.ensures
    (HappenInOrder-append g.H.Host.happens _ _ _ listed warned c.list_faults.ensures c.warn_of_nft.ensures)
