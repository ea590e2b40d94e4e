-- The texts are judged as the comparison promises, whether or not its lines could be printed.
use Rattle.std.specs.declared.io.ErrorKind.{ErrorKind}
use Rattle.std.specs.declared.io.ErrorKind.TheVariants.{OutOfMemory}
use Rattle.std.proofs.Common.{Err}
use Rattle.std.proofs.lemmas.Result.{err_from_is_err_and}
use Rattle.engine.specs.declared.fault.RunFault.TheVariants as faults
use Rattle.program.specs.Status.{fault_of_kind}
use Rattle.program.specs.declared.diffing.DiffInputs.{DiffInputs}
use Rattle.program.specs.declared.fault.DiffFault.{DiffFault}
use Rattle.program.specs.declared.fault.DiffFault.TheVariants.{Fault, Rules, TooLarge}
use Rattle.nftrun.specs.steps.Comparisons.{AreAccepted, Compared, IsRefused}
use Rattle.nftrun.proofs.system.SystemHost.diff.Goals as goal

refused : (i : DiffInputs) (fault : DiffFault) → IsRefused i fault → Compared i (Err fault)
refused i TooLarge is = is
refused i (Rules role fault) is = is
refused i (Fault (faults.Rules fault)) is = absurd is
refused i (Fault (faults.Box fault)) is = is
refused i (Fault (faults.Capture fault)) is = absurd is
refused i (Fault faults.Device) is = absurd is
refused i (Fault faults.Memory) is = is

unprinted : (i : DiffInputs) (kind : ErrorKind) → AreAccepted i → Compared i (Err (Fault (fault_of_kind kind)))
unprinted i OutOfMemory is = tt
unprinted i _ is = is

pub returns-in_err-found : goal.returns-in_err-found
returns-in_err-found g c =
    let p = err_from_is_err_and c.from_residual.result c.from_residual.ensures.1 in
    rw p.1 rw p.2 (refused c.args.inputs _ c.in_err-found.ensures.refused)

pub returns-in_err-keep : goal.returns-in_err-keep
returns-in_err-keep g c =
    let p = err_from_is_err_and c.from_residual-in_err-keep.result c.from_residual-in_err-keep.ensures.1 in
    rw p.1 rw p.2 (unprinted c.args.inputs _ c.in_ok-found.ensures.told)

pub returns : goal.returns
returns g c = c.in_ok-found.ensures.told
