-- The texts are judged as the analysis promises, whether or not its lines could be printed.
use Rattle.std.specs.declared.io.ErrorKind.{ErrorKind}
use Rattle.std.specs.declared.io.ErrorKind.TheVariants.{OutOfMemory}
use Rattle.std.proofs.Common.{◌≡◌, Err, subst}
use Rattle.std.proofs.lemmas.Result.{err_from_is_err_and}
use Rattle.nft_tree.specs.Tree.{Text}
use Rattle.engine.specs.Meaning.{Accepted}
use Rattle.engine.specs.declared.fault.RunFault.TheVariants.{Box, Capture, Device, Memory, Rules}
use Rattle.program.specs.Status.{fault_of_kind}
use Rattle.program.specs.declared.fault.ReachFault.{ReachFault}
use Rattle.program.specs.declared.fault.ReachFault.TheVariants.{Fault, TooLarge}
use Rattle.nftrun.specs.steps.Analyses.{Answers, Unanswered}
use Rattle.nftrun.proofs.system.SystemHost.reach.Goals as goal

unanswered : (rules box : Text) (fault : ReachFault) → Unanswered rules box fault → Answers rules box (Err fault)
unanswered rules box TooLarge is = is
unanswered rules box (Fault (Rules fault)) is = is
unanswered rules box (Fault (Box fault)) is = is
unanswered rules box (Fault (Capture fault)) is = is
unanswered rules box (Fault Device) is = absurd is
unanswered rules box (Fault Memory) is = is

unprinted : (rules box : Text) (kind : ErrorKind) → Accepted rules box → Answers rules box (Err (Fault (fault_of_kind kind)))
unprinted rules box OutOfMemory is = tt
unprinted rules box _ is = is

of_text : (text rules box : Text) (fault : ReachFault) → text ≡ rules → Unanswered text box fault → Answers rules box (Err fault)
of_text text rules box fault same is = subst (λ (t : Text). Answers t box (Err fault)) same (unanswered text box fault is)

pub returns-in_err-found : goal.returns-in_err-found
returns-in_err-found g c =
    let p = err_from_is_err_and c.from_residual.result c.from_residual.ensures.1 in
    rw p.1 rw p.2 (of_text _ _ _ _ c.deref.ensures.value c.in_err-found.ensures.refused)

pub returns-in_err-keep : goal.returns-in_err-keep
returns-in_err-keep g c =
    let p = err_from_is_err_and c.from_residual-in_err-keep.result c.from_residual-in_err-keep.ensures.1 in
    rw p.1 rw p.2 rw (← c.deref.ensures.value) (unprinted _ _ _ c.in_ok-found.ensures.told.accepted)

pub returns : goal.returns
returns g c = rw (← c.deref.ensures.value) c.in_ok-found.ensures.told.accepted
