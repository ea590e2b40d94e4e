-- Each return gives the comparison with OUT, and the creation of the file.
use Rattle.std.proofs.Common.{Err, [], ◌∷◌, ap, refl}
use Rattle.std.proofs.lemmas.Result.{err_from_is_err_and}
use Rattle.program.specs.Calls.{create}
use Rattle.program.specs.declared.status.Status.{Status}
use Rattle.program.proofs.Chains.{HappenInOrder-append}
use Rattle.program.proofs.Looks.{made-by}
use Rattle.program.proofs.replaying.create_report.Goals as goal

pub returns-in_err-create : goal.returns-in_err-create
returns-in_err-create g c =
    let p = err_from_is_err_and c.from_residual-in_err-create.result c.from_residual-in_err-create.ensures.1 in
    let looked = c.in_ok-check_output_path.ensures in
    rw p.1 (
      _,
      HappenInOrder-append g.H.Host.happens _ _ _ looked.0 (create _ _ ∷ []) looked.1
          (_, c.in_err-create.ensures, refl),
      made-by c.args.task.now.report c.in-Some.file c.args.task.now.paths looked.0 _ (create _ _ ∷ []) _
          c.in-Some.is looked.2 (refl, ap (λ (end : Status). Err end) p.2),
    )

pub returns : goal.returns
returns g c =
    let looked = c.in_ok-check_output_path.ensures in (
      _,
      HappenInOrder-append g.H.Host.happens _ _ _ looked.0 (create _ _ ∷ []) looked.1 (_, c.in_ok-create.ensures, refl),
      made-by c.args.task.now.report c.in-Some.file c.args.task.now.paths looked.0 _ (create _ _ ∷ []) _
          c.in-Some.is looked.2 (refl, refl),
    )
