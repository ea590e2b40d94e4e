use Rattle.stepping.proofs.Names.{err_from_is_err_and}
use Rattle.stepping.proofs.StepsTaken.{stopped, went_on}
use Rattle.stepping.proofs.hooks.prerouting.Goals as goal

pub returns-in_err-run : goal.returns-in_err-run
returns-in_err-run c =
    let q = err_from_is_err_and c.from_residual.result c.from_residual.ensures.1 in
    rw (q.1, q.2) (record { took = stopped _ (c.in_err-run.ensures.took _) })

pub returns-in_err-translate_destination : goal.returns-in_err-translate_destination
returns-in_err-translate_destination c =
    let q = err_from_is_err_and c.from_residual-in_err-translate_destination.result c.from_residual-in_err-translate_destination.ensures.1 in
    rw (q.1, q.2) (record {
      took = went_on (c.in_ok-run.ensures.took _) (stopped _ c.in_err-translate_destination.ensures.took);
    })

pub returns : goal.returns
returns c = record {
  took = went_on (c.in_ok-run.ensures.took _)
      (went_on c.in_ok-translate_destination.ensures.took (c.run-2.ensures.took _));
}
