use Rattle.stepping.proofs.Names.{err_from_is_err_and}
use Rattle.stepping.proofs.StepsTaken.{beside, stopped, went_on}
use Rattle.stepping.proofs.hooks.forward_and_postrouting.Goals as goal

pub returns-in_err-run : goal.returns-in_err-run
returns-in_err-run c =
    let q = err_from_is_err_and c.from_residual.result c.from_residual.ensures.1 in
    rw (q.1, q.2) (record { took = beside _ (stopped _ (c.in_err-run.ensures.took _)) })

pub returns-in_err-run-2 : goal.returns-in_err-run-2
returns-in_err-run-2 c =
    let q = err_from_is_err_and c.from_residual-in_err-run-2.result c.from_residual-in_err-run-2.ensures.1 in
    rw (q.1, q.2) (record {
      took = beside _ (went_on (c.in_ok-run.ensures.took _) (stopped _ (c.in_err-run-2.ensures.took _)));
    })

pub returns-in_err-translate_source : goal.returns-in_err-translate_source
returns-in_err-translate_source c =
    let q = err_from_is_err_and c.from_residual-in_err-translate_source.result c.from_residual-in_err-translate_source.ensures.1 in
    rw (q.1, q.2) (record {
      took = beside _ (went_on (c.in_ok-run.ensures.took _) (went_on (c.in_ok-run-2.ensures.took _)
          (stopped _ c.in_err-translate_source.ensures.took)));
    })

pub returns : goal.returns
returns c = record {
  took = beside _ (went_on (c.in_ok-run.ensures.took _) (went_on (c.in_ok-run-2.ensures.took _)
      (went_on c.in_ok-translate_source.ensures.took (c.run-3.ensures.took _))));
}
