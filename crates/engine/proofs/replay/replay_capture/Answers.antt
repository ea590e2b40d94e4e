use Rattle.engine.proofs.Names.{CaptureFault, Err, Keeps-refl, Option, ap, devices, err_from_is_err_and, inl, inr, input_at, refl, ◌∙◌}
use Rattle.engine.proofs.Results.{no_device, no_error, same_error}
use Rattle.engine.proofs.Texts.{all_written, counts_begun, counts_ending, counts_later, fault_leaves_begun}
use Rattle.engine.proofs.Texts.{fault_leaves_ended, leaves_as, of_each, of_memory, of_no_record, within_end, writer_failed_at}
use Rattle.engine.specs.declared.runs.Summary.{Summary}
use Rattle.devices.specs.declared.counted.Counted.{Counted}
use Rattle.engine.proofs.replay.replay_capture.Goals as goal

-- ---- the output capture can't be begun

pub returns-in_err-replay : goal.returns-in_err-replay
returns-in_err-replay g c =
    let q = err_from_is_err_and c.from_residual.result c.from_residual.ensures.1 in
    let old = devices g.R.Read.remaining g.W.Write.contents g.W2.Write.contents c.args.capture.now c.args.sent.now
    c.args.report.now in
    let error = c.in_err-replay.field-0.0 in
    rw (q.1, q.2) (record {
      written = tt;
      drained = tt;
      flushed = tt;
      refused = λ is. absurd ((of_no_record error).0 is);
      memory = λ is. inl (c.in_err-replay.ensures.memory (ap Err (of_memory error refl is)), refl);
      within = (of_no_record error).1;
      left = fault_leaves_begun c.args.engine.setup c.args.trace c.args.records old
          (g.W.Write.contents c.new.new.sent.inner) c.new.new.sent.failures error c.requires.opened.3
          c.in_err-replay.ensures.part (λ e. rw (c.in_err-replay.ensures.memory (ap Err e)) (Keeps-refl _))
          (λ e. c.in_err-replay.ensures.device (ap Err e));
      failures = counts_begun error old (g.W.Write.contents c.new.new.sent.inner) c.new.new.sent.failures
          (λ e. c.in_err-replay.ensures.device (ap Err e))
          (λ e. ap (λ (w : Counted g.row.W.Denot). w.failures) (c.in_err-replay.ensures.memory (ap Err e)));
    })

-- ---- a fault interrupts the records

pub returns-in_err-stop : goal.returns-in_err-stop
returns-in_err-stop g c =
    let q = err_from_is_err_and c.from_residual-in_err-stop.result c.from_residual-in_err-stop.ensures.1 in
    let state = devices g.R.Read.remaining g.W.Write.contents g.W2.Write.contents in
    let old = state c.args.capture.now c.args.sent.now c.args.report.now in
    rw (q.1, q.2) (record {
      written = tt;
      drained = tt;
      flushed = tt;
      refused = c.in_err-stop.ensures.refused;
      memory = λ is. inr (c.in_err-stop.ensures.flushed (same_error refl refl is));
      within = c.in_err-stop.ensures.within;
      left = λ rules box capture accepted header unread same is. inl (leaves_as (input_at accepted capture header c.args.trace (record old { unread = unread })) old
          (state c.args.capture.now c.new.new.sent c.args.report.now)
          (state c.replay_records.new.capture c.replay_records.new.sent c.replay_records.new.report) c.in_err-stop.field-0.0
          (refl, c.in_ok-replay.ensures.no_failure, refl) (of_each old c.in_ok-replay.ensures.same.1
          c.in_ok-replay.ensures.begun c.in_err-stop.ensures.replayed rules box capture accepted header unread same is));
      failures = counts_later (Option CaptureFault) Summary c.in_err-stop.field-0.0 old (state c.args.capture.now c.new.new.sent c.args.report.now)
          (state c.replay_records.new.capture c.replay_records.new.sent c.replay_records.new.report)
          (refl, c.in_ok-replay.ensures.no_failure, refl) c.in_err-stop.ensures.failures;
    })

-- ---- the records stop, and a fault comes then

pub returns-in_err-torn : goal.returns-in_err-torn
returns-in_err-torn g c =
    let q = err_from_is_err_and c.from_residual-in_err-torn.result c.from_residual-in_err-torn.ensures.1 in
    let none = c.in_ok-stop.ensures.failures in
    let state = devices g.R.Read.remaining g.W.Write.contents g.W2.Write.contents in
    let old = state c.args.capture.now c.args.sent.now c.args.report.now in
    let fault = c.in_err-torn.field-0.0 in
    rw (q.1, q.2) (record {
      written = tt;
      drained = tt;
      flushed = tt;
      refused = c.in_err-torn.ensures.refused;
      memory = λ is. inr (c.in_err-torn.ensures.flushed (no_device refl refl is));
      within = within_end c.in_ok-stop.stop fault c.in_ok-stop.ensures.stop c.in_err-torn.ensures.fault;
      left = λ rules box capture accepted header unread same is. let i = of_each old c.in_ok-replay.ensures.same.1
          c.in_ok-replay.ensures.begun c.in_ok-stop.ensures.replayed rules box capture accepted header unread same is in
          inl (fault_leaves_ended c.in_ok-stop.stop old
          (state c.replay_records.new.capture c.finish.new.sent c.finish.new.report) c.replay_records.new.report.failures fault
          c.in_ok-stop.ensures.stop none.0 none.2 (writer_failed_at fault old
          (state c.replay_records.new.capture c.replay_records.new.sent c.replay_records.new.report)
          (state c.replay_records.new.capture c.finish.new.sent c.finish.new.report)
          (none.0, none.1 ∙ c.in_ok-replay.ensures.no_failure, none.2) c.in_err-torn.ensures.failures)
          i (c.in_err-torn.ensures.finished _ _ i.replay_represents));
      failures = counts_ending fault old (state c.replay_records.new.capture c.replay_records.new.sent c.replay_records.new.report)
          (state c.replay_records.new.capture c.finish.new.sent c.finish.new.report)
          (none.0, none.1 ∙ c.in_ok-replay.ensures.no_failure, none.2) refl c.in_err-torn.ensures.failures;
    })

-- ---- all is written

pub returns : goal.returns
returns g c =
    let old = devices g.R.Read.remaining g.W.Write.contents g.W2.Write.contents c.args.capture.now c.args.sent.now c.args.report.now in
    let none = c.in_ok-stop.ensures.failures in
    let finished = c.in_ok-torn.ensures.failures in
    record {
      written = λ rules box capture accepted header unread same is.
          let i = of_each old c.in_ok-replay.ensures.same.1 c.in_ok-replay.ensures.begun c.in_ok-stop.ensures.replayed rules box
          capture accepted header unread same is in
          let finished = c.in_ok-torn.ensures.finished _ _ i.replay_represents in (
            _,
            _,
            all_written c.in_ok-stop.stop i c.in_ok-torn.torn _ c.in_ok-torn.ensures.torn
                (c.records.ensures ∙ c.finish.ensures.records),
            finished.0,
            finished.1,
          );
      drained = c.in_ok-stop.ensures.drained c.in_ok-torn.torn c.in_ok-torn.ensures.torn;
      flushed = c.in_ok-torn.ensures.flushed no_error;
      refused = tt;
      memory = λ is. absurd (no_error is);
      within = tt;
      left = tt;
      failures = (none.0, finished.1 ∙ none.1 ∙ c.in_ok-replay.ensures.no_failure, finished.2 ∙ none.2);
    }
