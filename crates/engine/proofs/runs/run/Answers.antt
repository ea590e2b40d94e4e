use Rattle.engine.proofs.Names.{Consumes-nil, Err, IsBeforeHeader, Keeps-refl, LeavesPrefix, RunFault, [], ap, arith, devices, err_from_is_err_and, inl, refl}
use Rattle.list_laws.specs.Options.{IfSome_weaker}
use Rattle.std.proofs.lemmas.Result.{IfErr-weaker, IfOk-weaker}
use Rattle.engine.proofs.Meanings.{accepted_of, counts_on, counts_open, if_err_both, left_all, left_at_open, left_of_texts, no_record_fault, no_text_fault}
use Rattle.engine.proofs.Meanings.{nothing_taken, opened, refused_texts, refuses_open, refuses_within, texts_before, wrote}
use Rattle.engine.proofs.Results.{no_error, one_error}
use Rattle.engine.specs.declared.fault.RunFault.TheVariants.{Memory}
use Rattle.engine.proofs.runs.run.Goals as goal

abbrev not_before : RunFault → Type 0
not_before fault = IsBeforeHeader fault → ⊥

pub returns-in_err-checked : goal.returns-in_err-checked
returns-in_err-checked g c =
    let p = err_from_is_err_and c.from_residual.result c.from_residual.ensures.1 in
    let fault = c.in_err-checked.field-0.0 in
    let old = devices g.R.Read.remaining g.W.Write.contents g.W2.Write.contents c.args.capture.now c.args.sent.now c.args.report.now in
    let refused = refused_texts c.args.rules.now c.args.network.now old.unread old fault c.in_err-checked.ensures.refused in
    rw (p.1, p.2) (record {
      meaning = tt;
      drained = tt;
      flushed = tt;
      refused = λ is. absurd (refused.0 is);
      memory = λ is. inl (refl, refl);
      refusals = refused.1;
      unread = λ is. refl;
      before_header = λ is. (refl, refl);
      left = IfSome_weaker _ _ _ (λ bytes. left_of_texts _ _ _ fault c.in_err-checked.ensures.refused)
          (nothing_taken old.unread old old [] (Consumes-nil _) (omega arith) (Keeps-refl _, Keeps-refl _) refl);
      failures = refused.2;
    })

pub returns-in_err-records : goal.returns-in_err-records
returns-in_err-records g c =
    let state = devices g.R.Read.remaining g.W.Write.contents g.W2.Write.contents in
    let q = err_from_is_err_and c.from_residual-in_err-records.result c.from_residual-in_err-records.ensures.1 in
    let read = c.open.ensures.read in
    let old = state c.args.capture.now c.args.sent.now c.args.report.now in
    let new = state c.open.new.reader c.args.sent.now c.args.report.now in
    let error = c.in_err-records.field-0.0 in
    let accepted = accepted_of c.in_ok-checked.ensures.fine in
    let left = left_at_open accepted c.args.trace old.unread old new error read.0 read.1 read.2 (Keeps-refl _, Keeps-refl _)
    c.in_err-records.ensures.refused (λ is. c.in_err-records.ensures.broken (ap Err is))
    (λ not. c.in_err-records.ensures.no_failure (λ is. not (one_error refl is)))
    (λ is. c.in_err-records.ensures.device (ap Err is)) in
    rw (q.1, q.2) (record {
      meaning = tt;
      drained = tt;
      flushed = tt;
      refused = λ is. absurd (no_record_fault error c.in_err-records.ensures.kinds is);
      memory = λ is. inl (refl, refl);
      refusals = refuses_open c.args.rules.now c.args.network.now c.args.trace old.unread old new error accepted left;
      unread = λ is. absurd (no_text_fault error is);
      before_header = λ is. (refl, refl);
      left = left;
      failures = counts_open error old new (λ not. c.in_err-records.ensures.no_failure (λ is. not (one_error refl is)))
          (λ is. c.in_err-records.ensures.device (ap Err is)) refl refl;
    })

pub returns-in_err-engine : goal.returns-in_err-engine
returns-in_err-engine g c =
    let state = devices g.R.Read.remaining g.W.Write.contents g.W2.Write.contents in
    let q = err_from_is_err_and c.from_residual-in_err-engine.result c.from_residual-in_err-engine.ensures.1 in
    let read = c.open.ensures.read in
    let none = c.in_ok-records.ensures.no_failure no_error in
    rw (q.1, q.2) (record {
      meaning = tt;
      drained = tt;
      flushed = tt;
      refused = λ is. absurd is;
      memory = λ is. inl (refl, refl);
      refusals = tt;
      unread = λ is. absurd is;
      before_header = λ is. absurd is;
      left = IfSome_weaker _ _ _ (λ bytes. left_of_texts _ _ _ Memory tt) (nothing_taken _
          (state c.args.capture.now c.args.sent.now c.args.report.now) (state c.open.new.reader c.args.sent.now c.args.report.now)
          read.0 read.1 read.2 (Keeps-refl _, Keeps-refl _) none);
      failures = (none, refl, refl);
    })

pub returns : goal.returns
returns g c =
    let state = devices g.R.Read.remaining g.W.Write.contents g.W2.Write.contents in
    let old = state c.args.capture.now c.args.sent.now c.args.report.now in
    let mid = state c.open.new.reader c.args.sent.now c.args.report.now in
    let new = state c.replay_capture.new.capture c.replay_capture.new.sent c.replay_capture.new.report in
    let none = c.in_ok-records.ensures.no_failure no_error in
    let read = c.open.ensures.read in
    let accepted = accepted_of c.in_ok-checked.ensures.fine in
    let begun = opened old.unread c.in_ok-records.records mid.unread read.0 read.1 c.in_ok-records.ensures.drained
    c.in_ok-records.ensures.bytes in
    let left = λ (fault : RunFault) (says : LeavesPrefix c.in_ok-engine.engine.setup c.args.trace c.in_ok-records.records fault mid new).
    left_all accepted old.unread c.args.trace c.in_ok-records.records old new mid.unread c.open.new.reader.failures read.0 fault
    none read.1 read.2 c.in_ok-engine.ensures.setup begun says in
    record {
      meaning = IfOk-weaker _ _ _ (λ summary done. wrote c.one_meaning.ensures accepted old.unread c.args.trace
          c.in_ok-records.records summary mid new c.in_ok-engine.ensures.setup begun done) c.replay_capture.ensures.written;
      drained = c.replay_capture.ensures.drained;
      flushed = c.replay_capture.ensures.flushed;
      refused = c.replay_capture.ensures.refused;
      memory = c.replay_capture.ensures.memory;
      refusals = if_err_both _ _ _ _ c.replay_capture.ensures.within c.replay_capture.ensures.left (λ fault within says.
          refuses_within c.args.rules.now c.args.network.now c.args.trace old.unread old new fault accepted within (left fault says));
      unread = IfErr-weaker _ not_before _ (λ fault within is. absurd (within (texts_before fault is))) c.replay_capture.ensures.within;
      before_header = IfErr-weaker _ not_before _ (λ fault within is. absurd (within is)) c.replay_capture.ensures.within;
      left = IfErr-weaker _ _ _ left c.replay_capture.ensures.left;
      failures = counts_on c.replay_capture.result old mid new (none, refl, refl) c.replay_capture.ensures.failures;
    }
