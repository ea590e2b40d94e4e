use Rattle.engine.proofs.Names.{Bool, CaptureFault, CaptureState, Device, EngineState, Err, IsAtEnd, List, OfBegun, Ok, Option, Some, [], ap, arith}
use Rattle.engine.proofs.Names.{devices, err_from_is_err_and, false, inl, inr, is_ready, one_failure, refl, start_of, sym, torn_at, true, ℕ, ◌∙◌, ◌≡◌}
use Rattle.engine.proofs.Replays.{AtRead, begun, cut, ended, halted, halted_at, lacks, more, refused, still}
use Rattle.engine.proofs.Results.{no_error, no_memory, no_read, no_value, not_taken}
use Rattle.engine.proofs.Texts.{counts_ending, writer_failed}
use Rattle.engine.proofs.WritingOutputs.{broke_writing}
use Rattle.pcap_io.specs.declared.fault.CaptureError.TheVariants as errors
use Rattle.pcap_io.specs.declared.fault.CaptureFault.TheVariants as captures
use Rattle.std.proofs.Common.{IsNone, is_some, ◌≢◌, ◌+◌}
use Rattle.std.proofs.lemmas.Bool.{false_from_ne_true}
use Rattle.engine.proofs.replay.Replay.replay_records.Given as given
use Rattle.engine.proofs.replay.Replay.replay_records.Goals as goal
use Rattle.engine.proofs.replay.Replay.replay_records.Goals.{After-next}

-- the capture ended inside a record
torn_end : (fault : CaptureFault) (torn : Bool) → torn_at (Some fault) ≡ Ok torn → fault ≡ captures.TornEnd
torn_end fault torn is = grind arith

-- ---- after the call of the capture

module _ (g : given.Over) (c : After-next g) where
  abbrev reported : Option (List ℕ)
  reported = g.W2.Write.contents c.flush_before_read.new.report.inner

  going : IsNone c.flush_before_read.new.self.records.fault
  going = ap (λ (s : CaptureState). is_some s.fault) c.flush_before_read.ensures.same.1 ∙ ap is_some c.each.invariant.going

  -- a replay notes each record
  counts : (c.flush_before_read.new.self.engine.records ≡ c.flush_before_read.new.self.records.count)
      × (c.flush_before_read.new.self.report.records ≡ c.flush_before_read.new.self.records.count)
  counts =
      let flushed = c.flush_before_read.ensures.same in
      let count = ap (λ (s : CaptureState). s.count) (sym flushed.1) in (
        ap (λ (e : EngineState). e.records) flushed.0 ∙ c.each.invariant.taken ∙ count,
        flushed.2 ∙ c.each.invariant.noted ∙ count,
      )

  -- no call failed
  wrote : (c.flush_before_read.new.sent.failures ≡ c.args.sent.now.failures)
      × (c.flush_before_read.new.report.failures ≡ c.args.report.now.failures)
  wrote =
      let none = c.in_ok-flush_before_read.ensures.failures in
      (none.1 ∙ c.each.invariant.write_calm, none.2 ∙ c.each.invariant.write_without_failure)

  calm : c.next.result ≢ Err errors.Device → c.next.new.reader.failures ≡ c.args.capture.now.failures
  calm not = c.next.ensures.no_failure going not ∙ c.each.invariant.read_calm

  broken : c.next.result ≡ Err errors.Device → c.next.new.reader.failures ≡ one_failure c.args.capture.now.failures
  broken is = c.next.ensures.device going is ∙ ap one_failure c.each.invariant.read_calm

  drained : c.next.new.self.ended ≡ true → IsAtEnd (g.R.Read.remaining c.next.new.reader.inner)
  drained = c.next.ensures.drained (rw c.flush_before_read.ensures.same.1 c.each.invariant.drained)

  -- the records so far, whose output is written
  read : OfBegun c.args.self.now
      (devices g.R.Read.remaining g.W.Write.contents g.W2.Write.contents c.args.capture.now c.args.sent.now c.args.report.now)
      (λ input. AtRead c.flush_before_read.new.self c.next.new.self input c.next.result
      (g.R.Read.remaining c.each.capture.inner) (g.R.Read.remaining c.next.new.reader.inner)
      (g.W.Write.contents c.flush_before_read.new.sent.inner) (g.W2.Write.contents c.flush_before_read.new.report.inner))
  read = λ input same is p.
      let so_far = c.each.invariant.carried input same is p in
      let flushed = c.flush_before_read.ensures.same in
      record {
        carried = record {
          history = so_far.history;
          behind = rw flushed.1 so_far.behind;
          replay_represents = c.in_ok-flush_before_read.ensures.kept _ _ so_far.replay_represents;
        };
        noted = counts.1;
        kept = c.next.ensures.format;
        at_end = rw flushed.1 c.each.invariant.drained;
        takes = c.next.ensures.read;
        drained = drained;
        few = c.next.ensures.room;
        says = c.next.ensures.next_answers going;
      }

-- ---- the records

pub each-init : goal.each-init
each-init g c =
    let opened = c.requires.opened in
    record {
      going = opened.0;
      taken = c.requires.represents.records ∙ sym opened.1;
      noted = c.requires.none ∙ sym opened.1;
      read_calm = refl;
      write_calm = refl;
      write_without_failure = refl;
      few = opened.3;
      pending = rw c.requires.empty (omega arith);
      drained = opened.4;
      represents = ([], c.requires.represents);
      carried = λ input same is p. begun c.args.self.now input _ _ _ opened.1 opened.2 same is p;
    }

pub take-requires-clause-few : goal.take-requires-clause-few
take-requires-clause-few g c =
    let call = (goal.at.take-requires-clause-few g c).After-next in
    let few = (c.next.ensures.counted (c.in-Ok-true.is ∙ ap Ok c.in-Ok-true.field-0-test)).0 in
    (rw (counts g call).0 few, rw (counts g call).1 few)

pub take-requires-clause-read : goal.take-requires-clause-read
take-requires-clause-read g c = c.next.ensures.some (c.in-Ok-true.is ∙ ap Ok c.in-Ok-true.field-0-test)

pub take-requires-clause-represents : goal.take-requires-clause-represents
take-requires-clause-represents g c = rw c.flush_before_read.ensures.same.0 c.each.invariant.represents

pub each-preserved : goal.each-preserved
each-preserved g c =
    let call = (goal.at.each-preserved g c).After-next in
    let went = c.in-Ok-true.is ∙ ap Ok c.in-Ok-true.field-0-test in
    let taken = ap Ok c.if-not-is_taken.false in
    let noted = c.in_ok-is_taken.ensures.counted taken in
    let count = sym (c.next.ensures.counted went).1 ∙ ap (λ (s : CaptureState). s.count) (sym c.take.ensures.same) in
    record {
      going = ap (λ (s : CaptureState). s.fault) c.take.ensures.same ∙ c.in-Ok-true.ensures.going;
      taken = noted.0 ∙ ap (λ n. n + 1) (counts g call).0 ∙ count;
      noted = noted.1 ∙ ap (λ n. n + 1) (counts g call).1 ∙ count;
      read_calm = c.in-Ok-true.ensures.no_failure (going g call) no_error ∙ c.each.invariant.read_calm;
      write_calm = c.in_ok-is_taken.ensures.no_failure ∙ (wrote g call).0;
      write_without_failure = (wrote g call).1;
      few = rw c.take.ensures.same c.next.ensures.room;
      pending = omega (arith, c.take.ensures.pending, c.in_ok-flush_before_read.ensures.pending);
      drained = λ e. drained g call (ap (λ (s : CaptureState). s.ended) (sym c.take.ensures.same) ∙ e);
      represents = c.in_ok-is_taken.ensures.represents taken;
      carried = λ input same is p. let at = read g call input same is p in
          more at went c.take.new.self (g.W.Write.contents c.take.new.sent.inner)
          (c.in_ok-is_taken.ensures.taken taken (reported g call) (start_of input) at.carried.history (still at)) c.take.ensures.same;
    }

-- ---- the calls that fail

pub returns-in_err-flush_before_read : goal.returns-in_err-flush_before_read
returns-in_err-flush_before_read g c =
    let q = err_from_is_err_and c.from_residual.result c.from_residual.ensures.1 in
    let state = devices g.R.Read.remaining g.W.Write.contents g.W2.Write.contents in
    let so_far = c.each.invariant in
    let start = state c.args.capture.now c.args.sent.now c.args.report.now in
    rw (q.1, q.2) (record {
      replayed = λ input same is p. let at = (so_far.carried input same is p).behind in
          halted start (state c.each.capture c.flush_before_read.new.sent c.flush_before_read.new.report)
          c.each.self.records.held at.left at.is_left at.follows so_far.few so_far.read_calm
          (writer_failed start (state c.each.capture c.each.sent c.each.report)
          (state c.each.capture c.flush_before_read.new.sent c.flush_before_read.new.report)
          (so_far.read_calm, so_far.write_calm, so_far.write_without_failure) c.in_err-flush_before_read.ensures.failures)
          (c.in_err-flush_before_read.ensures.kept _ _ (so_far.carried input same is p).replay_represents);
      stop = tt;
      drained = tt;
      within = λ is. is;
      refused = λ is. absurd is;
      flushed = λ is. absurd (no_memory refl is);
      pending = omega (arith, c.in_err-flush_before_read.ensures.pending, so_far.pending);
      failures = counts_ending Device start (state c.each.capture c.each.sent c.each.report)
          (state c.each.capture c.flush_before_read.new.sent c.flush_before_read.new.report)
          (so_far.read_calm, so_far.write_calm, so_far.write_without_failure) refl c.in_err-flush_before_read.ensures.failures;
    })

pub returns-in-Ok-false : goal.returns-in-Ok-false
returns-in-Ok-false g c =
    let call = (goal.at.returns-in-Ok-false g c).After-next in
    let went = c.in-Ok-false.is ∙ ap Ok c.in-Ok-false.field-0-test in
    record {
      replayed = λ input same is p. ended (read g call input same is p) went;
      stop = tt;
      drained = λ torn is. drained g call (c.next.ensures.finished went).1;
      within = tt;
      refused = tt;
      flushed = λ is. absurd (no_error is);
      pending = omega (arith, c.in_ok-flush_before_read.ensures.pending);
      failures = (
        c.in-Ok-false.ensures.no_failure (going g call) no_error ∙ c.each.invariant.read_calm,
        (wrote g call).0,
        (wrote g call).1,
      );
    }

pub returns-in-Err-Refused : goal.returns-in-Err-Refused
returns-in-Err-Refused g c =
    let call = (goal.at.returns-in-Err-Refused g c).After-next in
    let went = c.in-Err-Refused.is ∙ ap Err c.in-Err-Refused.field-0-is in
    let stops = rw c.in-Err-Refused.field-0-is at (c.in-Err-Refused.ensures.kinds (going g call)) in
    record {
      replayed = λ input same is p. refused (read g call input same is p) c.in-Err-Refused.fault stops went;
      stop = stops;
      drained = λ torn is. drained g call
          (c.next.ensures.torn (went ∙ ap (λ f. Err (errors.Refused f)) (torn_end c.in-Err-Refused.fault torn is)) (going g call));
      within = tt;
      refused = tt;
      flushed = λ is. absurd (no_error is);
      pending = omega (arith, c.in_ok-flush_before_read.ensures.pending);
      failures = (calm g call (no_read went), (wrote g call).0, (wrote g call).1);
    }

pub returns-in-Err-Device : goal.returns-in-Err-Device
unfolding read
returns-in-Err-Device g c =
    let call = (goal.at.returns-in-Err-Device g c).After-next in
    let state = devices g.R.Read.remaining g.W.Write.contents g.W2.Write.contents in
    let went = c.in-Err-Device.is ∙ ap Err c.in-Err-Device.field-0-is in
    let unready : is_ready c.each.self.records ≡ false =
    false_from_ne_true _ (λ ready. c.next.ensures.held (going g call) (ap is_ready c.flush_before_read.ensures.same.1 ∙ ready) went) in
    record {
      replayed = λ input same is p. cut (read g call input same is p)
          (state c.args.capture.now c.args.sent.now c.args.report.now)
          (state c.next.new.reader c.flush_before_read.new.sent c.flush_before_read.new.report)
          went refl (broken g call went) (c.in-Err-Device.ensures.stopped (going g call) no_value).0
          (c.in_ok-flush_before_read.ensures.written unready _ _ (c.each.invariant.carried input same is p).replay_represents);
      stop = tt;
      drained = tt;
      within = λ is. is;
      refused = λ is. absurd is;
      flushed = λ is. absurd (no_memory refl is);
      pending = omega (arith, c.in_ok-flush_before_read.ensures.pending);
      failures = inl (broken g call went, (wrote g call).0, (wrote g call).1);
    }

pub returns-in-Err-Memory : goal.returns-in-Err-Memory
returns-in-Err-Memory g c =
    absurd (rw c.in-Err-Memory.field-0-is at (c.in-Err-Memory.ensures.kinds (going g (goal.at.returns-in-Err-Memory g c).After-next)))

pub returns-in_err-is_taken : goal.returns-in_err-is_taken
returns-in_err-is_taken g c =
    let q = err_from_is_err_and c.from_residual-in_err-is_taken.result c.from_residual-in_err-is_taken.ensures.1 in
    let state = devices g.R.Read.remaining g.W.Write.contents g.W2.Write.contents in
    let call = (goal.at.returns-in_err-is_taken g c).After-next in
    let none = c.in-Ok-true.ensures.no_failure (going g call) no_error ∙ c.each.invariant.read_calm in
    rw (q.1, q.2) (record {
      replayed = λ input same is p. let at = read g call input same is p in
          halted_at at (c.in-Ok-true.is ∙ ap Ok c.in-Ok-true.field-0-test)
          (state c.args.capture.now c.args.sent.now c.args.report.now)
          (state c.next.new.reader c.take.new.sent c.flush_before_read.new.report) refl none
          (inl (c.in_err-is_taken.ensures.device ∙ ap one_failure (wrote g call).0))
          (c.in_err-is_taken.ensures.broken no_value (reported g call) (start_of input) at.carried.history (still at));
      stop = tt;
      drained = tt;
      within = λ is. is;
      refused = λ is. absurd is;
      flushed = λ is. absurd (no_memory refl is);
      pending = omega (arith, c.take.ensures.pending, c.in_ok-flush_before_read.ensures.pending);
      failures = inr (inl (none, c.in_err-is_taken.ensures.device ∙ ap one_failure (wrote g call).0, (wrote g call).1));
    })

pub returns-in_err-close : goal.returns-in_err-close
returns-in_err-close g c =
    let q = err_from_is_err_and c.from_residual-in_err-close.result c.from_residual-in_err-close.ensures.1 in
    let state = devices g.R.Read.remaining g.W.Write.contents g.W2.Write.contents in
    let call = (goal.at.returns-in_err-close g c).After-next in
    let none = c.in-Ok-true.ensures.no_failure (going g call) no_error ∙ c.each.invariant.read_calm in
    let old = state c.args.capture.now c.args.sent.now c.args.report.now in
    let new = state c.next.new.reader c.close.new.sent c.close.new.report in
    rw (q.1, q.2) (record {
      replayed = λ input same is p. let at = read g call input same is p in
          halted_at at (c.in-Ok-true.is ∙ ap Ok c.in-Ok-true.field-0-test) old new refl none
          (writer_failed old (state c.next.new.reader c.take.new.sent c.flush_before_read.new.report) new
          (none, c.in_ok-is_taken.ensures.no_failure ∙ (wrote g call).0, (wrote g call).1) c.in_err-close.ensures.failures)
          (broke_writing _ _ _ _ _ _ _ (c.in_ok-is_taken.ensures.broken (not_taken refl c.if-not-is_taken.true) (reported g call)
          (start_of input) at.carried.history (still at))
          (c.in_err-close.ensures.written (start_of input) at.carried.history (c.in_ok-is_taken.ensures.kept (ap Ok c.if-not-is_taken.true)
          (reported g call) (start_of input) at.carried.history (still at))));
      stop = tt;
      drained = tt;
      within = λ is. is;
      refused = λ is. absurd is;
      flushed = λ is. absurd (no_memory refl is);
      pending = omega (arith, c.close.ensures.pending, c.take.ensures.pending, c.in_ok-flush_before_read.ensures.pending);
      failures = counts_ending Device old (state c.next.new.reader c.take.new.sent c.flush_before_read.new.report) new
          (none, c.in_ok-is_taken.ensures.no_failure ∙ (wrote g call).0, (wrote g call).1) refl c.in_err-close.ensures.failures;
    })

pub returns-then-not-is_taken : goal.returns-then-not-is_taken
returns-then-not-is_taken g c =
    let state = devices g.R.Read.remaining g.W.Write.contents g.W2.Write.contents in
    let call = (goal.at.returns-then-not-is_taken g c).After-next in
    let none = c.in-Ok-true.ensures.no_failure (going g call) no_error ∙ c.each.invariant.read_calm in
    let closed = c.in_ok-close.ensures.failures in
    record {
      replayed = λ input same is p. let at = read g call input same is p in
          lacks at (c.in-Ok-true.is ∙ ap Ok c.in-Ok-true.field-0-test)
          (state c.args.capture.now c.args.sent.now c.args.report.now)
          (state c.next.new.reader c.close.new.sent c.close.new.report) refl none
          (c.in_ok-close.ensures.written (start_of input) at.carried.history (c.in_ok-is_taken.ensures.kept (ap Ok c.if-not-is_taken.true)
          (reported g call) (start_of input) at.carried.history (still at)));
      stop = tt;
      drained = tt;
      within = λ is. is;
      refused = λ is. absurd is;
      flushed = λ is. c.in_ok-close.ensures.flushed;
      pending = omega (arith, c.close.ensures.pending, c.take.ensures.pending, c.in_ok-flush_before_read.ensures.pending);
      failures = (none, closed.1 ∙ c.in_ok-is_taken.ensures.no_failure ∙ (wrote g call).0, closed.2 ∙ (wrote g call).1);
    }
