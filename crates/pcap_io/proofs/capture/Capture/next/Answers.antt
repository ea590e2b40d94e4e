use Rattle.std.proofs.Common.{◌≡◌, ◌∙◌, Some, ◌++◌, ap, refl, sym}
use Rattle.std.proofs.lemmas.Bool.{true≢false}
use Rattle.pcap_io.specs.steps.CaptureInvariant.{capture_state_of}
use Rattle.std.proofs.KnownBytes.{Consumes-trans, Keeps-refl, Keeps-trans}
use Rattle.pcap_io.specs.CaptureStates.{ahead, is_ready}
use Rattle.pcap_io.proofs.Endings.{waits}
use Rattle.pcap_io.proofs.Steps.{no_last}
use Rattle.pcap_io.proofs.Coming.{filled, ended_only_at_end, less_room, failed, known, behind, next_from}
use Rattle.pcap_io.proofs.capture.Capture.next.Goals as goal

pub fill-requires-clause-room : goal.fill-requires-clause-room
fill-requires-clause-room g c =
    (waits c.self-in-loop-self.view_is c.self-in-loop-self.invariant.few c.is_ready.ensures c.loop-self-test.true).room

pub loop-self-smaller : goal.loop-self-smaller
loop-self-smaller g c =
    let w = waits c.self-in-loop-self.view_is c.self-in-loop-self.invariant.few c.is_ready.ensures c.loop-self-test.true in
    rw (← c.self-in-loop-self.view_is) (less_room c.self-in-loop-self.inside.buffer c.fill.new.self _ _ w.going w.room c.in-Ok.ensures.ok)

pub loop-self-preserved : goal.loop-self-preserved
loop-self-preserved g c =
    let w = waits c.self-in-loop-self.view_is c.self-in-loop-self.invariant.few c.is_ready.ensures c.loop-self-test.true in
    let old = c.self-in-loop-self.inside.buffer in
    let new = c.fill.new.self in
    let fills = c.in-Ok.ensures.ok in
    let kept = rw (← c.self-in-loop-self.view_is) at c.loop-self.invariant in record {
      format = kept.format;
      count = kept.count;
      latest = kept.latest;
      fault = w.none;
      last = rw (no_last _ _ _ _ kept.last) refl;
      whole = Keeps-trans _ _ _ kept.whole (filled old new _ _ w.going fills);
      unread = λ ready. absurd (true≢false (sym ready ∙ ap is_ready (sym (c.loop-self.invariant.unread ready).0)
          ∙ sym c.is_ready.ensures ∙ c.loop-self-test.true));
      drained = λ _ ended. ended_only_at_end old new _ _ fills ended;
      read = (kept.read.0 ++ fills.more, Consumes-trans _ _ _ _ _ kept.read.1 fills.consumed);
      no_failure = c.in-Ok.ensures.no_failure ∙ kept.no_failure;
    }

pub returns-in_default-fill-clause-broken : goal.returns-in_default-fill-clause-broken
returns-in_default-fill-clause-broken g c _ _ =
    let w = waits c.self-in-loop-self.view_is c.self-in-loop-self.invariant.few c.is_ready.ensures c.loop-self-test.true in
    let e = c.in_default-fill.ensures.err in (e.1, rw e.0 w.part)

pub returns-in_default-fill-clause-next_answers : goal.returns-in_default-fill-clause-next_answers
returns-in_default-fill-clause-next_answers g c none =
    let w = waits c.self-in-loop-self.view_is c.self-in-loop-self.invariant.few c.is_ready.ensures c.loop-self-test.true in
    let e = c.in_default-fill.ensures.err in
    let whole = rw (← c.self-in-loop-self.view_is) at c.loop-self.invariant.whole in
    rw (← c.self.view_is) (known _ _ _ (Keeps-trans _ _ _ whole (failed c.self-in-loop-self.inside.buffer c.fill.new.self _ _ w.going e.1 e.0 e.2))
    (λ bytes is. record { lost_none = is; open_end = e.1; part = rw e.0 w.part }))

pub returns-clause-next_answers : goal.returns-clause-next_answers
returns-clause-next_answers g c none =
    let kept = c.loop-self.invariant in
    let mid = c.loop-self.self in
    let new = c.step.new.self in
    let left = g.R.Read.remaining c.loop-self.reader.inner in
    let first = ahead (capture_state_of c.self.inside.format c.self.inside.buffer c.self.inside.count
    c.self.inside.latest c.self.inside.fault c.self.inside.last) (g.R.Read.remaining c.args.reader.now.inner) in
    let old = capture_state_of c.self.inside.format c.self.inside.buffer c.self.inside.count c.self.inside.latest
    c.self.inside.fault c.self.inside.last in
    rw (← c.self.view_is) (known first (ahead mid left) _ kept.whole (λ bytes e.
    let b = behind mid.ended mid.held left bytes e in
    let after : ahead new left ≡ Some (new.held ++ b.more) = rw c.step.ensures.ended (b.left new.held) in
    rw (b.joined, after) (next_from (mid.held ++ b.more) (Some (new.held ++ b.more)) mid old new c.step.result
    kept.format kept.count kept.latest (c.step.ensures.next_answers b.more b.none))))

pub returns-in-Some-clause-next_answers : goal.returns-in-Some-clause-next_answers
returns-in-Some-clause-next_answers g c none =
    let old = c.args.self.now in
    let new = c.advance.new.self in
    let left = g.R.Read.remaining c.args.reader.now.inner in
    known (ahead old left) (ahead old left) _ (Keeps-refl (ahead old left)) (λ bytes e.
    let b = behind old.ended old.held left bytes e in
    let after : ahead new left ≡ Some (new.held ++ b.more) = rw c.advance.ensures.same.1 (b.left new.held) in
    rw (b.joined, after) (c.advance.ensures.reads b.more))
