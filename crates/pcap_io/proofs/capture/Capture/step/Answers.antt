use Rattle.std.proofs.Common.{◌∙◌, ap, arith, eqb-true, length, refl, sym}
use Rattle.pcap_io.specs.CaptureStates.{CaptureState}
use Rattle.std.proofs.lemmas.List.{nil_from_length}
use Rattle.pcap_io.proofs.Endings.{are_some, nothing_left, refuses, some_more}
use Rattle.pcap_io.proofs.capture.Capture.step.Goals as goal

pub returns-then-is_empty-clause-next_answers : goal.returns-then-is_empty-clause-next_answers
returns-then-is_empty-clause-next_answers c more none =
    let bytes = c.held-held.ensures ∙ ap (λ (s : CaptureState). s.held) c.self.view_is in
    let empty = nil_from_length c.args.self.now.held (ap length (sym bytes) ∙ eqb-true _ _ (sym c.is_empty.ensures ∙ c.if-is_empty.true)) in
    rw (empty, none (nothing_left c.args.self.now c.requires.going c.requires.ready empty)) (refl, refl)

pub returns-then-is_empty-clause-finished : goal.returns-then-is_empty-clause-finished
returns-then-is_empty-clause-finished c _ =
    let bytes = c.held-held.ensures ∙ ap (λ (s : CaptureState). s.held) c.self.view_is in
    let empty = nil_from_length c.args.self.now.held (ap length (sym bytes) ∙ eqb-true _ _ (sym c.is_empty.ensures ∙ c.if-is_empty.true)) in
    (c.requires.going, nothing_left c.args.self.now c.requires.going c.requires.ready empty, empty)

pub returns-then-self-eq-MOST_RECORDS-clause-next_answers : goal.returns-then-self-eq-MOST_RECORDS-clause-next_answers
returns-then-self-eq-MOST_RECORDS-clause-next_answers c more none =
    let bytes = c.held-held.ensures ∙ ap (λ (s : CaptureState). s.held) c.self.view_is in
    let some = are_some c.held-held.result.now bytes c.is_empty.ensures c.if-is_empty.false in
    rw (c.fail.ensures.result, c.fail.ensures.after)
    ((some_more c.args.self.now.held more some, sym (ap (λ (s : CaptureState). s.count) c.self.view_is) ∙ c.if-self-eq-MOST_RECORDS.true), refl)

pub returns-in-Err-clause-next_answers : goal.returns-in-Err-clause-next_answers
returns-in-Err-clause-next_answers c more none =
    let bytes = c.held-held.ensures in
    let why = rw bytes at c.in-Err.ensures in
    rw c.fail-in-Err.ensures.result (refuses c.fail-in-Err.new.self c.in-Err.fault more c.self.view_is c.requires.going c.requires.ready none
    (are_some c.held-held.result.now bytes c.is_empty.ensures c.if-is_empty.false) (omega (arith, c.self.invariant.few))
    why.torn why.malformed why.errors (ap (λ (s : CaptureState). s.held) c.fail-in-Err.ensures.after))

pub returns-clause-next_answers : goal.returns-clause-next_answers
returns-clause-next_answers c more _ = c.advance.ensures.reads more
