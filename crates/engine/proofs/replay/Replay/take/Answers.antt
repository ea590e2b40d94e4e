use Rattle.pcap_io.specs.CaptureStates.{recorded}
use Rattle.stepping.specs.Representing.{sent_packets}
use Rattle.engine.proofs.Names.{ap, ◌∙◌, sym, append-nil, gets_none, recorded_of, true}
use Rattle.engine.proofs.WritingOutputs.{at_record, broke_sending, broke_unread, roomier, took}
use Rattle.std.specs.Prelude.{OnOk, Ok, Result}
use Rattle.std.proofs.Common.{◌≡◌, subst}
use Rattle.engine.proofs.replay.Replay.take.Goals as goal

where_ok : {A E P : Type 0} {result : Result A E} {answer : A} → result ≡ Ok answer → OnOk result P → P
where_ok {A} {E} {P} is holds = let Q : Result A E → Type 0 = λ r. OnOk r P in subst Q is holds

pub returns-in_default-clause-broken : goal.returns-in_default-clause-broken
returns-in_default-clause-broken g c = λ is report start history p.
    broke_unread p _ (λ taken. c.one_entry.ensures.some _ history taken c.judged.ensures)

pub returns-in_default-reserve-clause-broken : goal.returns-in_default-reserve-clause-broken
returns-in_default-reserve-clause-broken g c = λ is report start history p.
    broke_unread p _ (λ taken. c.one_entry.ensures.some _ history taken c.judged.ensures)

pub returns-in_err-put-clause-broken : goal.returns-in_err-put-clause-broken
returns-in_err-put-clause-broken g c = λ is report start history p.
    let q = roomier p c.reserve.new.self true c.reserve-2.new.self c.in-Ok.ensures.ok c.reserve-2.ensures.same in
    at_record _ (recorded_of c.unwrap-record.result) _ (ap recorded (sym c.unwrap-record.ensures) ∙ c.record.ensures)
    (broke_sending q (c.process.ensures.represents history q.represents) _ _
    (ap sent_packets (sym c.in-Some.is) ∙ c.newest.ensures.sends)
    c.in_err-put.ensures.part)

pub returns-in_ok-put-clause-taken : goal.returns-in_ok-put-clause-taken
returns-in_ok-put-clause-taken g c = λ is report start history p.
    let q = roomier p c.reserve.new.self true c.reserve-2.new.self c.in-Ok.ensures.ok c.reserve-2.ensures.same in
    at_record _ (recorded_of c.unwrap-record.result) _ (ap recorded (sym c.unwrap-record.ensures) ∙ c.record.ensures)
    (took q (c.process.ensures.represents history q.represents) {told = c.newest.result.entry}
    c.process.ensures.setup c.newest.ensures.newest
    (λ rules trace before lines e is told. where_ok c.unwrap.ensures (c.note.ensures.noted rules trace before lines e is told)) _ _ _
    (ap sent_packets (sym c.in-Some.is) ∙ c.newest.ensures.sends) (rw append-nil c.in_ok-put.ensures.ok))

pub returns-in_default-leaving-clause-taken : goal.returns-in_default-leaving-clause-taken
returns-in_default-leaving-clause-taken g c = λ is report start history p.
    let q = roomier p c.reserve.new.self true c.reserve-2.new.self c.in-Ok.ensures.ok c.reserve-2.ensures.same in
    at_record _ (recorded_of c.unwrap-record.result) _ (ap recorded (sym c.unwrap-record.ensures) ∙ c.record.ensures)
    (took q (c.process.ensures.represents history q.represents) {told = c.newest.result.entry}
    c.process.ensures.setup c.newest.ensures.newest
    (λ rules trace before lines e is told. where_ok c.unwrap.ensures (c.note.ensures.noted rules trace before lines e is told)) _ _ _
    (ap sent_packets (sym c.in_default-leaving.is) ∙ c.newest.ensures.sends) (gets_none _ _))
