-- Two runs of one capture on one box, from their records.
use Rattle.std.specs.Prelude.{All}
use Rattle.std.proofs.Common.{◌≡◌, ◌++◌, ℕ, Bool, List, [], ◌∷◌, Ok, Result, ap, arith, length, refl, subst, sym, ◌∙◌}
use Rattle.std.proofs.lemmas.Option.{same_Some}
use Rattle.box_file.specs.Box.{IsBox, PlantTree}
use Rattle.pcap_io.specs.declared.fault.CaptureFault.{CaptureFault}
use Rattle.pcap_io.specs.declared.format.Format.{Format}
use Rattle.pcap_io.specs.Pcap.{Pcap, Recorded, decoded_records, format_of}
use Rattle.rule_check.specs.WellFormed.{WellFormed}
use Rattle.history.specs.Setup.{Setup}
use Rattle.history.specs.History.{Entry, capture_text}
use Rattle.report.specs.Report.{report_text}
use Rattle.stepping.specs.Next.{IsHistoryOf, Next}
use Rattle.engine.specs.AfterFault.{Devices, RecordRefused}
use Rattle.engine.specs.Refusals.{fault_at}
use Rattle.engine.specs.Meaning.{Accepted, ending_of}
use Rattle.diff_laws.specs.Coming.{AreBytes}
use Rattle.diff_laws.specs.Same.{SameHistories, SameOutputs, SameStages, totals_of, with_rules}
use Rattle.diff_laws.proofs.Captures.{records_of_bytes}
use Rattle.diff_laws.proofs.Records.{histories_same, outputs_same}
use Rattle.diff_laws.specs.Coming as coming
use Rattle.diff_laws.proofs.same_stages_same_runs.Goals as goal

same_sign : (torn other : Bool) → ending_of torn ≡ ending_of other → torn ≡ other
same_sign torn other same = grind arith

same_ok : (result : Result Format CaptureFault) (format other : Format) → result ≡ Ok format → result ≡ Ok other → format ≡ other
same_ok result format other is so = cc

-- ---- on one box

abbrev OneBox : Type 0
OneBox = (text : List ℕ) (network other : PlantTree) → IsBox text network → IsBox text other → network ≡ other

same_box : OneBox → {old new box : List ℕ} (a : Accepted old box) (b : Accepted new box)
    → b.setup ≡ with_rules b.setup.rules a.setup
same_box one {box = box} a b = λ i. record {
  rules = b.setup.rules;
  network = one box b.setup.network a.setup.network b.read a.read i;
}

same_records : OneBox → {old new box : List ℕ} (a : Accepted old box) (b : Accepted new box) → SameStages a.setup b.setup.rules
    → (records others : List Recorded) → All (λ r. AreBytes r.bytes) records → records ≡ others → (history other : List Entry)
    → IsHistoryOf a.setup [] records history → IsHistoryOf b.setup [] others other → SameHistories history other
same_records one a b same records others bytes alike history other x y =
    histories_same a.setup b.setup.rules same records bytes [] [] coming.empty refl history other x
    (subst (λ (s : Setup). IsHistoryOf s [] records other) (same_box one a b)
    (subst (λ (rs : List Recorded). IsHistoryOf b.setup [] rs other) (sym alike) y))

-- ---- a history exists

abbrev SomeEntry : Type 0
SomeEntry = (setup : Setup) (history : List Entry) (r : Recorded) → WellFormed setup.rules setup.network → (e : Entry)
    × Next setup history r e

some_history : SomeEntry → (setup : Setup) → WellFormed setup.rules setup.network
    → (before : List Entry) (rs : List Recorded) → (after : List Entry) × IsHistoryOf setup before rs after
some_history some setup fine before [] = (before, refl)
some_history some setup fine before (r ∷ rs) =
    let e = some setup before r fine in
    let rest = some_history some setup fine (e.0 ∷ before) rs in
    (rest.0, (e.0, e.1, rest.1))

-- ---- answers

pub returns-clause-whole : goal.returns-clause-whole
returns-clause-whole c = λ old new box capture trace other_trace count others torn other_torn sent other_sent report other_report
    before after bytes same.
    let reading = c.one_reading.ensures capture before.records after.records (ending_of torn) (ending_of other_torn) before.read
    after.read in
    let decoded : decoded_records before.read.format before.records ≡ decoded_records after.read.format after.records =
    λ i. decoded_records (reading.2 i) (reading.0 i) in
    let signs : torn ≡ other_torn = same_sign torn other_torn reading.1 in
    let entries : SameHistories before.history after.history = same_records c.one_box.ensures.one before.accepted after.accepted
    same _ _ (records_of_bytes capture bytes before.read.format before.records before.read.rest before.read.whole) decoded
    before.history after.history before.is_history after.is_history in
    let outputs : SameOutputs before.accepted.setup after.accepted.setup.rules before.history after.history =
    outputs_same before.accepted.setup after.accepted.setup.rules before.history after.history entries in
    record {
      records = before.counted ∙ ap length reading.0 ∙ sym after.counted;
      ends = signs;
      captures = before.captured ∙ outputs.captures ∙ sym after.captured;
      entries = entries;
      totals = outputs.totals torn
          ∙ (λ i. totals_of (sym (same_box c.one_box.ensures.one before.accepted after.accepted) i) after.history (signs i));
    }

pub returns-clause-both : goal.returns-clause-both
returns-clause-both c = λ old new box capture trace other_trace count torn sent report before accepted.
    let h = some_history c.one_entry.ensures.some accepted.setup accepted.well_formed []
    (decoded_records before.read.format before.records) in (
      capture_text h.0,
      report_text accepted.setup other_trace h.0 torn,
      record {
        accepted = accepted;
        records = before.records;
        read = before.read;
        counted = before.counted;
        history = h.0;
        is_history = h.1;
        captured = refl;
        reported = refl;
      },
    )

-- the records before a fault, as a reading of the whole capture
abbrev read_by : {rules box capture : List ℕ} {trace : Bool} {fault : CaptureFault} {left left_now : Devices}
    (refused : RecordRefused rules box capture trace fault left left_now)
    → Pcap capture refused.taken_so_far.records refused.ending
read_by refused = record {
  format = refused.taken_so_far.format;
  accepted = refused.taken_so_far.header;
  rest = refused.taken_so_far.ahead ++ refused.taken_so_far.left;
  whole = refused.taken_so_far.joined;
  each = refused.taken_so_far.each;
  not_over = refused.taken_so_far.not_over;
  ends = refused.ends;
}

pub returns-clause-refused : goal.returns-clause-refused
returns-clause-refused c = λ old new box capture trace other_trace fault other_fault left left_now other_left other_left_now
    before after bytes same.
    let a = before.taken_so_far in
    let b = after.taken_so_far in
    let reading = c.one_reading.ensures capture a.records b.records before.ending after.ending (read_by before) (read_by after) in
    let decoded : decoded_records a.format a.records ≡ decoded_records b.format b.records =
    λ i. decoded_records (reading.2 i) (reading.0 i) in
    let entries : SameHistories a.history b.history = same_records c.one_box.ensures.one a.accepted b.accepted same _ _
    (records_of_bytes capture bytes a.format a.records (a.ahead ++ a.left) a.joined) decoded a.history b.history a.is_history
    b.is_history in
    record {
      faults = same_Some fault other_fault (sym before.refused ∙ ap fault_at reading.1 ∙ after.refused);
      captures = (outputs_same a.accepted.setup b.accepted.setup.rules a.history b.history entries).captures;
      entries = entries;
    }

pub returns-clause-taken_so_far : goal.returns-clause-taken_so_far
returns-clause-taken_so_far c = λ old new box capture devices other_devices before after records bytes same.
    let formats : before.format ≡ after.format =
    same_ok (format_of capture) before.format after.format before.header after.header in
    let decoded : decoded_records before.format before.records ≡ decoded_records after.format after.records =
    λ i. decoded_records (formats i) (records i) in
    same_records c.one_box.ensures.one before.accepted after.accepted same _ _
    (records_of_bytes capture bytes before.format before.records (before.ahead ++ before.left) before.joined) decoded
    before.history after.history before.is_history after.is_history
