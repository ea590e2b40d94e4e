-- The replay of a capture's records, and the outputs of a capture whose header is accepted.
use Rattle.std.specs.Prelude.{◌≡◌, ◌≤◌, ℕ, Bool, true, List, [], ◌∷◌, ◌++◌, length, drop, All, ◌⊎◌, Option, Some, None, IfSome, Result, Err, MatchResult}
use Rattle.std.specs.Prelude.{false, Ok}
use Rattle.std.specs.Io.KnownBytes.{Appends, IsAtEnd, prepend_known}
use Rattle.pcap_io.specs.declared.format.Format.{Format}
use Rattle.pcap_io.specs.declared.fault.CaptureFault.{CaptureFault}
use Rattle.pcap_io.specs.Pcap.{Captured, Recorded, IsRecord, Ending, Whole, Torn, Malformed, Over, Ends, stream_of, decoded_records, HEADER_BYTES}
use Rattle.pcap_io.specs.Pcap.{MOST_RECORDS, format_of}
use Rattle.pcap_io.specs.CaptureStates.{CaptureState, IsOfRecords}
use Rattle.pcap_io.specs.ReadAhead.{READ_AHEAD}
use Rattle.pcap_io.specs.declared.fault.CaptureError.TheVariants.{Refused}
use Rattle.devices.specs.Counting.{AppendsBuffered, AppendsPrefix, one_failure}
use Rattle.devices.specs.declared.counted.Counted.{Counted}
use Rattle.devices.specs.declared.failures.Failures.{Failures}
use Rattle.devices.specs.declared.whole.DeviceFailed.{DeviceFailed}
use Rattle.history.specs.History.{Entry, capture_text}
use Rattle.report.specs.Report.{entry_lines, report_text}
use Rattle.report.specs.Representing.{IsReportOf}
use Rattle.history.specs.Setup.{Setup}
use Rattle.stepping.specs.Next.{Next, IsHistoryOf}
use Rattle.stepping.specs.Representing.{EngineState, Represents}
use Rattle.engine.specs.declared.fault.RunFault.{RunFault}
use Rattle.engine.specs.declared.fault.RunFault.TheVariants.{Device, Memory, Capture}
use Rattle.engine.specs.declared.replay.Replay.{Replay}
use Rattle.engine.specs.AfterFault.{Devices, IsNotAhead, LeftDevices, NoneFailed, OneFailed, Untouched}
use Rattle.engine.specs.Meaning.{Accepted, Meaning}
use Rattle.engine.specs.declared.runs.Summary.{Summary}
use Rattle.pcap_io.specs.declared.fault.CaptureFault.TheVariants as captures

-- the faults at which records stop
abbrev pub IsStop : Option CaptureFault → Type 0
IsStop stop = IfSome stop (λ fault. IsOfRecords (Refused fault))

-- the ending at such a fault, or at none
abbrev pub ending_at : Option CaptureFault → Ending
ending_at (Some captures.TornEnd) = Torn
ending_at (Some captures.Malformed) = Malformed
ending_at (Some captures.TooMany) = Over
ending_at _ = Whole

-- ---- the writers

-- of two writers that count their calls, by what each holds; there is no reader
abbrev pub writers : {W W2 : Type 0} → (W → Option (List ℕ)) → (W2 → Option (List ℕ)) → Counted W
    → Counted W2 → Devices
writers sent_bytes report_bytes sent report = record {
  unread = None;
  sent = sent_bytes sent.inner;
  report = report_bytes report.inner;
  reads_failed = record { count = 0; wrapped = 0 };
  sends_failed = sent.failures;
  reports_failed = report.failures;
}

-- an error is one failed call
abbrev pub CountsFailedWrite : {T : Type 0} → Result T DeviceFailed → Devices → Devices → Type 0
CountsFailedWrite result old new = MatchResult result (λ _. NoneFailed old new) (λ _. OneFailed old new)

-- the start of a replay: the configuration, whether it traces, and what the two writers hold, where it is
-- known
pub record ReplayStart : Type 0 where
  pub setup : Setup
  pub trace : Bool
  pub sent : Option (List ℕ)
  pub report : Option (List ℕ)

-- both outputs of a history are written, but for counters and totals
pub record AllWritten (start : ReplayStart) (history : List Entry) (w r : Option (List ℕ)) : Type 0 where
  pub all_sent : Appends start.sent w (capture_text history)
  pub all_lines : Appends start.report r (entry_lines start.setup.rules start.trace history)

-- a prefix of each is written, and the report isn't ahead
pub record PrefixWritten (start : ReplayStart) (history : List Entry) (w r : Option (List ℕ)) : Type 0 where
  pub part_sent : AppendsPrefix start.sent w (capture_text history)
  pub part_lines : AppendsPrefix start.report r (entry_lines start.setup.rules start.trace history)
  pub not_ahead : IsNotAhead start.setup.rules start.trace history start.sent w start.report r

-- ---- one record after another

-- an engine represents a history
abbrev pub RepresentsSome : EngineState → Type 0
RepresentsSome engine = (history : List Entry) × Represents engine history

-- of each history that the engine of a replay represents, it now represents that with the entry of the last
-- record read
abbrev pub StepsLast : Replay → Replay → Type 0
StepsLast replay now = (history : List Entry) → Represents replay.engine history
    → IfSome replay.records.last (λ taken. (e : Entry) × Next replay.engine.setup history taken e
    × Represents now.engine (e ∷ history))

-- a replay represents a history: its engine and its report do, and both outputs are written but for the
-- sink's buffer and the report's notes
pub record ReplayRepresents (replay : Replay) (start : ReplayStart) (history : List Entry)
    (w r : Option (List ℕ)) : Type 0 where
  pub same : replay.engine.setup ≡ start.setup
  pub represents : Represents replay.engine history
  pub gets : AppendsBuffered [] start.sent w replay.sink.buffered (capture_text history)
  pub lines : List ℕ
  pub reports : IsReportOf replay.report start.setup.rules start.trace history lines
  pub appends_report : Appends start.report r lines
  pub not_ahead : IsNotAhead start.setup.rules start.trace history start.sent w start.report r

-- before the first record, whatever the report's writer holds
abbrev pub IsBegun : Replay → Setup → Bool → Option (List ℕ) → Option (List ℕ) → Type 0
IsBegun replay setup trace old_sent new_sent = (report : Option (List ℕ))
    → ReplayRepresents replay (record { setup = setup; trace = trace; sent = old_sent; report = report }) []
    new_sent report

-- one more record was processed
pub record TakesRecord (replay : Replay) (start : ReplayStart) (history : List Entry) (taken : Recorded)
    (w r : Option (List ℕ)) : Type 0 where
  pub entry : Entry
  pub next : Next start.setup history taken entry
  pub replay_represents : ReplayRepresents replay start (entry ∷ history) w r

-- the replay stopped at the record: a prefix of the outputs with its entry is written
pub record BreaksAtRecord (start : ReplayStart) (history : List Entry) (taken : Recorded)
    (w r : Option (List ℕ)) : Type 0 where
  pub entry : Entry
  pub next : Next start.setup history taken entry
  pub part : PrefixWritten start (entry ∷ history) w r

-- ---- what a call leaves of the history that a replay represents, whichever it is

abbrev pub OfHistory : Replay → Option (List ℕ) → Option (List ℕ) → (ReplayStart → List Entry → Type 0) → Type 0
OfHistory replay w r P = (start : ReplayStart) (history : List Entry) → ReplayRepresents replay start history w r
    → P start history

-- it still represents it
abbrev pub StillRepresents : Replay → Replay → Devices → Devices → Type 0
StillRepresents replay now old new = OfHistory replay old.sent old.report
    (λ start history. ReplayRepresents now start history new.sent new.report)

-- its outputs are written
abbrev pub WritesAll : Replay → Devices → Devices → Type 0
WritesAll replay old new = OfHistory replay old.sent old.report
    (λ start history. AllWritten start history new.sent new.report)

-- a prefix of them is
abbrev pub WritesPrefix : Replay → Devices → Devices → Type 0
WritesPrefix replay old new = OfHistory replay old.sent old.report
    (λ start history. PrefixWritten start history new.sent new.report)

-- the last record read is processed too, or it isn't, or a prefix of the outputs with its entry is written;
-- the report's writer isn't called
abbrev pub TakesLast : Replay → Replay → Option (List ℕ) → Option (List ℕ) → Type 0
TakesLast replay now old_sent new_sent = (report : Option (List ℕ)) → OfHistory replay old_sent report
    (λ start history. IfSome replay.records.last (λ taken. TakesRecord now start history taken new_sent report))

abbrev pub KeepsLast : Replay → Replay → Option (List ℕ) → Option (List ℕ) → Type 0
KeepsLast replay now old_sent new_sent = (report : Option (List ℕ)) → OfHistory replay old_sent report
    (λ start history. ReplayRepresents now start history new_sent report)

abbrev pub BreaksAtLast : Replay → Option (List ℕ) → Option (List ℕ) → Type 0
BreaksAtLast replay old_sent new_sent = (report : Option (List ℕ)) → OfHistory replay old_sent report
    (λ start history. IfSome replay.records.last (λ taken. BreaksAtRecord start history taken new_sent report))

-- ---- all records

-- a capture of which no record was read
abbrev pub IsOpened : CaptureState → Option (List ℕ) → Type 0
IsOpened s unread = (s.fault ≡ None) × (s.count ≡ 0) × (s.latest ≡ 0) × (length s.held ≤ READ_AHEAD)
    × (s.ended ≡ true → IsAtEnd unread)

-- the bytes to come: the capture's buffer and what the reader has left
abbrev pub unread_input : CaptureState → Option (List ℕ) → Option (List ℕ)
unread_input s unread = prepend_known s.held unread

-- an accepted input with its header, whether its replay traces, and the devices before the replay
pub record ReplayInput : Type 0 where
  pub rules : List ℕ
  pub box : List ℕ
  pub capture : List ℕ
  pub accepted : Accepted rules box
  pub format : Format
  pub header : format_of capture ≡ Ok format
  pub trace : Bool
  pub before : Devices

abbrev pub start_of : ReplayInput → ReplayStart
start_of input = record {
  setup = input.accepted.setup;
  trace = input.trace;
  sent = input.before.sent;
  report = input.before.report;
}

-- the bytes behind the header begin with these records, of this history, and then these bytes follow
pub record BeginsWithRecords (input : ReplayInput) (records : List Captured) (after : List ℕ)
    (history : List Entry) : Type 0 where
  pub joined : drop HEADER_BYTES input.capture ≡ stream_of records after
  pub each : All (IsRecord input.format) records
  pub not_over : length records ≤ MOST_RECORDS
  pub is_history : IsHistoryOf input.accepted.setup [] (decoded_records input.format records) history

-- the bytes behind the header are the records processed, and end so
pub record Replayed (replay : Replay) (input : ReplayInput) (ending : Ending) (unread w r : Option (List ℕ))
    : Type 0 where
  pub ahead : List ℕ
  pub left : List ℕ
  pub is_left : unread ≡ Some left
  pub records : List Captured
  pub history : List Entry
  pub follows : BeginsWithRecords input records (ahead ++ left) history
  pub noted : replay.report.records ≡ length records
  pub few : length ahead ≤ READ_AHEAD
  pub ends : Ends input.format ending (length records) (ahead ++ left)
  pub replay_represents : ReplayRepresents replay (start_of input) history w r

-- the devices after a fault of an input, before whose records as many calls had failed as of these
abbrev pub LeavesOf : ReplayInput → Devices → Devices → RunFault → Type 0
LeavesOf input old new fault = LeftDevices input.rules input.box input.capture input.trace
    (record input.before {
      reads_failed = old.reads_failed;
      sends_failed = old.sends_failed;
      reports_failed = old.reports_failed;
    }) new fault

-- what holds of each input at whose first record a replay is
abbrev pub OfBegun : Replay → Devices → (ReplayInput → Type 0) → Type 0
OfBegun replay old P = (input : ReplayInput) → replay.records.format ≡ input.format
    → unread_input replay.records old.unread ≡ Some (drop HEADER_BYTES input.capture)
    → ReplayRepresents replay (start_of input) [] old.sent old.report → P input

-- the bytes to come are the records processed, and stop so; or a fault interrupts them
abbrev pub ReplaysAll : Replay → Replay → Result (Option CaptureFault) RunFault → Devices → Devices → Type 0
ReplaysAll replay now result old new = OfBegun replay old (λ input. MatchResult result
    (λ stop. Replayed now input (ending_at stop) new.unread new.sent new.report)
    (LeavesOf input old new))

-- whether the capture ends inside a record, or the fault at which its records stop
abbrev pub torn_at : Option CaptureFault → Result Bool RunFault
torn_at None = Ok false
torn_at (Some captures.TornEnd) = Ok true
torn_at (Some fault) = Err (Capture fault)

-- ---- after the last record

-- the writers, and the report's failed calls, after a fault behind the last record
abbrev pub FinishFails : ReplayStart → List Entry → Option CaptureFault → Option (List ℕ) → Option (List ℕ)
    → Failures → Failures → RunFault → Type 0
FinishFails start history stop w r before after (Capture fault) = (torn_at stop ≡ Err (Capture fault))
    × AllWritten start history w r
FinishFails start history stop w r before after Device = PrefixWritten start history w r ⊎ ((torn : Bool)
    × (torn_at stop ≡ Ok torn) × (Appends start.sent w (capture_text history)
    × AppendsPrefix start.report r (report_text start.setup start.trace history torn)) × (after ≡ one_failure before))
FinishFails start history stop w r before after _ = ⊥

-- a replay whose records stop so is finished, or a fault stops it
abbrev pub Finishes : Replay → Option CaptureFault → Result Bool RunFault → Devices → Devices → Type 0
Finishes replay stop result old new = OfHistory replay old.sent old.report (λ start history.
    MatchResult result (λ torn. Appends start.sent new.sent (capture_text history)
    × Appends start.report new.report (report_text start.setup start.trace history torn))
    (FinishFails start history stop new.sent new.report old.reports_failed new.reports_failed))

-- ---- the whole

-- nothing was read and nothing written
abbrev pub Unchanged : Devices → Devices → Type 0
Unchanged old new = (new.unread ≡ old.unread) × Untouched old new × (new.reads_failed ≡ old.reads_failed)

abbrev pub input_at : {rules box : List ℕ} {format : Format} → Accepted rules box → (capture : List ℕ)
    → format_of capture ≡ Ok format → Bool → Devices → ReplayInput
input_at {rules} {box} {format} accepted capture header trace before = record {
  rules = rules;
  box = box;
  capture = capture;
  accepted = accepted;
  format = format;
  header = header;
  trace = trace;
  before = before;
}

-- what holds of each accepted input of this configuration, whose bytes behind the header are to come; the
-- reader may have had more left before
abbrev pub OfEach : Setup → Bool → CaptureState → Devices → (ReplayInput → Type 0) → Type 0
OfEach setup trace records old P = (rules box capture : List ℕ) (accepted : Accepted rules box)
    (header : format_of capture ≡ Ok records.format) (unread : Option (List ℕ)) → setup ≡ accepted.setup
    → unread_input records old.unread ≡ Some (drop HEADER_BYTES capture)
    → P (input_at accepted capture header trace (record old { unread = unread }))

-- the writers got the outputs of the input's meaning, of so many records
abbrev pub WritesOutputs : Setup → Bool → CaptureState → Summary → Devices → Devices → Type 0
WritesOutputs setup trace records summary old new = OfEach setup trace records old (λ input.
    (sent : List ℕ) × (report : List ℕ)
    × Meaning input.rules input.box input.capture input.trace summary.records summary.torn sent report
    × Appends input.before.sent new.sent sent × Appends input.before.report new.report report)

-- a fault leaves the devices so, or it was of memory before anything was read or written
abbrev pub LeavesPrefix : Setup → Bool → CaptureState → RunFault → Devices → Devices → Type 0
LeavesPrefix setup trace records fault old new = OfEach setup trace records old (λ input.
    LeavesOf input old new fault ⊎ ((fault ≡ Memory) × Unchanged old new))
