-- The reader and the writers after a fault, and the count of failed calls (own).
use Rattle.std.specs.Prelude.{◌≡◌, ◌<◌, ◌≤◌, ◌++◌, ℕ, Bool, true, List, [], length, drop, All, Option, ◌⊎◌}
use Rattle.std.specs.Prelude.{Some, Result, Ok, Err}
use Rattle.std.specs.Io.KnownBytes.{Appends, Keeps}
use Rattle.pcap_io.specs.declared.format.Format.{Format}
use Rattle.pcap_io.specs.declared.fault.CaptureFault.{CaptureFault}
use Rattle.pcap_io.specs.Pcap.{Captured, IsRecord, Ending, Ends, format_of, frame, header_fault, stream_of}
use Rattle.pcap_io.specs.Pcap.{decoded_records}
use Rattle.pcap_io.specs.Pcap.{HEADER_BYTES, MOST_RECORDS}
use Rattle.pcap_io.specs.ReadAhead.{READ_AHEAD}
use Rattle.devices.specs.Counting.{AppendsPrefix, one_failure}
use Rattle.devices.specs.declared.counted.Counted.{Counted}
use Rattle.devices.specs.declared.failures.Failures.{Failures}
use Rattle.nft_tree.specs.Tree.{TableTree}
use Rattle.history.specs.History.{Entry, capture_text}
use Rattle.report.specs.Report.{entry_lines, report_text}
use Rattle.stepping.specs.Next.{IsHistoryOf}
use Rattle.engine.specs.declared.fault.RunFault.{RunFault}
use Rattle.engine.specs.declared.fault.RunFault.TheVariants.{Rules, Box, Capture, Device, Memory}
use Rattle.engine.specs.Meaning.{Accepted, ending_of}
use Rattle.engine.specs.Refusals.{fault_at}

-- what the reader has left and the two writers hold, where it is known, and their numbers of failed calls
pub record Devices : Type 0 where
  pub unread : Option (List ℕ)
  pub sent : Option (List ℕ)
  pub report : Option (List ℕ)
  pub reads_failed : Failures
  pub sends_failed : Failures
  pub reports_failed : Failures

-- of a reader and two writers that count their calls, by what each has left or holds
abbrev pub devices : {R W W2 : Type 0} → (R → Option (List ℕ)) → (W → Option (List ℕ))
    → (W2 → Option (List ℕ)) → Counted R → Counted W → Counted W2 → Devices
devices remaining sent_bytes report_bytes capture sent report = record {
  unread = remaining capture.inner;
  sent = sent_bytes sent.inner;
  report = report_bytes report.inner;
  reads_failed = capture.failures;
  sends_failed = sent.failures;
  reports_failed = report.failures;
}

-- nothing was written
abbrev pub Untouched : Devices → Devices → Type 0
Untouched old new = Keeps old.sent new.sent × Keeps old.report new.report

-- ---- before the first record

-- a read failed before the file header was complete
pub record FailedHeaderRead (rules box capture : List ℕ) (old new : Devices) : Type 0 where
  pub accepted : Accepted rules box
  pub part : List ℕ
  pub left : List ℕ
  pub unread : new.unread ≡ Some left
  pub joined : capture ≡ part ++ left
  pub short : length part < HEADER_BYTES
  pub untouched : Untouched old new
  pub failed : new.reads_failed ≡ one_failure old.reads_failed

-- no record was processed, though bytes may have been read ahead; no read failed, and nothing was written
pub record NothingTaken (capture : List ℕ) (old new : Devices) : Type 0 where
  pub part : List ℕ
  pub left : List ℕ
  pub unread : new.unread ≡ Some left
  pub joined : capture ≡ part ++ left
  pub few : length part ≤ READ_AHEAD
  pub untouched : Untouched old new
  pub all_read : new.reads_failed ≡ old.reads_failed

-- ---- within the records

-- the texts and the file header are accepted; these records were processed and have this history, these
-- bytes were read ahead, and the reader has the rest left
pub record RecordsTaken (rules box capture : List ℕ) (new : Devices) : Type 0 where
  pub accepted : Accepted rules box
  pub format : Format
  pub header : format_of capture ≡ Ok format
  pub records : List Captured
  pub ahead : List ℕ
  pub left : List ℕ
  pub joined : drop HEADER_BYTES capture ≡ stream_of records (ahead ++ left)
  pub unread : new.unread ≡ Some left
  pub each : All (IsRecord format) records
  pub not_over : length records ≤ MOST_RECORDS
  pub history : List Entry
  pub is_history : IsHistoryOf accepted.setup [] (decoded_records format records) history

-- the report has lines of the first records alone, all of whose packets were written to the capture
pub record ReportsSent (rules : List TableTree) (trace : Bool) (history : List Entry)
    (sent sent_now report report_now : Option (List ℕ))
    : Type 0 where
  pub later : List Entry
  pub reported : List Entry
  pub joined : history ≡ later ++ reported
  pub lines : AppendsPrefix report report_now (entry_lines rules trace reported)
  pub more : List ℕ
  pub packets : Appends sent sent_now (capture_text reported ++ more)

-- the report isn't ahead of the capture: it has no line, or lines of such records
abbrev pub IsNotAhead : List TableTree → Bool → List Entry → (sent sent_now report report_now : Option (List ℕ))
    → Type 0
IsNotAhead rules trace history sent sent_now report report_now = Appends report report_now []
    ⊎ ReportsSent rules trace history sent sent_now report report_now

-- exactly one call of one of the writers failed
abbrev pub WriterFailed : Devices → Devices → Type 0
WriterFailed old new = (new.sends_failed ≡ one_failure old.sends_failed)
    ⊎ (new.reports_failed ≡ one_failure old.reports_failed)

-- a writer failed. Each got a prefix of its text for the records so far, the report without counters and
-- totals, and the report isn't ahead of the capture; no read failed
pub record FailedWrite (rules box capture : List ℕ) (trace : Bool) (old new : Devices) : Type 0 where
  pub taken_so_far : RecordsTaken rules box capture new
  pub few : length taken_so_far.ahead ≤ READ_AHEAD
  pub sent : AppendsPrefix old.sent new.sent (capture_text taken_so_far.history)
  pub report : AppendsPrefix old.report new.report (entry_lines taken_so_far.accepted.setup.rules trace
      taken_so_far.history)
  pub not_ahead : IsNotAhead taken_so_far.accepted.setup.rules trace taken_so_far.history old.sent new.sent
      old.report new.report
  pub failed : WriterFailed old new
  pub all_read : new.reads_failed ≡ old.reads_failed

-- a read failed among the records: the records before it are processed, and both outputs of them are
-- written, but for counters and totals
pub record FailedRead (rules box capture : List ℕ) (trace : Bool) (old new : Devices) : Type 0 where
  pub taken_so_far : RecordsTaken rules box capture new
  pub few : length taken_so_far.ahead ≤ READ_AHEAD
  pub torn : Bool
  pub ends : Ends taken_so_far.format (ending_of torn) (length taken_so_far.records) taken_so_far.ahead
  pub sent : Appends old.sent new.sent (capture_text taken_so_far.history)
  pub report : Appends old.report new.report (entry_lines taken_so_far.accepted.setup.rules trace
      taken_so_far.history)
  pub failed : new.reads_failed ≡ one_failure old.reads_failed

-- an allocation failed at a record: both outputs of the records before it are written, but for counters and
-- totals; no read failed
pub record OutOfMemory (rules box capture : List ℕ) (trace : Bool) (old new : Devices) : Type 0 where
  pub taken_so_far : RecordsTaken rules box capture new
  pub untaken : Captured
  pub is_record : IsRecord taken_so_far.format untaken
  pub more : List ℕ
  pub read : taken_so_far.ahead ≡ frame untaken ++ more
  pub few : length more ≤ READ_AHEAD
  pub sent : Appends old.sent new.sent (capture_text taken_so_far.history)
  pub report : Appends old.report new.report (entry_lines taken_so_far.accepted.setup.rules trace
      taken_so_far.history)
  pub all_read : new.reads_failed ≡ old.reads_failed

-- a record was refused: both outputs of the records before it are written, but for counters and totals
pub record RecordRefused (rules box capture : List ℕ) (trace : Bool) (fault : CaptureFault)
    (old new : Devices)
    : Type 0 where
  pub taken_so_far : RecordsTaken rules box capture new
  pub few : length taken_so_far.ahead ≤ READ_AHEAD
  pub ending : Ending
  pub ends : Ends taken_so_far.format ending (length taken_so_far.records)
      (taken_so_far.ahead ++ taken_so_far.left)
  pub refused : fault_at ending ≡ Some fault
  pub sent : Appends old.sent new.sent (capture_text taken_so_far.history)
  pub report : Appends old.report new.report (entry_lines taken_so_far.accepted.setup.rules trace
      taken_so_far.history)
  pub all_read : new.reads_failed ≡ old.reads_failed

-- all records were processed, and the report's writer failed then: the output capture is whole, and the
-- report has a prefix
pub record FailedReport (rules box capture : List ℕ) (trace : Bool) (old new : Devices) : Type 0 where
  pub taken_so_far : RecordsTaken rules box capture new
  pub few : length taken_so_far.ahead ≤ READ_AHEAD
  pub torn : Bool
  pub ends : Ends taken_so_far.format (ending_of torn) (length taken_so_far.records)
      (taken_so_far.ahead ++ taken_so_far.left)
  pub sent : Appends old.sent new.sent (capture_text taken_so_far.history)
  pub report : AppendsPrefix old.report new.report (report_text taken_so_far.accepted.setup trace
      taken_so_far.history torn)
  pub failed : new.reports_failed ≡ one_failure old.reports_failed

-- ---- by the fault

-- the cases of a failed read or write
pub data LeftByDeviceFault (rules box capture : List ℕ) (trace : Bool) (old new : Devices) : Type 0 where
  failed_header_read : FailedHeaderRead rules box capture old new
      → LeftByDeviceFault rules box capture trace old new
  failed_read : FailedRead rules box capture trace old new
      → LeftByDeviceFault rules box capture trace old new
  failed_write : FailedWrite rules box capture trace old new
      → LeftByDeviceFault rules box capture trace old new
  failed_report : FailedReport rules box capture trace old new
      → LeftByDeviceFault rules box capture trace old new

-- the devices after each fault
abbrev pub LeftDevices : List ℕ → List ℕ → List ℕ → Bool → Devices → Devices → RunFault → Type 0
LeftDevices rules box capture trace old new (Rules fault) = Untouched old new
LeftDevices rules box capture trace old new (Box fault) = Untouched old new
LeftDevices rules box capture trace old new (Capture fault) =
    ((header_fault capture ≡ Some fault) × NothingTaken capture old new)
    ⊎ RecordRefused rules box capture trace fault old new
LeftDevices rules box capture trace old new Device = LeftByDeviceFault rules box capture trace old new
LeftDevices rules box capture trace old new Memory = NothingTaken capture old new
    ⊎ OutOfMemory rules box capture trace old new

-- ---- failed calls and flushes

-- no call failed
abbrev pub NoneFailed : Devices → Devices → Type 0
NoneFailed old new = (new.reads_failed ≡ old.reads_failed) × (new.sends_failed ≡ old.sends_failed)
    × (new.reports_failed ≡ old.reports_failed)

-- exactly one of the three counts rose, by one
abbrev pub OneFailed : Devices → Devices → Type 0
OneFailed old new =
    ((new.reads_failed ≡ one_failure old.reads_failed) × (new.sends_failed ≡ old.sends_failed)
    × (new.reports_failed ≡ old.reports_failed))
    ⊎ (((new.reads_failed ≡ old.reads_failed) × (new.sends_failed ≡ one_failure old.sends_failed)
    × (new.reports_failed ≡ old.reports_failed))
    ⊎ ((new.reads_failed ≡ old.reads_failed) × (new.sends_failed ≡ old.sends_failed)
    × (new.reports_failed ≡ one_failure old.reports_failed)))

-- `Device` is exactly one failed call; otherwise none failed
abbrev pub CountsFault : {T : Type 0} → Result T RunFault → Devices → Devices → Type 0
CountsFault (Err Device) old new = OneFailed old new
CountsFault _ old new = NoneFailed old new

-- all that both writers were given is flushed
abbrev pub AllFlushed : {W W2 : Type 0} → Counted W → Counted W2 → Type 0
AllFlushed sent report = (sent.is_flushed ≡ true) × (report.is_flushed ≡ true)
