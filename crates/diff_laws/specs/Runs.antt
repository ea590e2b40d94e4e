-- What is the same of two runs of one capture on one box. (own)
use Rattle.std.specs.Prelude.{◌≡◌, ℕ, Bool, List}
use Rattle.pcap_io.specs.declared.fault.CaptureFault.{CaptureFault}
use Rattle.history.specs.History.{capture_text}
use Rattle.engine.specs.AfterFault.{Devices, RecordRefused}
use Rattle.engine.specs.Meaning.{Meaning}
use Rattle.diff_laws.specs.Same.{SameHistories, totals_of}

-- the number of records, whether the capture is torn, all bytes of the capture that is written, the outcome
-- and all else of each record's entry but its events, and the totals at the end of the report
pub record SameRuns {old new box capture : List ℕ} {trace other_trace : Bool} {count others : ℕ}
    {torn other_torn : Bool} {sent other_sent report other_report : List ℕ}
    (before : Meaning old box capture trace count torn sent report)
    (after : Meaning new box capture other_trace others other_torn other_sent other_report) : Type 0 where
  pub records : count ≡ others
  pub ends : torn ≡ other_torn
  pub captures : sent ≡ other_sent
  pub entries : SameHistories before.history after.history
  pub totals : totals_of before.accepted.setup before.history torn
      ≡ totals_of after.accepted.setup after.history other_torn

-- of a capture that is refused within its records: the fault, and what is written of the records before it
pub record SameRefusals {old new box capture : List ℕ} {trace other_trace : Bool}
    {fault other_fault : CaptureFault} {left left_now other_left other_left_now : Devices}
    (before : RecordRefused old box capture trace fault left left_now)
    (after : RecordRefused new box capture other_trace other_fault other_left other_left_now) : Type 0 where
  pub faults : fault ≡ other_fault
  pub captures : capture_text before.taken_so_far.history ≡ capture_text after.taken_so_far.history
  pub entries : SameHistories before.taken_so_far.history after.taken_so_far.history
