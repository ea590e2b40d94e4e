-- The state of a capture while it is read, and the results of its calls (own).
use Rattle.std.specs.Prelude.{◌≡◌, ◌+◌, ◌<◌, ◌==◌, ◌||◌, nat_lt, not, max, ℕ, ◌⊎◌, if◌then◌else◌}
use Rattle.std.specs.Prelude.{Bool, true, false, cond, List, [], ◌++◌, length, Option, Some, None, is_some}
use Rattle.std.specs.Prelude.{Result, Ok}
use Rattle.std.specs.Prelude.{Err, IfSome}
use Rattle.std.specs.Io.KnownBytes.{prepend_known}
use Rattle.pcap_io.specs.declared.fault.CaptureFault.TheVariants.{TornEnd, Malformed, TooMany}
use Rattle.pcap_io.specs.declared.fault.CaptureError.{CaptureError}
use Rattle.pcap_io.specs.declared.fault.CaptureError.TheVariants.{Refused, Device, Memory}
use Rattle.pcap_io.specs.declared.format.Format.{Format}
use Rattle.pcap_io.specs.declared.capture.Record.{Record}
use Rattle.pcap_io.specs.Pcap.{MOST_CAPTURED, MOST_RECORDS, RECORD_HEADER_BYTES, header_fault}
use Rattle.pcap_io.specs.Pcap.{captured_length_in, fraction_in, per_second}
use Rattle.pcap_io.specs.Pcap.{Captured, Recorded, IsRecord, frame, own_moment, Ends}
use Rattle.pcap_io.specs.Pcap as pcap

-- the format, the buffered bytes, whether the reader has ended, how many records were read and the greatest
-- timestamp of them, the error, and the last record
pub record CaptureState : Type 0 where
  pub format : Format
  pub held : List ℕ
  pub ended : Bool
  pub count : ℕ
  pub latest : ℕ
  pub fault : Option CaptureError
  pub last : Option Recorded

-- the reader has ended, and all its bytes were taken
abbrev pub IsDone : CaptureState → Type 0
IsDone s = (s.fault ≡ None) × (s.ended ≡ true) × (s.held ≡ [])

-- the bytes to come, where they are known: the buffered ones, then the reader's unless it has ended
abbrev pub ahead : CaptureState → Option (List ℕ) → Option (List ℕ)
ahead s left = cond s.ended (Some s.held) (prepend_known s.held left)

-- after so many records these bytes decide the next result, whatever follows them: a whole record, a
-- malformed header, or a byte after as many records as a file may have
abbrev pub decides_next : Format → ℕ → List ℕ → Bool
decides_next format count bytes =
    if count == MOST_RECORDS then nat_lt 0 (length bytes)
    else (if nat_lt (length bytes) RECORD_HEADER_BYTES then false
    else (nat_lt MOST_CAPTURED (captured_length_in format bytes)
    || not (nat_lt (fraction_in format bytes) (per_second format.resolution)))
    || not (nat_lt (length bytes) (RECORD_HEADER_BYTES + captured_length_in format bytes)))

-- the next result needs no read: after an error, where the buffer decides it, and at the end
abbrev pub is_ready : CaptureState → Bool
is_ready s = is_some s.fault || (s.ended || decides_next s.format s.count s.held)

-- these bytes are no whole record, though one may begin with them
abbrev pub IsPartialRecord : Format → ℕ → List ℕ → Type 0
IsPartialRecord format count bytes = Ends format pcap.Whole count bytes ⊎ Ends format pcap.Torn count bytes

-- a read failed before the next record was complete: all that was read of it is buffered
pub record FailsBetween (bytes : List ℕ) (after : Option (List ℕ)) (new : CaptureState) : Type 0 where
  pub lost_none : after ≡ Some bytes
  pub open_end : new.ended ≡ false
  pub part : IsPartialRecord new.format new.count new.held

-- ---- opening

-- a refusal has the fault of the file header
abbrev pub RefusedBy : Option (List ℕ) → CaptureError → Type 0
RefusedBy input (Refused fault) = IfSome input (λ bytes. header_fault bytes ≡ Some fault)
RefusedBy input Device = Unit {0}
RefusedBy input Memory = Unit {0}

-- the errors of opening a capture
abbrev pub IsOfHeader : CaptureError → Type 0
IsOfHeader (Refused Malformed) = ⊥
IsOfHeader (Refused TooMany) = ⊥
IsOfHeader _ = Unit {0}

-- ---- reading on

-- one more record was read from the bytes to come, and these are to come then
pub record ReadsRecord (bytes : List ℕ) (after : Option (List ℕ)) (old new : CaptureState) : Type 0 where
  pub captured : Captured
  pub rest : List ℕ
  pub left : after ≡ Some rest
  pub joined : bytes ≡ frame captured ++ rest
  pub is_record : IsRecord old.format captured
  pub fewer : old.count < MOST_RECORDS
  pub counted : new.count ≡ old.count + 1
  pub latest_is : new.latest ≡ max old.latest (own_moment old.format captured)
  pub last_is : new.last ≡ Some (record {
    moment = new.latest;
    link = old.format.link;
    bytes = captured.bytes;
  })

-- the result of `next`, by the bytes to come; an error consumes none of them
abbrev pub NextAnswers : List ℕ → Option (List ℕ) → CaptureState → CaptureState → Result Bool CaptureError
    → Type 0
NextAnswers bytes after old new (Ok true) = ReadsRecord bytes after old new
NextAnswers bytes after old new (Ok false) = Ends old.format pcap.Whole old.count bytes × (after ≡ Some [])
NextAnswers bytes after old new (Err (Refused TornEnd)) = Ends old.format pcap.Torn old.count bytes
    × (after ≡ Some bytes)
NextAnswers bytes after old new (Err (Refused Malformed)) =
    Ends old.format pcap.Malformed old.count bytes × (after ≡ Some bytes)
NextAnswers bytes after old new (Err (Refused TooMany)) = Ends old.format pcap.Over old.count bytes
    × (after ≡ Some bytes)
NextAnswers bytes after old new (Err Device) = FailsBetween bytes after new
NextAnswers bytes after old new _ = ⊥

-- the errors of reading a record
abbrev pub IsOfRecords : CaptureError → Type 0
IsOfRecords (Refused TornEnd) = Unit {0}
IsOfRecords (Refused Malformed) = Unit {0}
IsOfRecords (Refused TooMany) = Unit {0}
IsOfRecords Device = Unit {0}
IsOfRecords _ = ⊥

-- the record that a capture lends
abbrev pub recorded : Option Record → Option Recorded
recorded None = None
recorded (Some r) = Some (record { moment = r.moment; link = r.link_type; bytes = r.bytes.now })
