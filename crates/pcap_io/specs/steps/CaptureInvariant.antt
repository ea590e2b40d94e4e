-- The invariant of a capture, and the state that it shows.
use Rattle.std.specs.Prelude.{◌≡◌, ◌<◌, ◌≤◌, ℕ, List, length, Option, Some, None, IfSome}
use Rattle.pcap_io.specs.declared.fault.CaptureError.{CaptureError}
use Rattle.pcap_io.specs.declared.format.LinkType.{LinkType}
use Rattle.pcap_io.specs.declared.format.Format.{Format}
use Rattle.pcap_io.specs.Pcap.{Recorded, MOMENTS_END, MOST_RECORDS, MOST_CAPTURED}
use Rattle.pcap_io.specs.CaptureStates.{CaptureState}
use Rattle.pcap_io.specs.ReadAhead.{READ_AHEAD}
use Rattle.pcap_io.specs.declared.capture.RecordHeader.{RecordHeader}
use Rattle.pcap_io.specs.steps.Buffered.{IsBuffered}
use Rattle.pcap_io.specs.steps.ReadAhead.{BufferState, last_of}

-- the last record: the bytes taken last, at the latest timestamp
abbrev pub last_in : LinkType → List ℕ → ℕ → Option ℕ → Option Recorded
last_in link taken latest None = None
last_in link taken latest (Some n) = Some (record { moment = latest; link = link; bytes = last_of n taken })

-- the state that it shows
abbrev pub capture_state_of : Format → BufferState → ℕ → ℕ → Option CaptureError → Option ℕ → CaptureState
capture_state_of format ahead count latest fault last =
    record {
      format = format;
      held = ahead.held;
      ended = ahead.ended;
      count = count;
      latest = latest;
      fault = fault;
      last = last_in format.link ahead.taken latest last;
    }

-- a decoded header is that of a whole record, which the buffer begins with
abbrev pub IsUpcoming : Format → ℕ → List ℕ → Option CaptureError → RecordHeader → Type 0
IsUpcoming format count bytes fault header = (fault ≡ None) × IsBuffered format count bytes header

-- the invariant
pub record IsConsistent (format : Format) (ahead : BufferState) (count latest : ℕ)
    (fault : Option CaptureError) (last : Option ℕ) (upcoming : Option RecordHeader) : Type 0 where
  pub few : count ≤ MOST_RECORDS
  pub early : latest < MOMENTS_END
  pub behind : IfSome last (λ n. n ≤ length ahead.taken)
  pub short : IfSome last (λ n. n ≤ MOST_CAPTURED)
  pub room : length ahead.held ≤ READ_AHEAD
  pub decoded : IfSome upcoming (IsUpcoming format count ahead.held fault)
