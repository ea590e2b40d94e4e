-- A record that is buffered whole.
use Rattle.std.specs.Prelude.{◌≡◌, ℕ, ◌+◌, ◌<◌, ◌≤◌, List, length}
use Rattle.pcap_io.specs.declared.format.Format.{Format}
use Rattle.pcap_io.specs.declared.capture.RecordHeader.{RecordHeader}
use Rattle.pcap_io.specs.Pcap.{MOST_RECORDS, RECORD_HEADER_BYTES, IsGood}
use Rattle.pcap_io.specs.Pcap.{captured_length_in, fraction_in, seconds_in}

-- after so many records these bytes begin with a whole one, which has this header
pub record IsBuffered (format : Format) (count : ℕ) (bytes : List ℕ) (header : RecordHeader) : Type 0 where
  pub few : count < MOST_RECORDS
  pub seconds : header.seconds ≡ seconds_in format bytes
  pub fraction : header.fraction ≡ fraction_in format bytes
  pub captured : header.captured ≡ captured_length_in format bytes
  pub good : IsGood format bytes
  pub there : RECORD_HEADER_BYTES + header.captured ≤ length bytes
