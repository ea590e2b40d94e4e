-- The pcap capture file format (draft-ietf-opsawg-pcap; pcap-savefile(5)). The limits on lengths and counts
-- are own.
use Rattle.std.specs.Prelude.{◌≡◌, ◌≢◌, ◌<◌, ◌≤◌, ◌+◌, ◌*◌, ◌%◌, ◌==◌, nat_lt, not, max, ℕ, ◌⊎◌}
use Rattle.std.specs.Prelude.{if◌then◌else◌}
use Rattle.std.specs.Prelude.{List, [], ◌∷◌, ◌++◌, length, drop, All, Option, Some, None, Result, Ok, Err}
use Rattle.std.specs.List.{flat_map}
use Rattle.std.specs.Result.{result_err}
use Rattle.byteorder.specs.Endian.{little_from, big_from}
use Rattle.pcap_io.specs.declared.fault.CaptureFault.{CaptureFault}
use Rattle.pcap_io.specs.declared.fault.CaptureFault.TheVariants as faults
use Rattle.pcap_io.specs.declared.format.Endianness.{Endianness}
use Rattle.pcap_io.specs.declared.format.Endianness.TheVariants.{Little, Big}
use Rattle.pcap_io.specs.declared.format.Resolution.{Resolution}
use Rattle.pcap_io.specs.declared.format.Resolution.TheVariants.{Microseconds, Nanoseconds}
use Rattle.pcap_io.specs.declared.format.LinkType.{LinkType}
use Rattle.pcap_io.specs.declared.format.LinkType.TheVariants.{Ethernet, Raw, Sll2}
use Rattle.pcap_io.specs.declared.format.Format.{Format}

-- ---- the file header (draft-ietf-opsawg-pcap, section 4)

-- the number in so many bytes from an offset on
abbrev pub number_in : Endianness → ℕ → ℕ → List ℕ → ℕ
number_in Little offset count bytes = little_from offset count bytes
number_in Big offset count bytes = big_from offset count bytes

-- units per second
abbrev pub per_second : Resolution → ℕ
per_second Microseconds = 1000000
per_second Nanoseconds = 1000000000

-- nanoseconds per unit
abbrev pub nanoseconds : Resolution → ℕ
nanoseconds Microseconds = 1000
nanoseconds Nanoseconds = 1

abbrev pub HEADER_BYTES : ℕ
HEADER_BYTES = 24

-- a1b2c3d4
abbrev pub MICROSECOND_MAGIC : ℕ
MICROSECOND_MAGIC = 2712847316

-- a1b23c4d
abbrev pub NANOSECOND_MAGIC : ℕ
NANOSECOND_MAGIC = 2712812621

-- the resolution of a magic number
abbrev pub resolution_of : ℕ → Option Resolution
resolution_of number =
    if number == MICROSECOND_MAGIC then Some Microseconds
    else (if number == NANOSECOND_MAGIC then Some Nanoseconds else None)

-- the byte order in which the magic number is known, and its resolution
abbrev pub encoding_by : Option Resolution → Option Resolution → Option (Endianness × Resolution)
encoding_by (Some resolution) highest = Some (Little, resolution)
encoding_by None (Some resolution) = Some (Big, resolution)
encoding_by None None = None

abbrev pub encoding_of : List ℕ → Option (Endianness × Resolution)
encoding_of bytes =
    encoding_by (resolution_of (number_in Little 0 4 bytes)) (resolution_of (number_in Big 0 4 bytes))

-- LINKTYPE_ETHERNET, LINKTYPE_RAW, LINKTYPE_LINUX_SLL2 (draft-ietf-opsawg-pcaplinktype)
abbrev pub link_type_of : ℕ → Option LinkType
link_type_of number =
    if number == 1 then Some Ethernet
    else (if number == 101 then Some Raw
    else (if number == 276 then Some Sll2 else None))

-- the low 16 bits of the field; the others describe a frame check sequence
abbrev pub link_type_in : Endianness → List ℕ → Option LinkType
link_type_in endianness bytes = link_type_of (number_in endianness 20 4 bytes % 65536)

abbrev pub format_with_link : Endianness → Resolution → Option LinkType → Result Format CaptureFault
format_with_link endianness resolution None = Err faults.LinkType
format_with_link endianness resolution (Some link) = Ok (record {
  endianness = endianness;
  resolution = resolution;
  link = link;
})

-- the version is 2.4
abbrev pub format_with_version : List ℕ → Option (Endianness × Resolution) → Result Format CaptureFault
format_with_version bytes None = Err faults.Magic
format_with_version bytes (Some encoding) =
    if not (number_in encoding.0 4 2 bytes == 2) then Err faults.Version
    else (if not (number_in encoding.0 6 2 bytes == 4) then Err faults.Version
    else format_with_link encoding.0 encoding.1 (link_type_in encoding.0 bytes))

-- magic, version, zone, sigfigs, snaplen, link type; zone, sigfigs and snaplen aren't used. The first test
-- that fails, of length, magic, version and link type in this order, is the fault
abbrev pub format_of : List ℕ → Result Format CaptureFault
format_of bytes = if nat_lt (length bytes) HEADER_BYTES then Err faults.TornEnd
    else format_with_version bytes (encoding_of bytes)

abbrev pub header_fault : List ℕ → Option CaptureFault
header_fault bytes = result_err (format_of bytes)

-- ---- the records (draft-ietf-opsawg-pcap, section 5)

-- a record as in the file: 16 bytes of header, and the captured bytes
pub record Captured : Type 0 where
  pub head : List ℕ
  pub bytes : List ℕ

-- the header's fields: seconds, their fraction, captured length; the original length isn't used
abbrev pub seconds_in : Format → List ℕ → ℕ
seconds_in format head = number_in format.endianness 0 4 head

abbrev pub fraction_in : Format → List ℕ → ℕ
fraction_in format head = number_in format.endianness 4 4 head

abbrev pub captured_length_in : Format → List ℕ → ℕ
captured_length_in format head = number_in format.endianness 8 4 head

abbrev pub RECORD_HEADER_BYTES : ℕ
RECORD_HEADER_BYTES = 16

abbrev pub MOST_CAPTURED : ℕ
MOST_CAPTURED = 262144

-- a record may have this header: the length is in the limit, and the fraction is less than a second
abbrev pub IsGood : Format → List ℕ → Type 0
IsGood format head =
    (captured_length_in format head ≤ MOST_CAPTURED)
    × (fraction_in format head < per_second format.resolution)

pub record IsRecord (format : Format) (r : Captured) : Type 0 where
  pub head_length : length r.head ≡ RECORD_HEADER_BYTES
  pub good : IsGood format r.head
  pub captured : captured_length_in format r.head ≡ length r.bytes

abbrev pub frame : Captured → List ℕ
frame r = r.head ++ r.bytes

-- the bytes of these records, and then the rest
abbrev pub stream_of : List Captured → List ℕ → List ℕ
stream_of records rest = flat_map frame records ++ rest

-- the greatest number of records in a file
abbrev pub MOST_RECORDS : ℕ
MOST_RECORDS = 4294967296

-- how a file's records end
pub data Ending : Type 0 where
  -- behind a whole record
  Whole : Ending
  -- inside a record
  Torn : Ending
  -- at a malformed header
  Malformed : Ending
  -- at a byte after the greatest number of records
  Over : Ending

-- the bytes after so many records, where no further record is
abbrev pub Ends : Format → Ending → ℕ → List ℕ → Type 0
Ends format Whole count rest = rest ≡ []
Ends format Over count rest = (rest ≢ []) × (count ≡ MOST_RECORDS)
Ends format Torn count rest = (rest ≢ []) × (count < MOST_RECORDS)
    × ((length rest < RECORD_HEADER_BYTES)
    ⊎ (IsGood format rest × (length rest < RECORD_HEADER_BYTES + captured_length_in format rest)))
Ends format Malformed count rest = (count < MOST_RECORDS) × (RECORD_HEADER_BYTES ≤ length rest)
    × ((MOST_CAPTURED < captured_length_in format rest)
    ⊎ (per_second format.resolution ≤ fraction_in format rest))

-- these bytes are an accepted file header and these records, and end so
pub record Pcap (bytes : List ℕ) (records : List Captured) (ending : Ending) : Type 0 where
  pub format : Format
  pub accepted : format_of bytes ≡ Ok format
  pub rest : List ℕ
  pub whole : drop HEADER_BYTES bytes ≡ stream_of records rest
  pub each : All (IsRecord format) records
  pub not_over : length records ≤ MOST_RECORDS
  pub ends : Ends format ending (length records) rest

-- ---- the records decoded

-- all timestamps are below this, in nanoseconds: the seconds have 32 bits, the fraction is less than a
-- second
abbrev pub MOMENTS_END : ℕ
MOMENTS_END = 4294967296000000000

-- a decoded record: its timestamp in nanoseconds, its link type, and the captured bytes
pub record Recorded : Type 0 where
  pub moment : ℕ
  pub link : LinkType
  pub bytes : List ℕ

-- the timestamp in the record's own header
abbrev pub own_moment : Format → Captured → ℕ
own_moment format r = seconds_in format r.head * 1000000000 + fraction_in format r.head * nanoseconds
    format.resolution

-- a record's timestamp is the greatest of its own and all earlier ones (own)
abbrev pub decoded_after : Format → ℕ → List Captured → List Recorded
decoded_after format latest [] = []
decoded_after format latest (r ∷ rs) =
    let moment = max latest (own_moment format r) in
    record { moment = moment; link = format.link; bytes = r.bytes } ∷ decoded_after format moment rs

abbrev pub decoded_records : Format → List Captured → List Recorded
decoded_records format records = decoded_after format 0 records
