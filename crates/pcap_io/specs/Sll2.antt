-- The capture that is written: pcap (draft-ietf-opsawg-pcap) with nanoseconds, little-endian, and
-- LINKTYPE_LINUX_SLL2 (draft-ietf-opsawg-pcaplinktype).
use Rattle.std.specs.Prelude.{ℕ, ◌+◌, ◌/◌, ◌%◌, ◌^◌, ◌<◌, ◌≤◌, List, [], ◌∷◌, ◌++◌, length}
use Rattle.std.specs.List.{flat_map}
use Rattle.byteorder.specs.Endian.{little_bytes, big_bytes}
use Rattle.pcap_io.specs.Pcap.{MOST_CAPTURED, NANOSECOND_MAGIC}
use Rattle.pcap_io.specs.declared.sink.Leaving.{Leaving}

-- a packet that leaves the box: the time in nanoseconds, the output interface's index, the bytes
pub record Sent : Type 0 where
  pub moment : ℕ
  pub interface : ℕ
  pub packet : List ℕ

-- its numbers fit their fields
pub record IsSent (s : Sent) : Type 0 where
  pub seconds_fit : s.moment / 1000000000 < 2 ^ 32
  pub index_fits : s.interface < 2 ^ 32
  pub length_fits : length s.packet ≤ 65535

-- magic a1b23c4d, version 2.4, zone 0, sigfigs 0, snaplen 262144, link type 276
abbrev pub sll2_header : List ℕ
sll2_header =
    little_bytes 4 NANOSECOND_MAGIC ++ little_bytes 2 2 ++ little_bytes 2 4 ++ little_bytes 4 0
    ++ little_bytes 4 0 ++ little_bytes 4 MOST_CAPTURED ++ little_bytes 4 276

-- protocol 0800, reserved 0, the interface's index, ARPHRD_ETHER (1), packet type 4 (sent by this host),
-- address length 0, eight bytes of address; big-endian
abbrev pub link_header : ℕ → List ℕ
link_header interface =
    big_bytes 2 2048 ++ big_bytes 2 0 ++ big_bytes 4 interface ++ big_bytes 2 1
    ++ 4 ∷ 0 ∷ 0 ∷ 0 ∷ 0 ∷ 0 ∷ 0 ∷ 0 ∷ 0 ∷ 0 ∷ []

-- seconds, nanoseconds, captured length, original length, link header, packet
abbrev pub sll2_record : Sent → List ℕ
sll2_record s =
    little_bytes 4 (s.moment / 1000000000) ++ little_bytes 4 (s.moment % 1000000000)
    ++ little_bytes 4 (20 + length s.packet) ++ little_bytes 4 (20 + length s.packet)
    ++ link_header s.interface ++ s.packet

-- the whole file
abbrev pub sll2 : List Sent → List ℕ
sll2 sent = sll2_header ++ flat_map sll2_record sent

-- the packet that an engine lends
abbrev pub sent : Leaving → Sent
sent l = record { moment = l.moment; interface = l.interface; packet = l.packet.now }
