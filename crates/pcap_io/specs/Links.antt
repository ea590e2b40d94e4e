-- Link-layer headers (draft-ietf-opsawg-pcaplinktype: LINKTYPE_ETHERNET, LINKTYPE_RAW, LINKTYPE_LINUX_SLL2;
-- IEEE 802.3).
use Rattle.std.specs.Prelude.{ℕ, ◌%◌, ◌==◌, nat_lt, not, Bool, true, if◌then◌else◌}
use Rattle.std.specs.Prelude.{List, length, slice_index, Option, Some, None, Result, Ok, Err}
use Rattle.byteorder.specs.Endian.{big_from}
use Rattle.pcap_io.specs.declared.format.LinkType.{LinkType}
use Rattle.pcap_io.specs.declared.format.LinkType.TheVariants.{Ethernet, Raw, Sll2}
use Rattle.pcap_io.specs.declared.link.Link.{Link}
use Rattle.pcap_io.specs.declared.link.LinkCause.{LinkCause}
use Rattle.pcap_io.specs.declared.link.LinkCause.TheVariants as causes

-- the length of the header: two addresses and an EtherType; nothing; an SLL2 header
abbrev pub link_bytes : LinkType → ℕ
link_bytes Ethernet = 14
link_bytes Raw = 0
link_bytes Sll2 = 20

-- EtherType 0800, which SLL2's protocol field has too
abbrev pub IPV4 : ℕ
IPV4 = 2048

-- the header's protocol is IPv4; its numbers are big-endian
abbrev pub is_ipv4 : LinkType → List ℕ → Bool
is_ipv4 Ethernet bytes = big_from 12 2 bytes == IPV4
is_ipv4 Raw bytes = true
is_ipv4 Sll2 bytes = big_from 0 2 bytes == IPV4

-- the frame is for this station: the destination is no group address (the lowest bit of its first byte is
-- clear), or SLL2's packet type is 0, to this host
abbrev pub is_to_station : LinkType → List ℕ → Bool
is_to_station Ethernet bytes = slice_index bytes 0 % 2 == 0
is_to_station Raw bytes = true
is_to_station Sll2 bytes = slice_index bytes 10 == 0

-- the input interface's index, where the header has it
abbrev pub interface_in : LinkType → List ℕ → Option ℕ
interface_in Ethernet bytes = None
interface_in Raw bytes = None
interface_in Sll2 bytes = Some (big_from 4 4 bytes)

-- the packet's offset and the input interface; or the first test of the header that fails (the order is
-- own)
abbrev pub link_of : LinkType → List ℕ → Result Link LinkCause
link_of link bytes =
    if nat_lt (length bytes) (link_bytes link) then Err causes.Short
    else (if not (is_ipv4 link bytes) then Err causes.NotIp
    else (if not (is_to_station link bytes) then Err causes.Link
    else Ok (record { packet = link_bytes link; interface = interface_in link bytes })))
