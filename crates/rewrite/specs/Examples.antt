-- The packets of the examples, word by word. A is 192.168.1.10, B is 198.51.100.7, E is 203.0.113.1, and R,
-- a router, is 198.51.100.1.
use Rattle.std.specs.Prelude.{ℕ, ◌/◌, ◌%◌, List, [], ◌∷◌, ◌++◌, Some, None}
use Rattle.ip_headers.specs.declared.tuple.Kind.{Kind}
use Rattle.rewrite.specs.declared.change.Change.{Change}
use Rattle.rewrite.specs.declared.change.PortsOrIdentifier.TheVariants.{Ports, Identifier}

abbrev pub in_words : List ℕ → List ℕ
in_words [] = []
in_words (word ∷ others) = (word / 256) ∷ (word % 256) ∷ in_words others

-- UDP to B, port 5000 to 53, without data: the words of TTL and protocol, of the header checksum and of the
-- source address, and the UDP checksum
abbrev pub udp : ℕ → ℕ → ℕ → ℕ → ℕ → List ℕ
udp time header high low checksum =
    in_words (0x4500 ∷ 28 ∷ 1 ∷ 0 ∷ time ∷ header ∷ high ∷ low ∷ 0xc633 ∷ 0x6407
    ∷ 5000 ∷ 53 ∷ 8 ∷ checksum ∷ [])

-- TCP from port 5000 to 80: the words of TTL and protocol, of the header checksum and of the two addresses,
-- and the TCP checksum
abbrev pub tcp : ℕ → ℕ → List ℕ → ℕ → List ℕ
tcp time header addresses checksum =
    in_words ((0x4500 ∷ 40 ∷ 1 ∷ 0 ∷ time ∷ header ∷ []) ++ addresses
    ++ 5000 ∷ 80 ∷ 0 ∷ 0 ∷ 0 ∷ 0 ∷ 0x5002 ∷ 0x1000 ∷ checksum ∷ 0 ∷ [])

abbrev pub a_to_b : List ℕ
a_to_b = 0xc0a8 ∷ 0x010a ∷ 0xc633 ∷ 0x6407 ∷ []

abbrev pub b_to_a : List ℕ
b_to_a = 0xc633 ∷ 0x6407 ∷ 0xc0a8 ∷ 0x010a ∷ []

abbrev pub e_to_b : List ℕ
e_to_b = 0xcb00 ∷ 0x7101 ∷ 0xc633 ∷ 0x6407 ∷ []

-- an ICMP echo request from A to B without data: the words of TTL and protocol and of the header checksum,
-- the ICMP checksum, and the identifier
abbrev pub echo : ℕ → ℕ → ℕ → ℕ → List ℕ
echo time header checksum identifier =
    in_words ((0x4500 ∷ 28 ∷ 1 ∷ 0 ∷ time ∷ header ∷ []) ++ a_to_b
    ++ 0x0800 ∷ checksum ∷ identifier ∷ 1 ∷ [])

-- UDP to B, port 53, with four bytes of IP options and five of data: the words of TTL and protocol, of the
-- header checksum and of the source address, the source port and the UDP checksum
abbrev pub odd : ℕ → ℕ → ℕ → ℕ → ℕ → ℕ → List ℕ
odd time header high low port checksum =
    in_words (0x4600 ∷ 37 ∷ 1 ∷ 0 ∷ time ∷ header ∷ high ∷ low ∷ 0xc633 ∷ 0x6407 ∷ 0x0101 ∷ 0x0101
    ∷ port ∷ 53 ∷ 13 ∷ checksum ∷ 0x6869 ∷ 0x7465 ∷ []) ++ 0x21 ∷ []

-- an ICMP error from R, host unreachable: the words of TTL and protocol, of the header checksum and of the
-- destination address, the ICMP checksum, and the words of the quoted datagram
abbrev pub unreachable : ℕ → ℕ → List ℕ → ℕ → List ℕ → List ℕ
unreachable time header to checksum quoted =
    in_words ((0x4500 ∷ 56 ∷ 2 ∷ 0 ∷ time ∷ header ∷ 0xc633 ∷ 0x6401 ∷ []) ++ to
    ++ 0x0301 ∷ checksum ∷ 0 ∷ 0 ∷ quoted)

-- quoted UDP to B, port 5000 to 53, after one hop: the words of the header checksum and of the source
-- address, and the UDP checksum
abbrev pub inner_udp : ℕ → List ℕ → ℕ → List ℕ
inner_udp header from checksum =
    (0x4500 ∷ 28 ∷ 1 ∷ 0 ∷ 0x3f11 ∷ header ∷ from) ++ 0xc633 ∷ 0x6407 ∷ 5000 ∷ 53 ∷ 8 ∷ checksum ∷ []

-- quoted TCP to B, port 5000 to 80, after one hop: its first 8 bytes
abbrev pub inner_tcp : ℕ → List ℕ → List ℕ
inner_tcp header from =
    (0x4500 ∷ 40 ∷ 1 ∷ 0 ∷ 0x3f06 ∷ header ∷ from) ++ 0xc633 ∷ 0x6407 ∷ 5000 ∷ 80 ∷ 0 ∷ 0 ∷ []

abbrev pub a : List ℕ
a = 0xc0a8 ∷ 0x010a ∷ []

abbrev pub e : List ℕ
e = 0xcb00 ∷ 0x7101 ∷ []

-- the change of the TTL alone
abbrev pub one_hop : Change
one_hop = record { source = None; destination = None; numbers = None; ttl = Some 63; inner = None }

-- source address E
abbrev pub from_e : Change
from_e = record { source = Some 0xcb007101; destination = None; numbers = None; ttl = Some 63; inner = None }

abbrev pub from_e_port_8000 : Change
from_e_port_8000 =
    record {
      source = Some 0xcb007101;
      destination = None;
      numbers = Some (Ports 8000 53);
      ttl = Some 63;
      inner = None;
    }

-- source and destination address exchanged
abbrev pub swapped : Change
swapped = record {
  source = Some 0xc6336407;
  destination = Some 0xc0a8010a;
  numbers = None;
  ttl = None;
  inner = None;
}

abbrev pub identifier_2 : Change
identifier_2 =
    record { source = None; destination = None; numbers = Some (Identifier 2); ttl = None; inner = None }

-- destination A, quoting a datagram of this kind from A, port 5000, to this port of B
abbrev pub back_to_a : Kind → ℕ → Change
back_to_a transport to = record {
  source = None;
  destination = Some 0xc0a8010a;
  numbers = None;
  ttl = Some 63;
  inner = Some (record {
    kind = transport;
    source = record { address = 0xc0a8010a; port = 5000 };
    destination = record { address = 0xc6336407; port = to };
  });
}
