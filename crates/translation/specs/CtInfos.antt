-- A packet's state in connection tracking, its tuple, and what rules read of both.
use Rattle.std.specs.Prelude.{ℕ, Bool, false, not, ◌||◌, ◌==◌, if◌then◌else◌, List, Some, None}
use Rattle.ip_headers.specs.declared.transport.Transport.{Transport}
use Rattle.ip_headers.specs.declared.transport.Transport.TheVariants as transports
use Rattle.ip_headers.specs.declared.tuple.Endpoint.{Endpoint}
use Rattle.ip_headers.specs.declared.tuple.Tuple.{Tuple}
use Rattle.ip_headers.specs.Header.{source, destination}
use Rattle.ip_headers.specs.Same.{same_endpoint}
use Rattle.ip_headers.specs.Tuple.{inverse}
use Rattle.rewrite.specs.declared.change.Change.{Change}
use Rattle.rewrite.specs.Endpoints.{between}
use Rattle.conntrack.specs.declared.belonging.Belonging.{Belonging}
use Rattle.conntrack.specs.declared.belonging.Belonging.TheVariants.{Found}
use Rattle.conntrack.specs.declared.belonging.ConnectionRef.{ConnectionRef}
use Rattle.ip_headers.specs.declared.tuple.Direction.{Direction}
use Rattle.ip_headers.specs.declared.tuple.Direction.TheVariants as directions
use Rattle.conntrack.specs.ConntrackEntry.{is_reply, may_begin}
use Rattle.rule_meaning.specs.declared.facts.Facts.{Facts}
use Rattle.rule_meaning.specs.declared.facts.Packet.{Packet}
use Rattle.rule_meaning.specs.declared.facts.ConnectionFacts.{ConnectionFacts}
use Rattle.rule_meaning.specs.declared.facts.CtState.{CtState}
use Rattle.rule_meaning.specs.declared.facts.CtState.TheVariants as states
use Rattle.rule_meaning.specs.declared.facts.CtFacts.{CtFacts}
use Rattle.rule_meaning.specs.declared.facts.CtFacts.TheVariants.{Known}
use Rattle.rule_meaning.specs.declared.facts.CtFacts.TheVariants as ct_facts
use Rattle.translation.specs.declared.ct_info.NewConnection.{NewConnection}
use Rattle.translation.specs.declared.ct_info.TrackedConnection.{TrackedConnection}
use Rattle.translation.specs.declared.ct_info.CtInfo.{CtInfo}
use Rattle.translation.specs.declared.ct_info.CtInfo.TheVariants.{Tracked, Related, New, Invalid, Untracked}

-- ---- the tuples of a connection (RFC 3022, section 4.1)

-- the tuple of a direction's packets as received
abbrev pub incoming_by : Direction → Tuple → Tuple → Tuple
incoming_by directions.Original original reply = original
incoming_by directions.Reply original reply = reply

abbrev pub incoming : TrackedConnection → Tuple
incoming connection = incoming_by connection.direction connection.original connection.reply

-- their tuple after NAT: the inverse of the other direction's as received
abbrev pub outgoing_by : Direction → Tuple → Tuple → Tuple
outgoing_by directions.Original original reply = inverse reply
outgoing_by directions.Reply original reply = inverse original

abbrev pub outgoing : TrackedConnection → Tuple
outgoing connection = outgoing_by connection.direction connection.original connection.reply

-- ---- the state of a packet

-- a connection without its id
abbrev pub tracked_connection : ConnectionRef → TrackedConnection
tracked_connection found = record {
  direction = found.direction;
  original = found.original;
  reply = found.reply;
  mark = found.mark;
  replied = found.replied;
}

-- before NAT
abbrev pub new_connection_of : Tuple → NewConnection
new_connection_of t = record { original = t; tuple = t; source = None; has_port_range = false; dest = None }

-- a packet without a connection begins one, but for an unsolicited echo reply, which is INVALID (own)
abbrev pub ct_info_by : Tuple → Belonging → CtInfo
ct_info_by t (Found found) = Tracked (tracked_connection found)
ct_info_by t other = if may_begin t.kind then New (new_connection_of t) else Invalid

-- an ICMP error is RELATED to the connection that has the inverse of its embedded tuple (RFC 5508, section
-- 4.2), else INVALID
abbrev pub error_ct_info : Belonging → CtInfo
error_ct_info (Found found) = Related (tracked_connection found)
error_ct_info other = Invalid

-- the state before NAT
abbrev pub untranslated : CtInfo → CtInfo
untranslated (New new_connection) = New (new_connection_of new_connection.original)
untranslated info = info

-- ---- what rules read of its connection (nft(8), CONNTRACK EXPRESSIONS)

-- the packet is a reply, or one was seen before
abbrev pub is_reply_seen : TrackedConnection → Bool
is_reply_seen connection = is_reply connection.direction || connection.replied

-- of an existing connection: an endpoint is translated where the original direction's tuple after NAT, the
-- inverse of the reply tuple, differs from the one received
abbrev pub known_ct_facts : CtState → Bool → TrackedConnection → CtFacts
known_ct_facts state seen_reply connection = Known (record {
  state = state;
  direction = connection.direction;
  mark = connection.mark;
  seen_reply = seen_reply;
  source_translated = not (same_endpoint (inverse connection.reply).source connection.original.source);
  destination_translated = not (same_endpoint (inverse connection.reply).destination
      connection.original.destination);
})

-- of a new one: an endpoint is translated where it differs from the one received
abbrev pub with_nat_status : NewConnection → ConnectionFacts → ConnectionFacts
with_nat_status new_connection c = record c {
  source_translated = not (same_endpoint new_connection.tuple.source new_connection.original.source);
  destination_translated = not (same_endpoint new_connection.tuple.destination
      new_connection.original.destination);
}

abbrev pub new_ct_facts : NewConnection → ConnectionFacts
new_ct_facts new_connection = with_nat_status new_connection (record {
  state = states.New;
  direction = directions.Original;
  mark = 0;
  seen_reply = false;
  source_translated = false;
  destination_translated = false;
})

abbrev pub ct_facts_of : CtInfo → CtFacts
ct_facts_of (Tracked connection) =
    known_ct_facts (if is_reply_seen connection then states.Established else states.New)
    (is_reply_seen connection) connection
-- an error doesn't count as a reply
ct_facts_of (Related connection) = known_ct_facts states.Related connection.replied connection
ct_facts_of (New new_connection) = Known (new_ct_facts new_connection)
ct_facts_of Invalid = ct_facts.Invalid
ct_facts_of Untracked = ct_facts.Untracked

-- after NAT of a new connection; the mark that rules set stays
abbrev pub ct_facts_after_nat : CtInfo → CtFacts → CtFacts
ct_facts_after_nat (New new_connection) (Known c) = Known (with_nat_status new_connection c)
ct_facts_after_nat _ ct = ct

-- ---- what rules read of its headers

abbrev pub with_source_port : ℕ → Transport → Transport
with_source_port port (transports.Tcp from to bits) = transports.Tcp port to bits
with_source_port port (transports.Udp from to) = transports.Udp port to
with_source_port port transport = transport

abbrev pub with_destination_port : ℕ → Transport → Transport
with_destination_port port (transports.Tcp from to bits) = transports.Tcp from port bits
with_destination_port port (transports.Udp from to) = transports.Udp from port
with_destination_port port transport = transport

abbrev pub with_source : Endpoint → Packet → Packet
with_source e p = record p { source = e.address; transport = with_source_port e.port p.transport }

abbrev pub with_destination : Endpoint → Packet → Packet
with_destination e p = record p {
  destination = e.address;
  transport = with_destination_port e.port p.transport;
}

-- an ICMP error may come from a router: an address of its own is translated only where it is the
-- connection's (RFC 5508, section 4.2)
abbrev pub outer_source : TrackedConnection → ℕ → ℕ
outer_source connection address =
    if address == (incoming connection).source.address then (outgoing connection).source.address
    else address

abbrev pub outer_destination : TrackedConnection → ℕ → ℕ
outer_destination connection address =
    if address == (incoming connection).destination.address then (outgoing connection).destination.address
    else address

-- with the destination after NAT
abbrev pub packet_after_destination_nat : CtInfo → Packet → Packet
packet_after_destination_nat (Tracked connection) p = with_destination (outgoing connection).destination p
packet_after_destination_nat (Related connection) p = record p {
  destination =
      outer_destination connection p.destination;
}
packet_after_destination_nat (New new_connection) p = with_destination new_connection.tuple.destination p
packet_after_destination_nat _ p = p

-- with the source after NAT
abbrev pub packet_after_source_nat : CtInfo → Packet → Packet
packet_after_source_nat (Tracked connection) p = with_source (outgoing connection).source p
packet_after_source_nat (Related connection) p = record p { source = outer_source connection p.source }
packet_after_source_nat (New new_connection) p = with_source new_connection.tuple.source p
packet_after_source_nat _ p = p

-- the facts after destination NAT
abbrev pub facts_after_destination_nat : CtInfo → Facts → Facts
facts_after_destination_nat info f = record f {
  packet = packet_after_destination_nat info f.packet;
  ct = ct_facts_after_nat info f.ct;
}

-- the facts after source NAT
abbrev pub facts_after_source_nat : CtInfo → Facts → Facts
facts_after_source_nat info f = record f {
  packet = packet_after_source_nat info f.packet;
  ct = ct_facts_after_nat info f.ct;
}

-- ---- the header rewrite

-- only the TTL changes
abbrev pub ttl_only : ℕ → Change
ttl_only ttl = record { source = None; destination = None; numbers = None; ttl = Some ttl; inner = None }

-- a packet forwarded with this TTL gets its connection's tuple after NAT; an error's embedded datagram gets
-- the inverse of it
abbrev pub change_of : CtInfo → List ℕ → ℕ → Change
change_of (Tracked connection) packet ttl = between (outgoing connection) (Some ttl)
change_of (Related connection) packet ttl = record {
  source = Some (outer_source connection (source packet));
  destination = Some (outer_destination connection (destination packet));
  numbers = None;
  ttl = Some ttl;
  inner = Some (inverse (outgoing connection));
}
change_of (New new_connection) packet ttl = between new_connection.tuple (Some ttl)
change_of _ packet ttl = ttl_only ttl
