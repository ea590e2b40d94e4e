-- Destination NAT and source NAT of a packet (RFC 3022; RFC 4787 for UDP, RFC 5382 for TCP, RFC 5508 for
-- ICMP).
use Rattle.std.specs.Prelude.{ℕ, Bool, true, false, ◌==◌, is_some, if◌then◌else◌, List, Option, Some, None}
use Rattle.std.specs.Prelude.{unwrap_or}
use Rattle.std.specs.Option.{option_map}
use Rattle.box_file.specs.Box.{PlantTree, first_address, owner}
use Rattle.ip_headers.specs.declared.tuple.Endpoint.{Endpoint}
use Rattle.ip_headers.specs.declared.tuple.Kind.{Kind}
use Rattle.ip_headers.specs.declared.tuple.Kind.TheVariants.{Tcp, Udp}
use Rattle.ip_headers.specs.declared.tuple.Mapping.{Mapping}
use Rattle.port_pool.specs.declared.range.CandidateRange.{CandidateRange}
use Rattle.nat_mapping.specs.Mappings.{inbound_of, source_of}
use Rattle.rule_meaning.specs.declared.facts.Facts.{Facts}
use Rattle.rule_meaning.specs.declared.event.PortInterval.{PortInterval}
use Rattle.rule_meaning.specs.declared.event.NatAction.{NatAction}
use Rattle.rule_meaning.specs.declared.event.NatAction.TheVariants as nat_actions
use Rattle.rule_meaning.specs.declared.event.HookVerdict.{HookVerdict}
use Rattle.rule_meaning.specs.declared.event.HookVerdict.TheVariants.{Accepted, Dropped, Translated}
use Rattle.translation.specs.declared.ct_info.NewConnection.{NewConnection}
use Rattle.translation.specs.declared.ct_info.CtInfo.{CtInfo}
use Rattle.translation.specs.declared.ct_info.CtInfo.TheVariants.{New}
use Rattle.translation.specs.declared.external.ExternalSource.{ExternalSource}

-- TCP and UDP have ports; an echo's identifier isn't one
abbrev pub has_ports : Kind → Bool
has_ports Tcp = true
has_ports Udp = true
has_ports _ = false

-- ---- the destination

-- the port of a NAT statement, where it has one and the kind has ports (own); else the old one
abbrev pub port_named : Kind → Option ℕ → ℕ → ℕ
port_named kind None old = old
port_named kind (Some port) old = if has_ports kind then port else old

-- the destination by a NAT statement: `redirect` goes to the first address of the input interface (nft(8),
-- NAT STATEMENTS). The others keep the destination
abbrev pub statement_destination : PlantTree → Facts → NewConnection → NatAction → Endpoint
statement_destination network f new_connection (nat_actions.Destination address port) = record {
  address = address;
  port = port_named new_connection.tuple.kind port new_connection.tuple.destination.port;
}
statement_destination network f new_connection (nat_actions.Redirect port) = record {
  address = unwrap_or (first_address network f.input.index) 0;
  port = port_named new_connection.tuple.kind port new_connection.tuple.destination.port;
}
statement_destination network f new_connection _ = new_connection.tuple.destination

abbrev pub redirected_to : Endpoint → NewConnection → NewConnection
redirected_to e new_connection = record new_connection {
  tuple = record new_connection.tuple {
    destination =
        e;
  };
}

-- the internal endpoint of the live mapping at the destination
abbrev pub internal_endpoint : List Mapping → NewConnection → Option Endpoint
internal_endpoint mappings new_connection =
    if has_ports new_connection.tuple.kind
    then inbound_of new_connection.tuple.kind new_connection.tuple.destination mappings else None

-- a packet to an external endpoint goes to the internal one, whoever sends it: endpoint-independent
-- filtering, the rules do the rest (RFC 4787, REQ-8)
abbrev pub to_internal : NewConnection → Option Endpoint → NewConnection
to_internal new_connection None = new_connection
to_internal new_connection (Some internal) = record new_connection {
  tuple = record new_connection.tuple { destination = internal };
  dest = Some (record {
    kind = new_connection.tuple.kind;
    internal = internal;
    external = new_connection.tuple.destination;
  });
}

-- by the NAT statement that ended the nat chains, or without one by a live mapping
abbrev pub with_destination_nat : PlantTree → List Mapping → Facts → NewConnection → HookVerdict
    → NewConnection
with_destination_nat network mappings f new_connection (Translated t) =
    redirected_to (statement_destination network f new_connection t) new_connection
with_destination_nat network mappings f new_connection Accepted =
    to_internal new_connection (internal_endpoint mappings new_connection)
with_destination_nat network mappings f new_connection Dropped = new_connection

-- NAT of a connection is decided once, for its first packet (nft(8), CHAINS)
abbrev pub after_destination_nat : PlantTree → List Mapping → Facts → CtInfo → HookVerdict → CtInfo
after_destination_nat network mappings f (New new_connection) verdict =
    New (with_destination_nat network mappings f new_connection verdict)
after_destination_nat network mappings f info verdict = info

-- ---- the source

-- the external source by a NAT statement: `masquerade` takes the first address of the output interface
-- (nft(8), NAT STATEMENTS). The others give none
abbrev pub statement_source : PlantTree → Facts → NatAction → Option ExternalSource
statement_source network f (nat_actions.Source address ports) = Some (record {
  address = address;
  ports = ports;
})
statement_source network f (nat_actions.Masquerade ports) = Some (record {
  address = unwrap_or (first_address network (unwrap_or (option_map (λ i. i.index) f.output) 0)) 0;
  ports = ports;
})
statement_source network f _ = None

abbrev pub is_same_interface : ℕ → Option ℕ → Bool
is_same_interface index None = false
is_same_interface index (Some other) = other == index

-- hairpinning (RFC 4787, REQ-9): where the destination came from a mapping, and the packet didn't enter by
-- the interface that owns the external address, the source is mapped there too, so that the reply comes
-- back through the box
abbrev pub hairpin : PlantTree → ℕ → Option Mapping → Option ExternalSource
hairpin network entered None = None
hairpin network entered (Some m) =
    if is_same_interface entered (owner network m.external.address) then None
    else Some (record { address = m.external.address; ports = None })

-- by the NAT statement that ended the nat chains, or without one by the mapping of the destination
abbrev pub external_source : PlantTree → Facts → NewConnection → HookVerdict → Option ExternalSource
external_source network f new_connection (Translated t) = statement_source network f t
external_source network f new_connection Accepted = hairpin network f.input.index new_connection.dest
external_source network f new_connection Dropped = None

abbrev pub range_of : Option PortInterval → Option CandidateRange
range_of None = None
range_of (Some ports) = Some (record { low = ports.low; high = ports.high })

-- the source is mapped to this port of the external address
abbrev pub with_source_mapping : NewConnection → ExternalSource → ℕ → NewConnection
with_source_mapping new_connection x port =
    let external : Endpoint = record { address = x.address; port = port } in
    record new_connection {
      tuple = record new_connection.tuple { source = external };
      source = Some (record {
        kind = new_connection.tuple.kind;
        internal = new_connection.tuple.source;
        external = external;
      });
      has_port_range = is_some x.ports;
    }

-- none where no port is free
abbrev pub with_source_nat : List Mapping → NewConnection → Option ExternalSource → Option NewConnection
with_source_nat mappings new_connection None = Some new_connection
with_source_nat mappings new_connection (Some x) =
    option_map (with_source_mapping new_connection x)
    (source_of new_connection.tuple.kind new_connection.tuple.source x.address (range_of x.ports) mappings)

abbrev pub after_source_nat : PlantTree → List Mapping → Facts → CtInfo → HookVerdict → Option CtInfo
after_source_nat network mappings f (New new_connection) verdict =
    option_map (λ after. New after) (with_source_nat mappings new_connection
    (external_source network f new_connection verdict))
after_source_nat network mappings f info verdict = Some info
