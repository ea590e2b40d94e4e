-- The header fields of a packet, as a view keeps them.
use Rattle.std.specs.Prelude.{ℕ, List}
use Rattle.ip_headers.specs.declared.view.Decoded.{Decoded}
use Rattle.ip_headers.specs.Header.{destination, protocol, source, transport_of, ttl}

abbrev pub decoded_of : List ℕ → Decoded
decoded_of packet = record {
  source = source packet;
  destination = destination packet;
  ttl = ttl packet;
  protocol = protocol packet;
  transport = transport_of packet;
}
