-- A default tuple, for records that created no connection.
use Rattle.ip_headers.specs.declared.tuple.Kind.TheVariants.{Udp}
use Rattle.ip_headers.specs.declared.tuple.Tuple.{Tuple}

abbrev pub no_tuple : Tuple
no_tuple = record {
  kind = Udp;
  source = record { address = 0; port = 0 };
  destination = record { address = 0; port = 0 };
}
