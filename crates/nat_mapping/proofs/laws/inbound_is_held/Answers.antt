use Rattle.nat_mapping.proofs.Names.{from_external, inbound_of}
use Rattle.nat_mapping.proofs.Equal.{inbound_parts_test}
use Rattle.nat_mapping.proofs.Lookups.{by_external, found}
use Rattle.nat_mapping.proofs.laws.inbound_is_held.Goals as goal

pub returns : goal.returns
unfolding inbound_of
returns c held kind internal external is = found from_external by_external _ inbound_parts_test held (record { kind = kind; external = external }) internal is
