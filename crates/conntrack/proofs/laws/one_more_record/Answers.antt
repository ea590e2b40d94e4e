use Rattle.conntrack.proofs.Names.{arith}
use Rattle.conntrack.proofs.Ids.{distinct-filter}
use Rattle.conntrack.proofs.Lookups.{found_is_held}
use Rattle.conntrack.proofs.Packets.{live_after, live_list-distinct, packet_alike, recorded, recorded_nothing}
use Rattle.conntrack.proofs.laws.one_more_record.Goals as goal

pub returns-clause-packet : goal.returns-clause-packet
returns-clause-packet c = grind (arith, live_after, found_is_held, packet_alike, distinct-filter, live_list-distinct, recorded)

pub returns-clause-none : goal.returns-clause-none
returns-clause-none c = grind (arith, recorded_nothing)
