use Rattle.port_pool.proofs.CandidateLaws.{candidates_within, candidates_all, candidates_alone}
use Rattle.port_pool.proofs.CandidateLaws.{candidates_parity}
use Rattle.port_pool.proofs.laws.ports_of_the_range.Goals as goal

pub returns : goal.returns
returns c = record { within = candidates_within; all = candidates_all; alone = candidates_alone; parity = candidates_parity }
