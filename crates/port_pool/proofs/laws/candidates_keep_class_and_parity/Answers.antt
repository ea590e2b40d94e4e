use Rattle.port_pool.proofs.CandidateLaws.{candidates_alike, all_alike_taken}
use Rattle.port_pool.proofs.laws.candidates_keep_class_and_parity.Goals as goal

pub returns : goal.returns
returns c = record { candidates = candidates_alike; taken = all_alike_taken }
