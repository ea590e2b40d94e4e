use Rattle.std.proofs.Common.{arith}
use Rattle.nat_mapping.proofs.mappings.first_free_port.Goals as goal

pub returns-then-has_pool : goal.returns-then-has_pool
returns-then-has_pool c = grind arith
