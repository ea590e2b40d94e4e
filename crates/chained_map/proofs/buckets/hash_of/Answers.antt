use Rattle.std.proofs.Common.{ap, ◌%◌, ◌^◌}
use Rattle.chained_map.specs.steps.Buckets.{hash_of}
use Rattle.chained_map.proofs.buckets.hash_of.Goals as goal

pub returns : goal.returns
unfolding hash_of
returns g c = ap (λ h. h % 2 ^ 32) c.hash_one.ensures
