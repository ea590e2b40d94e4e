use Rattle.std.proofs.Common.{refl}
use Rattle.port_pool.specs.Candidates.{candidates, numbers}
use Rattle.port_pool.proofs.examples.port_of_a_range.Goals as goal

pub returns : goal.returns
unfolding candidates numbers
returns c = record {
  other_class = refl;
  own_class = refl;
  own_class_taken = refl;
  least_last = refl;
  own_parity = refl;
  own_parity_taken = refl;
  other_parity = refl;
  zero = refl;
  zero_alone = refl;
  reversed = refl;
}
