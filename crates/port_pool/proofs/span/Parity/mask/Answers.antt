use Rattle.std.proofs.Common.{refl, ◌%◌}
use Rattle.std.specs.Prelude.{◌==◌, if◌then◌else◌}
use Rattle.port_pool.proofs.Bitmaps.{bits_of}
use Rattle.port_pool.proofs.span.Parity.mask.Goals as goal

pub returns-in-All : goal.returns-in-All
returns-in-All c = rw c.in-All.is (bits_of 0xffff_ffff_ffff_ffff (λ _. 1) refl)

pub returns-in-Even : goal.returns-in-Even
returns-in-Even c = rw c.in-Even.is (bits_of 0x5555_5555_5555_5555 (λ b. if b % 2 == 0 then 1 else 0) refl)

pub returns-in-Odd : goal.returns-in-Odd
returns-in-Odd c = rw c.in-Odd.is (bits_of 0xaaaa_aaaa_aaaa_aaaa (λ b. if b % 2 == 1 then 1 else 0) refl)
