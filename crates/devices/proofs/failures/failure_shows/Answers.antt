use Rattle.std.proofs.Common.{◌+◌, ◌^◌, ap, arith}
use Rattle.std.proofs.Math.Nat.{div-add-mod}
use Rattle.devices.specs.declared.failures.Failures.{Failures}
use Rattle.devices.proofs.failures.failure_shows.Goals as goal

pub returns : goal.returns
returns c failures same = omega (arith, div-add-mod (failures.wrapped + 1) (2 ^ 64), ap (λ (f : Failures). f.wrapped) same)
