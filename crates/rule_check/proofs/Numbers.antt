-- Faults by their numbers.
use Rattle.std.proofs.Common.{◌≡◌, ◌==◌, ◌≤◌, ◌<◌, ℕ, Option, Some, None, cond, refl, sym, ap, ◌∙◌, arith}
use Rattle.rule_check.specs.declared.fault.CheckFault.{CheckFault}
use Rattle.rule_check.specs.declared.fault.CheckFault.TheVariants as faults
use Rattle.rule_check.specs.WellFormed.{fault_number}

abbrev numbered : ℕ → Option CheckFault
numbered n =
    cond (n == 1) (Some faults.DuplicateName) (
    cond (n == 2) (Some faults.NoSuchChain) (
    cond (n == 3) (Some faults.NoSuchSet) (
    cond (n == 4) (Some faults.Cycle) (
    cond (n == 5) (Some faults.TooDeep) (
    cond (n == 6) (Some faults.TooCostly) (
    cond (n == 7) (Some faults.BaseChainCalled) (
    cond (n == 8) (Some faults.TypeMismatch) (
    cond (n == 9) (Some faults.WrongValue) (
    cond (n == 10) (Some faults.MisplacedNat) (
    cond (n == 11) (Some faults.MisplacedNatChain) (
    cond (n == 12) (Some faults.Contradiction) (
    cond (n == 13) (Some faults.NoSuchInterface) (
    cond (n == 14) (Some faults.StatementAfterVerdict) (
    cond (n == 15) (Some faults.TooLarge) None))))))))))))))

numbered_number : (fault : CheckFault) → numbered (fault_number fault) ≡ Some fault
numbered_number faults.DuplicateName = refl
numbered_number faults.NoSuchChain = refl
numbered_number faults.NoSuchSet = refl
numbered_number faults.Cycle = refl
numbered_number faults.TooDeep = refl
numbered_number faults.TooCostly = refl
numbered_number faults.BaseChainCalled = refl
numbered_number faults.TypeMismatch = refl
numbered_number faults.WrongValue = refl
numbered_number faults.MisplacedNat = refl
numbered_number faults.MisplacedNatChain = refl
numbered_number faults.Contradiction = refl
numbered_number faults.NoSuchInterface = refl
numbered_number faults.StatementAfterVerdict = refl
numbered_number faults.TooLarge = refl

some_same : (a b : CheckFault) → Some a ≡ Some b → a ≡ b
some_same a b e = cc

-- faults with the same number are equal
pub same_number : (a b : CheckFault) → fault_number a ≡ fault_number b → a ≡ b
same_number a b e = some_same a b (sym (numbered_number a) ∙ ap numbered e ∙ numbered_number b)

pub from_one : (fault : CheckFault) → 1 ≤ fault_number fault
from_one faults.DuplicateName = omega arith
from_one faults.NoSuchChain = omega arith
from_one faults.NoSuchSet = omega arith
from_one faults.Cycle = omega arith
from_one faults.TooDeep = omega arith
from_one faults.TooCostly = omega arith
from_one faults.BaseChainCalled = omega arith
from_one faults.TypeMismatch = omega arith
from_one faults.WrongValue = omega arith
from_one faults.MisplacedNat = omega arith
from_one faults.MisplacedNatChain = omega arith
from_one faults.Contradiction = omega arith
from_one faults.NoSuchInterface = omega arith
from_one faults.StatementAfterVerdict = omega arith
from_one faults.TooLarge = omega arith

pub below_16 : (fault : CheckFault) → fault_number fault < 16
below_16 faults.DuplicateName = omega arith
below_16 faults.NoSuchChain = omega arith
below_16 faults.NoSuchSet = omega arith
below_16 faults.Cycle = omega arith
below_16 faults.TooDeep = omega arith
below_16 faults.TooCostly = omega arith
below_16 faults.BaseChainCalled = omega arith
below_16 faults.TypeMismatch = omega arith
below_16 faults.WrongValue = omega arith
below_16 faults.MisplacedNat = omega arith
below_16 faults.MisplacedNatChain = omega arith
below_16 faults.Contradiction = omega arith
below_16 faults.NoSuchInterface = omega arith
below_16 faults.StatementAfterVerdict = omega arith
below_16 faults.TooLarge = omega arith
