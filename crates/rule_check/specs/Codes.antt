-- The codes of a ruleset's faults, as printed (own).
use Rattle.std.specs.Prelude.{ℕ, List, [], ◌∷◌, ◌++◌, ◌+◌, ◌/◌, ◌%◌, codes}
use Rattle.rule_check.specs.declared.fault.CheckFault.{CheckFault}
use Rattle.rule_check.specs.declared.fault.CheckError.{CheckError}
use Rattle.rule_check.specs.declared.fault.CheckError.TheVariants.{Refused, Memory}
use Rattle.rule_check.specs.WellFormed.{fault_number}

-- a number in two decimal digits
abbrev pub two_digits : ℕ → List ℕ
two_digits n = (48 + n / 10) ∷ (48 + n % 10) ∷ []

abbrev pub code_of : CheckFault → List ℕ
code_of fault = codes "N" ++ two_digits (fault_number fault)

-- of an error: its fault's code, or that memory was refused
abbrev pub word_of : CheckError → List ℕ
word_of (Refused fault) = code_of fault
word_of Memory = codes "memory"
