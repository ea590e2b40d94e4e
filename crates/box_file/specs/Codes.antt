-- The codes of a box file's faults, as printed (own).
use Rattle.std.specs.Prelude.{ℕ, List, codes}
use Rattle.box_file.specs.declared.fault.BoxFault.{BoxFault}
use Rattle.box_file.specs.declared.fault.BoxFault.TheVariants.{Form, Repeated, UnknownName}
use Rattle.box_file.specs.declared.fault.BoxFault.TheVariants.{TooLarge, OutOfRange}
use Rattle.box_file.specs.declared.fault.BoxError.{BoxError}
use Rattle.box_file.specs.declared.fault.BoxError.TheVariants.{Refused, Memory}

abbrev pub code_of : BoxFault → List ℕ
code_of Form = codes "B1"
code_of Repeated = codes "B2"
code_of UnknownName = codes "B3"
code_of TooLarge = codes "B4"
code_of OutOfRange = codes "B5"

-- of an error: its fault's code, or that memory was refused
abbrev pub word_of : BoxError → List ℕ
word_of (Refused fault) = code_of fault
word_of Memory = codes "memory"
