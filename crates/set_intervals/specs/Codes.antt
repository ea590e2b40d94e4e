-- What is printed where no table is built (own).
use Rattle.std.specs.Prelude.{ℕ, List, codes}
use Rattle.set_intervals.specs.declared.fault.SetError.{SetError}
use Rattle.set_intervals.specs.declared.fault.SetError.TheVariants.{Clash, Memory}

abbrev pub word_of : SetError → List ℕ
word_of Clash = codes "I1"
word_of Memory = codes "memory"
