-- No line.
use Rattle.std.proofs.Common.{[], refl}
use Rattle.set_texts.specs.Indented.{AreIndented}

pub none_indented : AreIndented []
none_indented = ([], refl)
