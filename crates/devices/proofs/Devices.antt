-- What a reader or writer keeps where a call fails.
use Rattle.std.proofs.KnownBytes.{Keeps-refl, Keeps-trans}

pub ruleset kept_rules = (Keeps-refl, Keeps-trans)
