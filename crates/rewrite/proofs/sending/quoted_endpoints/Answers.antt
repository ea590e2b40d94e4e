use Rattle.std.proofs.Common.{◌≡◌, Option, None, Some, refl, arith}
use Rattle.std.specs.Option.{option_and}
use Rattle.ip_headers.specs.declared.tuple.Tuple.{Tuple}
use Rattle.rewrite.proofs.sending.quoted_endpoints.Goals as goal

-- without the second there is none
and_none : (found : Option Tuple) → option_and {U = Tuple} found None ≡ None
and_none None = refl
and_none (Some tuple) = refl

pub returns-in-None : goal.returns-in-None
returns-in-None c = grind (arith, c.in-None.is, and_none)
