use Rattle.std.proofs.Common.{[], ◌∷◌, refl, sym}
use Rattle.program.specs.Calls.{show}
use Rattle.program.proofs.performing.show.Goals as goal

pub returns-in-Ok : goal.returns-in-Ok
returns-in-Ok g c = (
  show _ _ ∷ [],
  (_, c.in-Ok.ensures, refl),
  (sym c.in-Some.ensures.known, c.in-Some.ensures.own, refl),
)

pub returns-in-Err : goal.returns-in-Err
returns-in-Err g c = (
  show _ _ ∷ [],
  (_, c.in-Err.ensures, refl),
  (sym c.in-Some.ensures.known, c.in-Some.ensures.own, c.of_io.ensures),
)
