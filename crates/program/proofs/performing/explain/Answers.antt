use Rattle.std.proofs.Common.{[], ◌∷◌, refl, ◌∙◌, ap}
use Rattle.program.specs.Calls.{explain}
use Rattle.program.specs.Performing.{usage_status}
use Rattle.program.proofs.performing.explain.Goals as goal

pub returns-in-Ok : goal.returns-in-Ok
returns-in-Ok g c = (
  explain _ _ ∷ [],
  (_, c.in-Ok.ensures, refl),
  (refl, c.usage_status.ensures ∙ ap usage_status c.kind-in-Ok.ensures),
)

pub returns-in-Err : goal.returns-in-Err
returns-in-Err g c = (explain _ _ ∷ [], (_, c.in-Err.ensures, refl), (refl, c.of_io.ensures))
