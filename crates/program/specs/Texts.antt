-- Reading files whole, such as the ruleset and the box file of a task that isn't a run (own).
use Rattle.std.specs.Prelude.{◌≡◌, List, [], ◌∷◌, Ok, Err}
use Rattle.command_line.specs.declared.tasks.CheckPaths.{CheckPaths}
use Rattle.program.specs.Calls.{Call, Text, read}
use Rattle.program.specs.Status.{of_error}
use Rattle.program.specs.declared.status.Status.{Status}

-- a file is read, and the next calls get its text; where it can't be read no call follows
abbrev pub Reads : {I O : Type 0} → Text → (Text → List (Call I O) → Status → Type 0) → List (Call I O) → Status → Type 0
Reads path Next (read p (Err error) ∷ []) status = (p ≡ path) × (status ≡ of_error error)
Reads path Next (read p (Ok text) ∷ calls) status = (p ≡ path) × Next text calls status
Reads _ _ _ _ = ⊥

-- RULES is read, then BOX, and the next calls get both texts
abbrev pub ReadsTexts : {I O : Type 0} → CheckPaths → (Text → Text → List (Call I O) → Status → Type 0)
    → List (Call I O) → Status → Type 0
ReadsTexts t Next calls status = Reads t.rules.now (λ rules. Reads t.network.now (Next rules)) calls status
