-- `nftrun check` (own): its calls in order, and its status.
use Rattle.std.specs.Prelude.{◌≡◌, List, [], ◌∷◌, Ok, Err}
use Rattle.command_line.specs.declared.tasks.CheckPaths.{CheckPaths}
use Rattle.engine.specs.declared.judging.Counts.{Counts}
use Rattle.program.specs.Calls.{Call, Text, judge, print_accepted}
use Rattle.program.specs.Status.{of_fault, of_error}
use Rattle.program.specs.Texts.{ReadsTexts}
use Rattle.program.specs.declared.status.Status.{Status}
use Rattle.program.specs.declared.status.Status.TheVariants.{Success}

-- the counts are printed
abbrev pub Announces : {I O : Type 0} → Counts → List (Call I O) → Status → Type 0
Announces counts (print_accepted c (Err error) ∷ []) status = (c ≡ counts) × (status ≡ of_error error)
Announces counts (print_accepted c (Ok _) ∷ []) status = (c ≡ counts) × (status ≡ Success)
Announces _ _ _ = ⊥

-- the texts of the ruleset and the box file are checked; where they are rejected no call follows
abbrev pub Judges : {I O : Type 0} → Text → Text → List (Call I O) → Status → Type 0
Judges rules box (judge r b (Err fault) ∷ []) status = (r ≡ rules) × (b ≡ box) × (status ≡ of_fault fault)
Judges rules box (judge r b (Ok counts) ∷ calls) status =
    (r ≡ rules) × (b ≡ box) × Announces counts calls status
Judges _ _ _ _ = ⊥

-- RULES and BOX are read and checked
abbrev pub Examines : {I O : Type 0} → CheckPaths → List (Call I O) → Status → Type 0
Examines t calls status = ReadsTexts t Judges calls status
