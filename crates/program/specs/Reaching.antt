-- `nftrun reach` (own): its calls in order, and its status.
use Rattle.std.specs.Prelude.{◌≡◌, Bool, List, [], ◌∷◌}
use Rattle.command_line.specs.declared.tasks.ReachTask.{ReachTask}
use Rattle.program.specs.Calls.{Call, Text, reach}
use Rattle.program.specs.Status.{of_reach}
use Rattle.program.specs.Texts.{ReadsTexts}
use Rattle.program.specs.declared.status.Status.{Status}

-- of the texts of the ruleset and the box file it is printed which rules can be met, and with `--sets` by which
-- packets; no call follows
abbrev pub Tells : {I O : Type 0} → Bool → Text → Text → List (Call I O) → Status → Type 0
Tells sets rules box (reach r b s answer ∷ []) status =
    (r ≡ rules) × (b ≡ box) × (s ≡ sets) × (status ≡ of_reach answer)
Tells _ _ _ _ _ = ⊥

-- RULES and BOX are read, and it is told which rules can be met
abbrev pub Reaches : {I O : Type 0} → ReachTask → List (Call I O) → Status → Type 0
Reaches t calls status = ReadsTexts t.texts (Tells t.sets) calls status
