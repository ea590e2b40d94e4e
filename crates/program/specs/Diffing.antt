-- `nftrun diff` (own): its calls in order, and its status.
use Rattle.std.specs.Prelude.{◌≡◌, ℕ, List, [], ◌∷◌, Option, Some, None, option_map}
use Rattle.std.specs.Borrow.{Bor}
use Rattle.command_line.specs.CommandLine.{name_of_file}
use Rattle.command_line.specs.declared.tasks.DiffTask.{DiffTask}
use Rattle.program.specs.Calls.{Call, Text, diff}
use Rattle.program.specs.Status.{of_diff}
use Rattle.program.specs.Texts.{Reads}
use Rattle.program.specs.declared.status.Status.{Status}

-- the text of the filter, where there is one
abbrev pub text_of : Option (Bor (List ℕ)) → Option Text
text_of filter = option_map (λ t. t.now) filter

-- of the texts of both rulesets, the box file and the filter it is printed what the rulesets do differently; no
-- call follows
abbrev pub Tells : {I O : Type 0} → Text → Text → Text → Option Text → List (Call I O) → Status → Type 0
Tells old new box filter (diff inputs answer ∷ []) status =
    (inputs.old.now ≡ old) × (inputs.new.now ≡ new) × (inputs.network.now ≡ box)
    × (text_of inputs.assumed ≡ filter) × (status ≡ of_diff answer)
Tells _ _ _ _ _ _ = ⊥

-- FILTER is read, if there is one, and the next calls get its text
abbrev pub ReadsFilter : {I O : Type 0} → Option Text → (Option Text → List (Call I O) → Status → Type 0)
    → List (Call I O) → Status → Type 0
ReadsFilter None Next calls status = Next None calls status
ReadsFilter (Some path) Next calls status = Reads path (λ filter. Next (Some filter)) calls status

-- OLD, NEW, BOX and FILTER are read, in this order, and it is told what the rulesets do differently
abbrev pub Diffs : {I O : Type 0} → DiffTask → List (Call I O) → Status → Type 0
Diffs t calls status = Reads t.paths.old.now (λ old. Reads t.paths.new.now (λ new. Reads t.paths.network.now (λ box.
    ReadsFilter (name_of_file t.assumed) (Tells old new box)))) calls status
