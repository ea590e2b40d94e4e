-- A task with its line and its explanations.
use Rattle.std.specs.Prelude.{◌≡◌, ◌++◌, ℕ, Bool, List}
use Rattle.program.specs.Calls.{Call, Text}
use Rattle.program.specs.Performing.{ParsesAndRuns, status_line_calls}
use Rattle.program.specs.Status.{code_of}
use Rattle.program.specs.declared.status.Status.{Status}

-- all calls after the command line is read, and the exit status
abbrev pub ParsesRunsAndPrints : {I O : Type 0} → Bool → List Text → List (Call I O) → ℕ → Type 0
ParsesRunsAndPrints {I = I} {O = O} terminal given calls code =
    (before : List (Call I O)) × (status : Status) × (last : List (Call I O))
    × ParsesAndRuns terminal given before status last
    × (calls ≡ before ++ (status_line_calls status ++ last)) × (code ≡ code_of status)
