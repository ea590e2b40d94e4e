-- `nftrun run` (own): its calls in order, and its status.
use Rattle.std.specs.Prelude.{◌≡◌, ◌++◌, List, [], ◌∷◌, Option, Some, None, Result, Ok, Err, codes, if◌then◌else◌, ⊤}
use Rattle.std.specs.IoError.{error_kind}
use Rattle.std.specs.declared.io.Error.{Error}
use Rattle.std.specs.declared.io.ErrorKind.{ErrorKind}
use Rattle.std.specs.declared.io.ErrorKind.TheVariants.{NotFound}
use Rattle.std.specs.declared.random_state.RandomState.{RandomState}
use Rattle.command_line.specs.CommandLine.{name_of_file}
use Rattle.command_line.specs.declared.tasks.ReplayPaths.{ReplayPaths}
use Rattle.command_line.specs.declared.tasks.ReplayTask.{ReplayTask}
use Rattle.program.specs.Calls.{Call, Text, read, open_input, identify, draw_keys, create, run}
use Rattle.program.specs.Identity.{is_same_file}
use Rattle.program.specs.Status.{of_run, of_error}
use Rattle.program.specs.declared.identity.FileIdentity.{FileIdentity}
use Rattle.progress.specs.declared.running.RunInputs.{RunInputs}
use Rattle.program.specs.declared.status.Status.{Status}
use Rattle.program.specs.declared.status.Status.TheVariants.{SameFile, SameReport}

-- the next calls get the result of the calls before; where that is a status no call follows
abbrev pub ProceedsWith : {C A : Type 0} → Result A Status → (A → List C → Status → Type 0) → List C
    → Status → Type 0
ProceedsWith (Ok answer) Next calls status = Next answer calls status
ProceedsWith (Err end) Next calls status = (calls ≡ []) × (status ≡ end)

-- the first calls, and then those that get their result
abbrev pub Then : {C A : Type 0} → (List C → Result A Status → Type 0) → (A → List C → Status → Type 0)
    → List C → Status → Type 0
Then {C = C} {A = A} First Next calls status =
    (first : List C) × (answer : Result A Status) × (later : List C)
    × First first answer × (calls ≡ first ++ later) × ProceedsWith answer Next later status

-- the run gets the files that were opened (for the report too, if it has one); no call follows
abbrev pub Runs : {I O : Type 0} → RunInputs → I → O → Option O → List (Call I O) → Status → Type 0
Runs inputs input output report (run given before after answer ∷ []) status = (given ≡ inputs)
    × (before ≡ record { input = input; output = output; report = report }) × (status ≡ of_run answer)
Runs _ _ _ _ _ _ = ⊥

-- a file that doesn't exist yet is no fault; any other error is
abbrev pub unless_not_found : ErrorKind → Status → Result ⊤ Status
unless_not_found NotFound _ = Ok tt
unless_not_found _ end = Err end

-- a file to write is compared with another one: it is refused if both are the same regular file
abbrev pub compared : Status → FileIdentity → Result FileIdentity Error → Result ⊤ Status
compared same file (Ok other) = if is_same_file file other then Err same else Ok tt
compared same file (Err error) = unless_not_found (error_kind error) (of_error error)

-- the other paths are compared, unless one was refused
abbrev pub Continues : {C : Type 0} → Result ⊤ Status → (List C → Result ⊤ Status → Type 0) → List C
    → Result ⊤ Status → Type 0
Continues (Ok _) Next calls verdict = Next calls verdict
Continues (Err end) Next calls verdict = (calls ≡ []) × (verdict ≡ Err end)

-- each of these paths is compared, up to the first that is refused
abbrev pub Compares : {I O : Type 0} → Status → FileIdentity → List Text → List (Call I O)
    → Result ⊤ Status → Type 0
Compares same file [] [] verdict = verdict ≡ Ok tt
Compares same file (other ∷ others) (identify path answer ∷ calls) verdict =
    (path ≡ other) × Continues (compared same file answer) (Compares same file others) calls verdict
Compares _ _ _ _ _ = ⊥

-- the file to write is identified and, if it exists, compared with files that it must not be; `same` is
-- the status of one that it is
abbrev pub ChecksOutputPath : {I O : Type 0} → Status → Text → List Text → List (Call I O)
    → Result ⊤ Status → Type 0
ChecksOutputPath same path others (identify p (Ok file) ∷ calls) verdict =
    (p ≡ path) × Compares same file others calls verdict
ChecksOutputPath same path others (identify p (Err error) ∷ []) verdict =
    (p ≡ path) × (verdict ≡ unless_not_found (error_kind error) (of_error error))
ChecksOutputPath _ _ _ _ _ = ⊥

-- Linux's name of the file that standard output goes to (proc(5): a link to /proc/self/fd/1)
abbrev pub standard_output : Text
standard_output = codes "/dev/stdout"

abbrev pub inputs_of : ReplayPaths → List Text
inputs_of paths = paths.rules.now ∷ paths.network.now ∷ paths.input.now ∷ []

-- the files that OUT must not be: standard output is one of them if the report goes there
abbrev pub others_of : Option Text → ReplayPaths → List Text
others_of None paths = inputs_of paths ++ standard_output ∷ []
others_of (Some file) paths = inputs_of paths

-- the report's file, if there is one, must not be a file that is read, nor OUT
abbrev pub ChecksReportPath : {I O : Type 0} → Option Text → ReplayPaths → List (Call I O)
    → Result ⊤ Status → Type 0
ChecksReportPath None paths calls verdict = (calls ≡ []) × (verdict ≡ Ok tt)
ChecksReportPath (Some file) paths calls verdict =
    ChecksOutputPath SameReport file (inputs_of paths ++ paths.output.now ∷ []) calls verdict

-- the report's file is created, unless it was refused
abbrev pub CreatesFile : {I O : Type 0} → Text → Result ⊤ Status → List (Call I O)
    → Result (Option O) Status → Type 0
CreatesFile path (Err end) calls answer = (calls ≡ []) × (answer ≡ Err end)
CreatesFile path (Ok _) (create p (Err error) ∷ []) answer = (p ≡ path) × (answer ≡ Err (of_error error))
CreatesFile path (Ok _) (create p (Ok file) ∷ []) answer = (p ≡ path) × (answer ≡ Ok (Some file))
CreatesFile _ _ _ _ = ⊥

-- the report's file is compared with OUT again, which may not have existed before
abbrev pub CreatesReport : {I O : Type 0} → Option Text → ReplayPaths → List (Call I O)
    → Result (Option O) Status → Type 0
CreatesReport None paths calls answer = (calls ≡ []) × (answer ≡ Ok None)
CreatesReport {I = I} {O = O} (Some file) paths calls answer =
    (looks : List (Call I O)) × (verdict : Result ⊤ Status) × (later : List (Call I O))
    × ChecksOutputPath SameReport file (paths.output.now ∷ []) looks verdict × (calls ≡ looks ++ later)
    × CreatesFile file verdict later answer

-- OUT is created, then the report's file, if there is one
abbrev pub Creates : {I O : Type 0} → ReplayTask → RunInputs → I → List (Call I O) → Status → Type 0
Creates task inputs input (create path (Err error) ∷ []) status =
    (path ≡ task.paths.output.now) × (status ≡ of_error error)
Creates task inputs input (create path (Ok output) ∷ calls) status = (path ≡ task.paths.output.now)
    × Then (CreatesReport (name_of_file task.report) task.paths) (Runs inputs input output) calls status
Creates _ _ _ _ _ = ⊥

-- the run is given the keys that were drawn, the texts of the ruleset and the box file, and the task's flag
-- of the trace
abbrev pub Gives : ReplayTask → RandomState → Text → Text → RunInputs → Type 0
Gives task keys rules box inputs = (inputs.hasher ≡ keys) × (inputs.rules.now ≡ rules)
    × (inputs.network.now ≡ box) × (inputs.trace ≡ task.trace)

-- keys are drawn; where the system gives none, no file is created
abbrev pub Draws : {I O : Type 0} → ReplayTask → Text → Text → I → List (Call I O) → Status → Type 0
Draws task rules box input (draw_keys (Err error) ∷ []) status = status ≡ of_error error
Draws task rules box input (draw_keys (Ok keys) ∷ calls) status = (inputs : RunInputs)
    × Gives task keys rules box inputs × Creates task inputs input calls status
Draws _ _ _ _ _ _ = ⊥

-- IN is opened, and the files to write are compared
abbrev pub Opens : {I O : Type 0} → ReplayTask → Text → Text → List (Call I O) → Status → Type 0
Opens task rules box (open_input path (Err error) ∷ []) status =
    (path ≡ task.paths.input.now) × (status ≡ of_error error)
Opens task rules box (open_input path (Ok input) ∷ calls) status = (path ≡ task.paths.input.now)
    × Then (ChecksOutputPath SameFile task.paths.output.now
    (others_of (name_of_file task.report) task.paths))
    (λ _. Then (ChecksReportPath (name_of_file task.report) task.paths)
    (λ _. Draws task rules box input)) calls status
Opens _ _ _ _ _ = ⊥

-- BOX is read
abbrev pub ReadsBox : {I O : Type 0} → ReplayTask → Text → List (Call I O) → Status → Type 0
ReadsBox task rules (read path (Err error) ∷ []) status =
    (path ≡ task.paths.network.now) × (status ≡ of_error error)
ReadsBox task rules (read path (Ok box) ∷ calls) status =
    (path ≡ task.paths.network.now) × Opens task rules box calls status
ReadsBox _ _ _ _ = ⊥

-- RULES is read
abbrev pub Replays : {I O : Type 0} → ReplayTask → List (Call I O) → Status → Type 0
Replays task (read path (Err error) ∷ []) status = (path ≡ task.paths.rules.now) × (status ≡ of_error error)
Replays task (read path (Ok rules) ∷ calls) status =
    (path ≡ task.paths.rules.now) × ReadsBox task rules calls status
Replays _ _ _ = ⊥
