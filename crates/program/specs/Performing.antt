-- The program as a whole (own): its calls in order, and its exit status.
use Rattle.std.specs.Prelude.{◌≡◌, ◌⊎◌, ◌++◌, ◌&&◌, ℕ, Bool, true, false, List, [], ◌∷◌, Ok, Err, if◌then◌else◌}
use Rattle.clap.specs.declared.error.kind.ErrorKind.{ErrorKind}
use Rattle.clap.specs.declared.error.kind.ErrorKind.TheVariants.{DisplayHelp, DisplayVersion, OutOfMemory}
use Rattle.command_line.specs.CommandLine.{RequestsTask, are_explained, explaining_of, is_well_formed}
use Rattle.command_line.specs.declared.tasks.Task.{Task}
use Rattle.command_line.specs.declared.tasks.Task.TheVariants.{Run, Check, Reach, Diff, Explain}
use Rattle.explanations.specs.Codes.{is_code}
use Rattle.program.specs.Calls.{Call, Text, words, errors_to_terminal, explain_status, remark_on_capture, list_faults, warn_of_nft, explain, show, print_status}
use Rattle.program.specs.Diffing.{Diffs}
use Rattle.program.specs.Examining.{Examines}
use Rattle.program.specs.Reaching.{Reaches}
use Rattle.program.specs.Replaying.{Replays}
use Rattle.program.specs.Status.{code_of, has_line, of_error, of_words_error}
use Rattle.program.specs.declared.status.Status.{Status}
use Rattle.program.specs.declared.status.Status.TheVariants.{Success, Usage, UnknownCode, Memory, Torn}

-- help and the version that were requested are a success; any other message of clap is about usage
abbrev pub usage_status : ErrorKind → Status
usage_status DisplayHelp = Success
usage_status DisplayVersion = Success
usage_status _ = Usage

-- clap doesn't accept the words, and prints why
abbrev pub Explains : {I O : Type 0} → ErrorKind → List (Call I O) → Status → Type 0
Explains kind [] status = (kind ≡ OutOfMemory) × (status ≡ Memory)
Explains kind (explain k (Ok _) ∷ []) status = (k ≡ kind) × (status ≡ usage_status kind)
Explains kind (explain k (Err error) ∷ []) status = (k ≡ kind) × (status ≡ of_error error)
Explains _ _ _ = ⊥

-- what a code means is printed; any other word is refused
abbrev pub Shows : {I O : Type 0} → Text → List (Call I O) → Status → Type 0
Shows code [] status = (is_code code ≡ false) × (status ≡ UnknownCode)
Shows code (show c (Ok _) ∷ []) status = (is_code code ≡ true) × (c ≡ code) × (status ≡ Success)
Shows code (show c (Err error) ∷ []) status = (is_code code ≡ true) × (c ≡ code) × (status ≡ of_error error)
Shows _ _ _ = ⊥

-- runs a task: `run`, `check`, `reach`, `diff` or `explain`
abbrev pub RunsTask : {I O : Type 0} → Task → List (Call I O) → Status → Type 0
RunsTask (Run task) calls status = Replays task calls status
RunsTask (Check task) calls status = Examines task.texts calls status
RunsTask (Reach task) calls status = Reaches task calls status
RunsTask (Diff task) calls status = Diffs task calls status
RunsTask (Explain code) calls status = Shows code.now calls status

-- the line of a status that has one
abbrev pub status_line_calls : {I O : Type 0} → Status → List (Call I O)
status_line_calls status = if has_line status then print_status status ∷ [] else []

-- the capture of a run was replayed to its end
abbrev pub is_replayed : Status → Bool
is_replayed Success = true
is_replayed Torn = true
is_replayed _ = false

-- what of the capture may mislead, once it is replayed
abbrev pub remark_calls : {I O : Type 0} → Task → Status → List (Call I O)
remark_calls (Run task) status = if is_replayed status then remark_on_capture task.paths ∷ [] else []
remark_calls (Check task) status = []
remark_calls (Reach task) status = []
remark_calls (Diff task) status = []
remark_calls (Explain code) status = []

-- what a status that has a line means
abbrev pub meaning_calls : {I O : Type 0} → Task → Status → List (Call I O)
meaning_calls task status = if has_line status then explain_status status task ∷ [] else []

-- where faults are explained, what a status that has a line means, and what of a capture may mislead; it
-- depends on whether standard error is a terminal
abbrev pub explanation_calls : {I O : Type 0} → Bool → Task → Status → List (Call I O)
explanation_calls terminal task status = if are_explained (explaining_of task) terminal
    then meaning_calls task status ++ remark_calls task status else []

-- the task is a check with `--all`
abbrev pub asks_all : Task → Bool
asks_all (Check task) = task.all
asks_all _ = false

-- with `--all`, all faults, for a status that has a line
abbrev pub all_faults_calls : {I O : Type 0} → Task → Status → List (Call I O)
all_faults_calls task status = if asks_all task && has_line status then list_faults task ∷ [] else []

abbrev pub is_success : Status → Bool
is_success Success = true
is_success _ = false

-- with `--nft`, of a ruleset that was accepted, what nft(8) refuses of it or means otherwise
abbrev pub nft_calls : {I O : Type 0} → Task → Status → List (Call I O)
nft_calls (Run task) status = []
nft_calls (Check task) status = if task.nft && is_success status then warn_of_nft task.texts ∷ [] else []
nft_calls (Reach task) status = []
nft_calls (Diff task) status = []
nft_calls (Explain code) status = []

-- what comes after the line
abbrev pub detail_calls : {I O : Type 0} → Bool → Task → Status → List (Call I O)
detail_calls terminal task status =
    explanation_calls terminal task status ++ (all_faults_calls task status ++ nft_calls task status)

-- the words request a task, which is run, or clap refuses them: well-formed words only for want of
-- memory. `--explain`, `--no-explain`, `--nft` and `--all` add calls after the line, or none, and change
-- nothing else
abbrev pub ParsesAndRuns : {I O : Type 0} → Bool → List Text → List (Call I O) → Status → List (Call I O)
    → Type 0
ParsesAndRuns terminal given calls status last =
    ((task : Task) × RequestsTask given task × RunsTask task calls status
    × (last ≡ detail_calls terminal task status))
    ⊎ ((kind : ErrorKind) × (is_well_formed given ≡ true → kind ≡ OutOfMemory)
    × Explains kind calls status × (last ≡ []))

-- the command line is read, and whether standard error is a terminal, and then parsed and run
abbrev pub Does : {I O : Type 0} → List (Call I O) → Status → List (Call I O) → Type 0
Does (words (Err error) ∷ []) status last = (status ≡ of_words_error error) × (last ≡ [])
Does (words (Ok given) ∷ errors_to_terminal terminal ∷ calls) status last =
    ParsesAndRuns terminal given calls status last
Does _ _ _ = ⊥

-- all calls, of which the line of the status and the explanations after it come last, and the exit
-- status
abbrev pub Performs : {I O : Type 0} → List (Call I O) → ℕ → Type 0
Performs {I = I} {O = O} calls code =
    (before : List (Call I O)) × (status : Status) × (last : List (Call I O)) × Does before status last
    × (calls ≡ before ++ (status_line_calls status ++ last)) × (code ≡ code_of status)
