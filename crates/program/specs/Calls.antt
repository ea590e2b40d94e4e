-- The calls that the program makes on its host, with their results (own).
use Rattle.std.specs.Prelude.{◌≡◌, ℕ, Bool, List, [], ◌∷◌, Result, Ok, Err, Vec, String, map, string_bytes, ⊤}
use Rattle.std.specs.declared.io.Error.{Error}
use Rattle.std.specs.declared.random_state.RandomState.{RandomState}
use Rattle.clap.specs.declared.error.kind.ErrorKind.{ErrorKind}
use Rattle.command_line.specs.declared.tasks.CheckPaths.{CheckPaths}
use Rattle.command_line.specs.declared.tasks.ReplayPaths.{ReplayPaths}
use Rattle.command_line.specs.declared.tasks.Task.{Task}
use Rattle.engine.specs.declared.fault.RunFault.{RunFault}
use Rattle.engine.specs.declared.judging.Counts.{Counts}
use Rattle.program.specs.declared.diffing.DiffInputs.{DiffInputs}
use Rattle.program.specs.declared.fault.DiffFault.{DiffFault}
use Rattle.program.specs.declared.fault.ReachFault.{ReachFault}
use Rattle.program.specs.declared.identity.FileIdentity.{FileIdentity}
use Rattle.program.specs.declared.host.RunFiles.{RunFiles}
use Rattle.progress.specs.declared.running.RunInputs.{RunInputs}
use Rattle.program.specs.declared.status.Status.{Status}

-- a path, or a file's text, as bytes
abbrev pub Text : Type 0
Text = List ℕ

-- a call, with its arguments and its result; Input and Output are files that are open for reading and
-- for writing
pub data Call (Input Output : Type 0) : Type 0 where
  -- reads the command line, of which the first word is the program's name
  words : Result (List Text) Error → Call Input Output
  -- whether standard error is a terminal
  errors_to_terminal : Bool → Call Input Output
  -- reads a whole file
  read : Text → Result (List ℕ) Error → Call Input Output
  -- opens a file for reading
  open_input : Text → Result Input Error → Call Input Output
  -- the identity of the file at a path
  identify : Text → Result FileIdentity Error → Call Input Output
  -- draws random keys of the system, for the hash tables of a run
  draw_keys : Result RandomState Error → Call Input Output
  -- creates a file or truncates it, and opens it for writing
  create : Text → Result Output Error → Call Input Output
  -- replays a capture: what the run is given, and its files before and after; whether the capture is torn
  run : RunInputs → RunFiles Input Output → RunFiles Input Output → Result Bool RunFault → Call Input Output
  -- checks a ruleset's text for a box file's text, and counts its tables, chains and rules
  judge : Text → Text → Result Counts RunFault → Call Input Output
  -- prints the line of an accepted ruleset
  print_accepted : Counts → Result ⊤ Error → Call Input Output
  -- checks a ruleset's text for a box file's text, and prints which rules can be met and which policies can
  -- apply, and where it is so asked which packets reach and meet each rule; whether each rule can be met
  reach : Text → Text → Bool → Result Bool ReachFault → Call Input Output
  -- checks two rulesets' texts, and that of a filter where there is one, for a box file's text, and prints what
  -- the first two do differently with packets that the filter accepts; whether they do the same
  diff : DiffInputs → Result Bool DiffFault → Call Input Output
  -- prints the line of a status
  print_status : Status → Call Input Output
  -- prints what the status of a task means, and where its fault is
  explain_status : Status → Task → Call Input Output
  -- prints what of a capture may mislead
  remark_on_capture : ReplayPaths → Call Input Output
  -- prints all faults of a task's ruleset and box
  list_faults : Task → Call Input Output
  -- prints what nft(8) refuses of an accepted ruleset, or means otherwise
  warn_of_nft : CheckPaths → Call Input Output
  -- prints what a code means
  show : Text → Result ⊤ Error → Call Input Output
  -- prints clap's message: usage or help
  explain : ErrorKind → Result ⊤ Error → Call Input Output

-- the words of the command line, as bytes
abbrev pub word_texts : {Y Z : Type 0} → Result (Vec (String Y) Z) Error → Result (List Text) Error
word_texts (Ok v) = Ok (map string_bytes v.items)
word_texts (Err error) = Err error

-- the bytes that are read
abbrev pub bytes_of : {Z : Type 0} → Result (Vec ℕ Z) Error → Result (List ℕ) Error
bytes_of (Ok v) = Ok v.items
bytes_of (Err error) = Err error

-- these calls, one after another, lead from one state to another
abbrev pub HappenInOrder : {S C : Type 0} → (S → C → S → Type 0) → S → List C → S → Type 0
HappenInOrder happens s [] t = s ≡ t
HappenInOrder {S = S} happens s (call ∷ calls) t =
    (u : S) × happens s call u × HappenInOrder happens u calls t

-- calls are made, one after another, that lead from one state to another, and this holds of them
abbrev pub MakesCalls : {S C : Type 0} → (S → C → S → Type 0) → S → S → (List C → Type 0) → Type 0
MakesCalls {C = C} happens s t Holds = (calls : List C) × HappenInOrder happens s calls t × Holds calls
