-- The command line: which words request which task (own; `--` and options follow POSIX.1, XBD 12.2, and
-- GNU's long options).
use Rattle.std.specs.Prelude.{◌≡◌, ◌==◌, ◌&&◌, ◌||◌, ℕ, Bool, true, not, List, [], ◌∷◌, length}
use Rattle.std.specs.Prelude.{Option, Some, None, codes, drop, if◌then◌else◌, false, is_some, option_map, slice_get}
use Rattle.std.specs.Borrow.{Bor}
use Rattle.std.specs.Option.{option_map_or}
use Rattle.std.specs.Str.{IsUtf8, bytes_eq}
use Rattle.clap.specs.Lexer.{long_of}
use Rattle.clap.specs.Words.{Text}
use Rattle.command_line.specs.declared.tasks.Task.{Task}
use Rattle.command_line.specs.declared.tasks.Task.TheVariants.{Run, Check, Reach, Diff, Explain}
use Rattle.command_line.specs.declared.tasks.DiffPaths.{DiffPaths}
use Rattle.command_line.specs.declared.tasks.ReplayPaths.{ReplayPaths}
use Rattle.command_line.specs.declared.tasks.Explaining.{Explaining}
use Rattle.command_line.specs.declared.tasks.Explaining.TheVariants.{Always, Never, OnTerminal}

-- the operands among the words after `run`, `check`, `reach`, `diff` or `explain`: all words but the first `--`
abbrev pub operands : List Text → List Text
operands [] = []
operands (word ∷ rest) = if bytes_eq word (codes "--") then rest else word ∷ operands rest

-- the words after `run`, `check`, `reach` or `diff` have this flag before any `--`
abbrev pub has_flag : Text → List Text → Bool
has_flag flag [] = false
has_flag flag (word ∷ rest) =
    if bytes_eq word (codes "--") then false else (bytes_eq word flag || has_flag flag rest)

-- these words without the first such flag before any `--`
abbrev pub without_flag : Text → List Text → List Text
without_flag flag [] = []
without_flag flag (word ∷ rest) = if bytes_eq word (codes "--") then word ∷ rest
    else (if bytes_eq word flag then rest else word ∷ without_flag flag rest)

-- these words without the first of each of these flags before any `--`
abbrev pub without_flags : List Text → List Text → List Text
without_flags [] words = words
without_flags (flag ∷ flags) words = without_flags flags (without_flag flag words)

-- ---- an option that names a file, `--NAME FILE` or `--NAME=FILE`, by its name

-- the long name of a run's option, and that of a comparison's
abbrev pub report_name : Text
report_name = codes "report"

abbrev pub assume_name : Text
assume_name = codes "assume"

abbrev pub option_named : Text → Option (Text × Option Text) → Option (Option Text)
option_named name None = None
option_named name (Some option) = if bytes_eq name option.0 then Some option.1 else None

-- the word is `--NAME`, or `--NAME=FILE` with FILE
abbrev pub as_option : Text → Text → Option (Option Text)
as_option name word = option_named name (long_of word)

-- the file that a word names: FILE of `--NAME=FILE`, or the word after `--NAME`
abbrev pub file_by : Option (Option Text) → List Text → Option Text → Option Text
file_by None rest later = later
file_by (Some None) rest later = slice_get rest 0
file_by (Some (Some file)) rest later = Some file

-- the option's file by the words after a subcommand: that of the first `--NAME FILE` or `--NAME=FILE`
-- before any `--`
abbrev pub file_given : Text → List Text → Option Text
file_given name [] = None
file_given name (word ∷ rest) =
    if bytes_eq word (codes "--") then None else file_by (as_option name word) rest (file_given name rest)

abbrev pub without_file_by : Option (Option Text) → Text → List Text → List Text → List Text
without_file_by None word rest later = word ∷ later
without_file_by (Some None) word rest later = drop 1 rest
without_file_by (Some (Some file)) word rest later = rest

-- these words without the first `--NAME FILE` or `--NAME=FILE` before any `--`
abbrev pub without_file : Text → List Text → List Text
without_file name [] = []
without_file name (word ∷ rest) = if bytes_eq word (codes "--") then word ∷ rest
    else without_file_by (as_option name word) word rest (without_file name rest)

abbrev pub path_texts : ReplayPaths → List Text
path_texts p = p.rules.now ∷ p.network.now ∷ p.input.now ∷ p.output.now ∷ []

abbrev pub diff_texts : DiffPaths → List Text
diff_texts p = p.old.now ∷ p.new.now ∷ p.network.now ∷ []

abbrev pub name_of_file : Option (Bor Text) → Option Text
name_of_file file = option_map (λ f. f.now) file

-- the word is an operand anywhere: it is `-`, or doesn't begin with a hyphen
abbrev pub is_plain_word : Text → Bool
is_plain_word (c ∷ x ∷ rest) = not (c == 45)
is_plain_word _ = true

-- each word before the first `--` is plain
abbrev pub are_plain : List Text → Bool
are_plain [] = true
are_plain (word ∷ rest) = if bytes_eq word (codes "--") then true else (is_plain_word word && are_plain rest)

-- the words are so many operands: each is plain, or after the first `--`
abbrev pub are_operands : ℕ → List Text → Bool
are_operands n words = are_plain words && length (operands words) == n

abbrev pub names_file_by : Option (Option Text) → List Text → Bool → Bool
names_file_by None rest later = later
names_file_by (Some None) rest later = option_map_or is_plain_word (slice_get rest 0) false
names_file_by (Some (Some file)) rest later = true

-- the first `--NAME` before any `--` has a FILE, which is plain; that of `--NAME=FILE` may be any text
abbrev pub names_file : Text → List Text → Bool
names_file name [] = true
names_file name (word ∷ rest) =
    if bytes_eq word (codes "--") then true else names_file_by (as_option name word) rest (names_file name rest)

-- the flags of a run, of a check, of an analysis of what can be met, and of a comparison
abbrev pub run_flags : List Text
run_flags = codes "--trace" ∷ codes "--explain" ∷ codes "--no-explain" ∷ []

abbrev pub check_flags : List Text
check_flags = codes "--all" ∷ codes "--explain" ∷ codes "--no-explain" ∷ codes "--nft" ∷ []

abbrev pub reach_flags : List Text
reach_flags = codes "--sets" ∷ codes "--explain" ∷ codes "--no-explain" ∷ []

abbrev pub diff_flags : List Text
diff_flags = codes "--explain" ∷ codes "--no-explain" ∷ []

-- whether faults are explained, by whether `--explain` and `--no-explain` are there, which exclude each
-- other
abbrev pub explaining_by : Bool → Bool → Option Explaining
explaining_by true true = None
explaining_by true false = Some Always
explaining_by false true = Some Never
explaining_by false false = Some OnTerminal

-- the same, by the words before any `--`
abbrev pub explaining_in : List Text → Option Explaining
explaining_in words = explaining_by (has_flag (codes "--explain") words) (has_flag (codes "--no-explain") words)

-- four paths, with `--trace`, `--explain` or `--no-explain`, and `--report FILE` or `--report=FILE`, each
-- at most once, anywhere before the first `--`
abbrev pub is_run : List Text → Bool
is_run rest = names_file report_name rest && (are_operands 4 (without_flags run_flags (without_file report_name rest))
    && is_some (explaining_in (without_file report_name rest)))

-- two paths, with `--all`, `--nft`, and `--explain` or `--no-explain`, each at most once, anywhere before
-- the first `--`
abbrev pub is_check : List Text → Bool
is_check rest = are_operands 2 (without_flags check_flags rest) && is_some (explaining_in rest)

-- two paths, with `--sets`, and `--explain` or `--no-explain`, each at most once, anywhere before the first
-- `--`
abbrev pub is_reach : List Text → Bool
is_reach rest = are_operands 2 (without_flags reach_flags rest) && is_some (explaining_in rest)

-- three paths, with `--explain` or `--no-explain`, and `--assume FILTER` or `--assume=FILTER`, each at most
-- once, anywhere before the first `--`
abbrev pub is_diff : List Text → Bool
is_diff rest = names_file assume_name rest && (are_operands 3 (without_flags diff_flags (without_file assume_name rest))
    && is_some (explaining_in (without_file assume_name rest)))

-- a code
abbrev pub is_explain : List Text → Bool
is_explain rest = are_operands 1 rest

-- each word is the UTF-8 of a text, as each word of the program is
abbrev pub AreTexts : List Text → Type 0
AreTexts [] = Unit {0}
AreTexts (word ∷ rest) = IsUtf8 word × AreTexts rest

-- the words request this task: they are the program's name and either `run`, the report's file, the flags
-- of a run and four paths, or `check`, the flags of a check and two paths, or `reach`, its flags and two
-- paths, or `diff`, the file of the filter, its flags and three paths, or `explain` and a code; no other word
-- is among them, so none that begins with a hyphen is taken for a path before a `--`
abbrev pub RequestsTask : List Text → Task → Type 0
RequestsTask (program ∷ name ∷ rest) (Run task) =
    (name ≡ codes "run") × (AreTexts rest → is_run rest ≡ true) × (name_of_file task.report ≡ file_given report_name rest)
    × (task.trace ≡ has_flag (codes "--trace") (without_file report_name rest))
    × (Some task.explaining ≡ explaining_in (without_file report_name rest))
    × (operands (without_flags run_flags (without_file report_name rest)) ≡ path_texts task.paths)
RequestsTask (program ∷ name ∷ rest) (Check task) =
    (name ≡ codes "check") × (AreTexts rest → is_check rest ≡ true)
    × (task.all ≡ has_flag (codes "--all") rest) × (task.nft ≡ has_flag (codes "--nft") rest)
    × (Some task.explaining ≡ explaining_in rest)
    × (operands (without_flags check_flags rest) ≡ task.texts.rules.now ∷ task.texts.network.now ∷ [])
RequestsTask (program ∷ name ∷ rest) (Reach task) =
    (name ≡ codes "reach") × (AreTexts rest → is_reach rest ≡ true)
    × (task.sets ≡ has_flag (codes "--sets") rest) × (Some task.explaining ≡ explaining_in rest)
    × (operands (without_flags reach_flags rest) ≡ task.texts.rules.now ∷ task.texts.network.now ∷ [])
RequestsTask (program ∷ name ∷ rest) (Diff task) =
    (name ≡ codes "diff") × (AreTexts rest → is_diff rest ≡ true)
    × (name_of_file task.assumed ≡ file_given assume_name rest)
    × (Some task.explaining ≡ explaining_in (without_file assume_name rest))
    × (operands (without_flags diff_flags (without_file assume_name rest)) ≡ diff_texts task.paths)
RequestsTask (program ∷ name ∷ rest) (Explain code) =
    (name ≡ codes "explain") × (AreTexts rest → is_explain rest ≡ true) × (operands rest ≡ code.now ∷ [])
RequestsTask _ _ = ⊥

-- the words are a task
abbrev pub is_well_formed : List Text → Bool
is_well_formed (program ∷ name ∷ rest) =
    bytes_eq name (codes "run") && is_run rest
    || (bytes_eq name (codes "check") && is_check rest
    || (bytes_eq name (codes "reach") && is_reach rest
    || (bytes_eq name (codes "diff") && is_diff rest || bytes_eq name (codes "explain") && is_explain rest)))
is_well_formed _ = false

-- whether faults of a task are explained; a code is what `explain` prints, and its faults are explained
-- on a terminal
abbrev pub explaining_of : Task → Explaining
explaining_of (Run task) = task.explaining
explaining_of (Check task) = task.explaining
explaining_of (Reach task) = task.explaining
explaining_of (Diff task) = task.explaining
explaining_of (Explain code) = OnTerminal

-- faults are explained: with `--explain`, on a terminal without `--no-explain`
abbrev pub are_explained : Explaining → Bool → Bool
are_explained Always terminal = true
are_explained Never terminal = false
are_explained OnTerminal terminal = terminal
