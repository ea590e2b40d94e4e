-- clap's matches of a subcommand, and the task that they give.
use Rattle.std.specs.Prelude.{◌≡◌, [], Bool, None, Option, Some, codes, false, true, unwrap_or}
use Rattle.std.specs.Str.{bytes_eq}
use Rattle.clap.specs.Words.{Text, first_value, one_text}
use Rattle.clap.specs.declared.parser.matches.Found.{Found}
use Rattle.command_line.specs.CommandLine.{assume_name, explaining_by, name_of_file, report_name}
use Rattle.command_line.specs.declared.tasks.Explaining.{Explaining}
use Rattle.command_line.specs.declared.tasks.Task.{Task}
use Rattle.command_line.specs.declared.tasks.Task.TheVariants.{Run, Check, Reach, Diff, Explain}

-- the argument's value, empty where it has none
abbrev pub value_at : Found → Text → Text
value_at f id = unwrap_or (first_value f id) []

abbrev pub Sets : Found → Text → Bool → Type 0
Sets f id flag = (one_text f id ≡ Some (codes "true") → flag ≡ true)
    × (one_text f id ≡ Some (codes "false") → flag ≡ false)

-- whether faults are explained, by the values of both flags
abbrev pub GivesExplaining : Found → Option Explaining → Type 0
GivesExplaining f o = (always : Bool) × (never : Bool) × Sets f (codes "explain") always
    × Sets f (codes "no-explain") never × (o ≡ explaining_by always never)

-- the subcommand of this name, with its matches, is this task
abbrev pub GivesTask : Text → Found → Task → Type 0
GivesTask name f (Run task) =
    (bytes_eq name (codes "check") ≡ false) × (bytes_eq name (codes "reach") ≡ false) × (bytes_eq name (codes "diff") ≡ false)
    × (bytes_eq name (codes "explain") ≡ false) × Sets f (codes "trace") task.trace × GivesExplaining f (Some task.explaining)
    × (name_of_file task.report ≡ first_value f report_name)
    × (task.paths.rules.now ≡ value_at f (codes "rules")) × (task.paths.network.now ≡ value_at f (codes "network"))
    × (task.paths.input.now ≡ value_at f (codes "input")) × (task.paths.output.now ≡ value_at f (codes "output"))
GivesTask name f (Check task) =
    (bytes_eq name (codes "check") ≡ true) × Sets f (codes "all") task.all × Sets f (codes "nft") task.nft
    × GivesExplaining f (Some task.explaining)
    × (task.texts.rules.now ≡ value_at f (codes "rules")) × (task.texts.network.now ≡ value_at f (codes "network"))
GivesTask name f (Reach task) =
    (bytes_eq name (codes "check") ≡ false) × (bytes_eq name (codes "reach") ≡ true) × Sets f (codes "sets") task.sets
    × GivesExplaining f (Some task.explaining)
    × (task.texts.rules.now ≡ value_at f (codes "rules")) × (task.texts.network.now ≡ value_at f (codes "network"))
GivesTask name f (Diff task) =
    (bytes_eq name (codes "check") ≡ false) × (bytes_eq name (codes "reach") ≡ false) × (bytes_eq name (codes "diff") ≡ true)
    × GivesExplaining f (Some task.explaining) × (name_of_file task.assumed ≡ first_value f assume_name)
    × (task.paths.old.now ≡ value_at f (codes "old")) × (task.paths.new.now ≡ value_at f (codes "new"))
    × (task.paths.network.now ≡ value_at f (codes "network"))
GivesTask name f (Explain code) =
    (bytes_eq name (codes "check") ≡ false) × (bytes_eq name (codes "reach") ≡ false) × (bytes_eq name (codes "diff") ≡ false)
    × (bytes_eq name (codes "explain") ≡ true) × (code.now ≡ value_at f (codes "code"))

-- the subcommand isn't `explain`, and both flags are there
abbrev pub Contradicts : Text → Found → Type 0
Contradicts name f = (bytes_eq name (codes "explain") ≡ false) × GivesExplaining f None
