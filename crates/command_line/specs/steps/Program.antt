-- The command line as clap's command.
use Rattle.std.specs.Prelude.{List, [], ◌∷◌, Some, codes, fold, true}
use Rattle.clap.specs.declared.builder.action.ArgAction.TheVariants.{SetTrue}
use Rattle.clap.specs.Words.{App, Rule, Shape, Text, new_app, new_rule, with_rule, with_subcommand}
use Rattle.command_line.specs.declared.program.Argument.{Argument}
use Rattle.command_line.specs.declared.program.Argument.TheVariants.{Path, Flag, File}
use Rattle.command_line.specs.declared.program.Subcommand.{Subcommand}

abbrev pub path_rule : Text → Rule
path_rule id = record (new_rule id) { value_names = 1; required = true }

-- a flag of this name
abbrev pub flag_rule : Text → Rule
flag_rule name = record (new_rule name) { long = Some name; action = Some SetTrue }

-- an option of this name, which has a file
abbrev pub file_rule : Text → Rule
file_rule name = record (new_rule name) { long = Some name; value_names = 1 }

-- a command of this name, with these arguments
abbrev pub shape_with : Text → List Rule → Shape
shape_with name rules = (fold with_rule (new_app name) rules).top

abbrev pub top_app : App
top_app = record (new_app (codes "nftrun")) {
  top = record (new_app (codes "nftrun")).top { subcommand_required = true; has_version = true };
}

abbrev pub program_app : App
program_app = fold with_subcommand top_app (shape_with (codes "run") (path_rule (codes "rules") ∷ path_rule (codes "network")
    ∷ path_rule (codes "input") ∷ path_rule (codes "output") ∷ flag_rule (codes "trace") ∷ flag_rule (codes "explain")
    ∷ flag_rule (codes "no-explain") ∷ file_rule (codes "report") ∷ [])
    ∷ shape_with (codes "check") (path_rule (codes "rules") ∷ path_rule (codes "network") ∷ flag_rule (codes "all")
    ∷ flag_rule (codes "explain") ∷ flag_rule (codes "no-explain") ∷ flag_rule (codes "nft") ∷ [])
    ∷ shape_with (codes "reach") (path_rule (codes "rules") ∷ path_rule (codes "network") ∷ flag_rule (codes "sets")
    ∷ flag_rule (codes "explain") ∷ flag_rule (codes "no-explain") ∷ [])
    ∷ shape_with (codes "diff") (path_rule (codes "old") ∷ path_rule (codes "new") ∷ path_rule (codes "network")
    ∷ flag_rule (codes "explain") ∷ flag_rule (codes "no-explain") ∷ file_rule (codes "assume") ∷ [])
    ∷ shape_with (codes "explain") (path_rule (codes "code") ∷ []) ∷ [])

-- ---- the same, as the table of subcommands describes it

abbrev pub rule_for : Argument → Rule
rule_for (Path name value_name help) = path_rule name.now
rule_for (Flag name help) = flag_rule name.now
rule_for (File name value_name help) = file_rule name.now

abbrev pub with_argument : App → Argument → App
with_argument app argument = with_rule app (rule_for argument)

abbrev pub app_for : Subcommand → App
app_for s = fold with_argument (new_app s.name.now) s.arguments.now

abbrev pub with_described : App → Subcommand → App
with_described app s = with_subcommand app (app_for s).top
