use Rattle.std.proofs.Common.{◌≡◌, fold, take}
use Rattle.clap.specs.Words.{app_of}
use Rattle.command_line.specs.declared.program.ExplainFlags.TheVariants.{Free}
use Rattle.command_line.specs.steps.Program.{with_described}
use Rattle.command_line.proofs.program.with_subcommands.Given as goal

abbrev pub invariant-loop-subcommand : goal.invariant-loop-subcommand
invariant-loop-subcommand l = l.flags ≡ Free
    → app_of l.command ≡ fold with_described (app_of l.initial.command) (take l.subcommand-index l.subcommands)
