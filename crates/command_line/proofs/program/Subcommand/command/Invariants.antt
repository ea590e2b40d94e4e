use Rattle.std.proofs.Common.{◌≡◌, false, fold, take}
use Rattle.clap.specs.Words.{app_of, new_app}
use Rattle.clap.specs.declared.builder.command.Command.TheViews.{out-Command}
use Rattle.command_line.specs.declared.program.ExplainFlags.TheVariants.{Free}
use Rattle.command_line.specs.steps.Program.{with_argument}
use Rattle.command_line.proofs.program.Subcommand.command.Given as goal

abbrev pub invariant-loop-argument : goal.invariant-loop-argument
invariant-loop-argument l = record {
  app : l.flags ≡ Free → app_of l.command ≡ fold with_argument (new_app l.self.name.now) (take l.argument-index l.self.arguments.now);
  local : (out-Command l.command).has_globals ≡ false;
}
