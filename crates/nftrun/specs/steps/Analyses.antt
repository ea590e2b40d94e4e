-- What can be met of a ruleset on a box, by the texts of both (own).
use Rattle.std.specs.Prelude.{Bool, Ok, Err, Result}
use Rattle.box_file.specs.Box.{IsBox}
use Rattle.nft_parser.specs.Spells.{Spells}
use Rattle.nft_tree.specs.Tree.{Text}
use Rattle.rule_check.specs.Checked.{CheckedTree}
use Rattle.rule_check.specs.WellFormed.{WellFormed}
use Rattle.engine.specs.Judged.{JudgeRefuses}
use Rattle.engine.specs.Meaning.{Accepted}
use Rattle.engine.specs.declared.fault.RunFault.TheVariants.{Device, Memory}
use Rattle.program.specs.declared.fault.ReachFault.{ReachFault}
use Rattle.program.specs.declared.fault.ReachFault.TheVariants.{Fault, TooLarge}
use Rattle.rule_reach.specs.declared.answers.ReachError.{ReachError}
use Rattle.rule_reach.specs.declared.answers.ReachError.TheVariants as errors
use Rattle.reach_report.specs.declared.reporting.ReachReport.{ReachReport}
use Rattle.reach_report.specs.Reports.{Reports}

-- the texts spell the checked ruleset and box
pub record IsChecked (rules box : Text) (checked : CheckedTree) : Type 0 where
  pub spelled : Spells checked.rules rules
  pub read : IsBox box checked.network
  pub well_formed : WellFormed checked.rules checked.network

-- the texts are accepted, and this is told of the ruleset and the box that they spell
pub record Tells (rules box : Text) (sets : Bool) (report : ReachReport) : Type 0 where
  pub accepted : Accepted rules box
  pub tells : Reports accepted.setup.network accepted.setup.rules sets report

abbrev pub fault_of : ReachError → ReachFault
fault_of errors.TooLarge = TooLarge
fault_of errors.TooDeep = TooLarge
fault_of errors.Memory = Fault Memory

-- why it isn't told what can be met: the first refusal of the texts, as of a check, or a failed allocation;
-- or, where both are accepted, the answer is too large
abbrev pub Unanswered : Text → Text → ReachFault → Type 0
Unanswered rules box (Fault fault) = JudgeRefuses rules box fault
Unanswered rules box TooLarge = Accepted rules box

-- the texts are judged, and where they are accepted it is told what can be met; that may fail to be printed
abbrev pub Answers : Text → Text → Result Bool ReachFault → Type 0
Answers rules box (Ok all_met) = Accepted rules box
Answers rules box (Err (Fault Device)) = Accepted rules box
Answers rules box (Err fault) = Unanswered rules box fault
