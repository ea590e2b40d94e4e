use Rattle.nft_tree.specs.Tree.{Text}
use Rattle.rule_check.specs.Checked.{CheckedTree}
use Rattle.engine.specs.Meaning.{Accepted}
use Rattle.rule_reach.specs.declared.answers.ReachError.{ReachError}
use Rattle.rule_reach.specs.declared.answers.ReachError.TheVariants as errors
use Rattle.nftrun.specs.steps.Analyses.{IsChecked, Unanswered, fault_of}
use Rattle.nftrun.proofs.analysis.analyze.Goals as goal

abbrev accepted_by : (rules box : Text) (checked : CheckedTree) → IsChecked rules box checked → Accepted rules box
accepted_by rules box checked is = record {
  setup = record { rules = checked.rules; network = checked.network };
  spelled = is.spelled;
  read = is.read;
  well_formed = is.well_formed;
}

unanswered : (rules box : Text) (error : ReachError) → Accepted rules box → Unanswered rules box (fault_of error)
unanswered rules box errors.TooLarge is = is
unanswered rules box errors.TooDeep is = is
unanswered rules box errors.Memory is = tt

pub returns-in-Ok-clause-told : goal.returns-in-Ok-clause-told
returns-in-Ok-clause-told c = record {
  accepted = accepted_by _ _ c.in_ok-checked.checked c.in_ok-checked.ensures.fine;
  tells = c.in-Ok.ensures;
}

pub returns-clause-refused : goal.returns-clause-refused
returns-clause-refused c = rw c.fault_of.ensures
    (unanswered _ _ c.in-Err.error (accepted_by _ _ c.in_ok-checked.checked c.in_ok-checked.ensures.fine))
