-- What becomes of a comparison, by the rulesets that are judged one after another.
use Rattle.std.proofs.Common.{◌≡◌, Err, IfErr, IfOk, IfSome, Ok, Option, Result, Some}
use Rattle.std.specs.Borrow.{Bor}
use Rattle.box_file.proofs.BoxLaws.{box_or_fault}
use Rattle.chain_sets.specs.declared.fault.WalkError.{WalkError}
use Rattle.chain_sets.specs.declared.fault.WalkError.TheVariants as errors
use Rattle.nft_tree.specs.Tree.{Text}
use Rattle.rule_check.specs.Checked.{CheckedTree}
use Rattle.engine.specs.Judged.{JudgeRefuses}
use Rattle.engine.specs.Meaning.{Accepted}
use Rattle.engine.specs.declared.fault.RunFault.{RunFault}
use Rattle.engine.specs.declared.fault.RunFault.TheVariants.{Box, Capture, Device, Memory, Rules}
use Rattle.program.specs.Diffing.{text_of}
use Rattle.program.specs.declared.diffing.DiffInputs.{DiffInputs}
use Rattle.program.specs.declared.diffing.RulesetRole.TheVariants.{Filter, New, Old}
use Rattle.program.specs.declared.fault.DiffFault.{DiffFault}
use Rattle.nftrun.specs.steps.Analyses.{IsChecked}
use Rattle.nftrun.specs.steps.Comparisons.{AreAccepted, IsRefused, fault_in, fault_of}

abbrev pub accepted_by : (rules box : Text) (checked : CheckedTree) → IsChecked rules box checked → Accepted rules box
accepted_by rules box checked is = record {
  setup = record { rules = checked.rules; network = checked.network };
  spelled = is.spelled;
  read = is.read;
  well_formed = is.well_formed;
}

module _ (i : DiffInputs) where
  -- OLD is judged first
  pub old_refused : (cause : RunFault) → JudgeRefuses i.old.now i.network.now cause → IsRefused i (fault_in Old cause)
  old_refused (Rules fault) is = is
  old_refused (Box fault) is = is
  old_refused (Capture fault) is = absurd is
  old_refused Device is = absurd is
  old_refused Memory is = tt

  module _ (old : Accepted i.old.now i.network.now) where
    -- the box file was accepted with OLD
    pub new_refused : (cause : RunFault) → JudgeRefuses i.new.now i.network.now cause → IsRefused i (fault_in New cause)
    new_refused (Rules fault) is = (old, is)
    new_refused (Box fault) is = absurd (box_or_fault i.network.now old.setup.network fault old.read is.2)
    new_refused (Capture fault) is = absurd is
    new_refused Device is = absurd is
    new_refused Memory is = tt

    pub filter_refused : Accepted i.new.now i.network.now → (filter : Text) → text_of i.assumed ≡ Some filter
        → (cause : RunFault) → JudgeRefuses filter i.network.now cause → IsRefused i (fault_in Filter cause)
    filter_refused new filter e (Rules fault) is = (old, new, rw e is)
    filter_refused new filter e (Box fault) is = absurd (box_or_fault i.network.now old.setup.network fault old.read is.2)
    filter_refused new filter e (Capture fault) is = absurd is
    filter_refused new filter e Device is = absurd is
    filter_refused new filter e Memory is = tt

pub all_accepted : (i : DiffInputs) (filter : Option (Bor Text)) → i.assumed ≡ filter → Accepted i.old.now i.network.now
    → Accepted i.new.now i.network.now → IfSome (text_of filter) (λ f. Accepted f i.network.now) → AreAccepted i
all_accepted i filter e old new accepted = (old, new, rw e accepted)

-- where all texts are accepted, any answer is to accepted texts, and any fault is that of the answer
pub told : {A : Type 0} (P : Type 0) (answer : Result A DiffFault) → P → IfOk answer (λ _. P)
told P (Ok x) p = p
told P (Err fault) p = tt

unanswered : (i : DiffInputs) → AreAccepted i → (error : WalkError) → IsRefused i (fault_of error)
unanswered i are errors.TooLarge = are
unanswered i are errors.TooDeep = are
unanswered i are errors.Memory = tt

pub untold : {A : Type 0} (i : DiffInputs) (answer : Result A DiffFault) → AreAccepted i
    → IfErr answer (λ fault. (error : WalkError) × (fault ≡ fault_of error)) → IfErr answer (λ fault. IsRefused i fault)
untold i (Ok x) are is = tt
untold i (Err fault) are is = rw is.1 (unanswered i are is.0)
