-- What two rulesets do differently on a box, by the texts of all (own).
use Rattle.std.specs.Prelude.{◌≡◌, Bool, Ok, Err, IfSome, Result}
use Rattle.chain_sets.specs.declared.fault.WalkError.{WalkError}
use Rattle.chain_sets.specs.declared.fault.WalkError.TheVariants as errors
use Rattle.nft_tree.specs.Tree.{Text}
use Rattle.engine.specs.Judged.{JudgeRefuses}
use Rattle.engine.specs.Meaning.{Accepted}
use Rattle.engine.specs.Refusals.{IsFaulty, RefusesBox}
use Rattle.engine.specs.declared.fault.RunFault.{RunFault}
use Rattle.engine.specs.declared.fault.RunFault.TheVariants as faults
use Rattle.program.specs.Diffing.{text_of}
use Rattle.program.specs.declared.diffing.DiffInputs.{DiffInputs}
use Rattle.program.specs.declared.diffing.RulesetRole.{RulesetRole}
use Rattle.program.specs.declared.diffing.RulesetRole.TheVariants.{Old, New, Filter}
use Rattle.program.specs.declared.fault.DiffFault.{DiffFault}
use Rattle.program.specs.declared.fault.DiffFault.TheVariants.{Rules, Fault, TooLarge}

-- OLD, NEW and, where there is one, FILTER are accepted on the box
abbrev pub AreAccepted : DiffInputs → Type 0
AreAccepted i = Accepted i.old.now i.network.now × Accepted i.new.now i.network.now
    × IfSome (text_of i.assumed) (λ filter. Accepted filter i.network.now)

-- the fault of a ruleset of a comparison and the box, as of a check of both
abbrev pub fault_in : RulesetRole → RunFault → DiffFault
fault_in role (faults.Rules fault) = Rules role fault
fault_in role fault = Fault fault

abbrev pub RefusedIn : RulesetRole → Text → Text → DiffFault → Type 0
RefusedIn role rules box fault = (cause : RunFault) × JudgeRefuses rules box cause × (fault ≡ fault_in role cause)

abbrev pub fault_of : WalkError → DiffFault
fault_of errors.TooLarge = TooLarge
fault_of errors.TooDeep = TooLarge
fault_of errors.Memory = Fault faults.Memory

-- why it isn't told what the rulesets do differently: the first of them that is faulty on the box, those before it
-- being accepted; the box file; or a failed allocation. Or, where all are accepted, the answer is too large
abbrev pub IsRefused : DiffInputs → DiffFault → Type 0
IsRefused i (Rules Old fault) = IsFaulty i.old.now i.network.now fault
IsRefused i (Rules New fault) = Accepted i.old.now i.network.now × IsFaulty i.new.now i.network.now fault
IsRefused i (Rules Filter fault) = Accepted i.old.now i.network.now × Accepted i.new.now i.network.now
    × IfSome (text_of i.assumed) (λ filter. IsFaulty filter i.network.now fault)
IsRefused i (Fault (faults.Box fault)) = RefusesBox i.old.now i.network.now fault
IsRefused i (Fault faults.Memory) = Unit {0}
IsRefused i (Fault _) = ⊥
IsRefused i TooLarge = AreAccepted i

-- the texts are judged, and where they are accepted it is told what the rulesets do differently; that may fail to be
-- printed
abbrev pub Compared : DiffInputs → Result Bool DiffFault → Type 0
Compared i (Ok same) = AreAccepted i
Compared i (Err (Fault faults.Device)) = AreAccepted i
Compared i (Err fault) = IsRefused i fault
