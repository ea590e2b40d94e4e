-- Refusals: why inputs have no meaning (own).
use Rattle.std.specs.Prelude.{◌≡◌, ℕ, List, Option, Some, None, IfSome, ◌⊎◌}
use Rattle.nft_tree.specs.Tree.{TableTree}
use Rattle.nft_parser.specs.Spells.{Spells, HasTextFault}
use Rattle.box_file.specs.declared.fault.BoxFault.{BoxFault}
use Rattle.box_file.specs.Box.{PlantTree, IsBox, HasBoxFault}
use Rattle.pcap_io.specs.declared.fault.CaptureFault.{CaptureFault}
use Rattle.pcap_io.specs.declared.fault.CaptureFault.TheVariants as captures
use Rattle.pcap_io.specs.Pcap.{Captured, Pcap, Ending, Malformed, Over, header_fault}
use Rattle.engine.specs.declared.fault.RulesFault.{RulesFault}
use Rattle.engine.specs.declared.fault.RulesFault.TheVariants.{Text, Check}
use Rattle.engine.specs.declared.fault.RunFault.{RunFault}
use Rattle.engine.specs.declared.fault.RunFault.TheVariants.{Rules, Box, Capture, Device, Memory}
use Rattle.rule_check.specs.WellFormed.{LeastFault}
use Rattle.engine.specs.Meaning.{Accepted}

-- the two texts spell this ruleset and this box
pub record Spelled (rules box : List ℕ) : Type 0 where
  pub tables : List TableTree
  pub spelled : Spells tables rules
  pub network : PlantTree
  pub read : IsBox box network

-- the ruleset is refused for the fault of its text; or, where both texts are accepted, for its least fault
-- on the box
abbrev pub IsFaulty : List ℕ → List ℕ → RulesFault → Type 0
IsFaulty rules box (Text fault) = HasTextFault rules fault
IsFaulty rules box (Check fault) = (texts : Spelled rules box) × LeastFault fault texts.tables texts.network

-- the box file is refused; the rules' text is accepted
abbrev pub RefusesBox : List ℕ → List ℕ → BoxFault → Type 0
RefusesBox rules box fault = (tables : List TableTree) × Spells tables rules × HasBoxFault box fault

-- the fault of records that end so; a torn end is none
abbrev pub fault_at : Ending → Option CaptureFault
fault_at Malformed = Some captures.Malformed
fault_at Over = Some captures.TooMany
fault_at _ = None

-- a capture is refused at its header, or within its records
abbrev pub IsRefused : List ℕ → CaptureFault → Type 0
IsRefused capture fault = (header_fault capture ≡ Some fault)
    ⊎ ((records : List Captured) × (ending : Ending) × Pcap capture records ending
    × (fault_at ending ≡ Some fault))

-- the refusal of a run: the rules' text, the box file, the ruleset on the box, the capture, in this order
abbrev pub Refuses : List ℕ → List ℕ → Option (List ℕ) → RunFault → Type 0
Refuses rules box capture (Rules fault) = IsFaulty rules box fault
Refuses rules box capture (Box fault) = RefusesBox rules box fault
Refuses rules box capture (Capture fault) = Accepted rules box × IfSome capture (λ bytes.
    IsRefused bytes fault)
Refuses rules box capture _ = Unit {0}

-- a fault of the inputs, not of a device or of memory
abbrev pub IsRefusal : RunFault → Type 0
IsRefusal Device = ⊥
IsRefusal Memory = ⊥
IsRefusal _ = Unit {0}

-- a fault of one of the two texts
abbrev pub IsOfTexts : RunFault → Type 0
IsOfTexts (Rules fault) = Unit {0}
IsOfTexts (Box fault) = Unit {0}
IsOfTexts _ = ⊥

-- a fault of a record of the capture
abbrev pub IsOfRecord : RunFault → Type 0
IsOfRecord (Capture captures.Malformed) = Unit {0}
IsOfRecord (Capture captures.TooMany) = Unit {0}
IsOfRecord _ = ⊥

-- a fault before the capture's header is accepted
abbrev pub IsBeforeHeader : RunFault → Type 0
IsBeforeHeader (Capture captures.Malformed) = ⊥
IsBeforeHeader (Capture captures.TooMany) = ⊥
IsBeforeHeader Device = ⊥
IsBeforeHeader Memory = ⊥
IsBeforeHeader _ = Unit {0}
