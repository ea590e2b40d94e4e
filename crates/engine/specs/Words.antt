-- What is printed of a run's fault (own).
use Rattle.std.specs.Prelude.{ℕ, List, ◌++◌, codes}
use Rattle.box_file.specs.Codes as boxes
use Rattle.nft_parser.specs.Codes as texts
use Rattle.pcap_io.specs.Codes as captures
use Rattle.rule_check.specs.Codes as checks
use Rattle.engine.specs.declared.fault.RulesFault.{RulesFault}
use Rattle.engine.specs.declared.fault.RulesFault.TheVariants.{Text, Check}
use Rattle.engine.specs.declared.fault.RunFault.{RunFault}
use Rattle.engine.specs.declared.fault.RunFault.TheVariants.{Rules, Box, Capture, Device, Memory}

-- the code of a ruleset's fault
abbrev pub rules_code : RulesFault → List ℕ
rules_code (Text fault) = texts.code_of fault
rules_code (Check fault) = checks.code_of fault

-- the word for what is refused or failed
abbrev pub word_of : RunFault → List ℕ
word_of (Rules fault) = codes "rules"
word_of (Box fault) = codes "box"
word_of (Capture fault) = codes "capture"
word_of Device = codes "device"
word_of Memory = codes "memory"

-- the whole: the word, and the code where there is one
abbrev pub printed : RunFault → List ℕ
printed (Rules fault) = codes "rules " ++ rules_code fault
printed (Box fault) = codes "box " ++ boxes.code_of fault
printed (Capture fault) = codes "capture " ++ captures.code_of fault
printed Device = codes "device"
printed Memory = codes "memory"
