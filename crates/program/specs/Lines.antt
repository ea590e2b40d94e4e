-- The lines of statuses, with the codes of faults (own).
use Rattle.std.specs.Prelude.{◌++◌, ℕ, List, codes}
use Rattle.box_file.specs.Codes as boxes
use Rattle.pcap_io.specs.Codes as captures
use Rattle.engine.specs.Words.{rules_code}
use Rattle.program.specs.declared.diffing.RulesetRole.{RulesetRole}
use Rattle.program.specs.declared.diffing.RulesetRole.TheVariants.{Old, New, Filter}
use Rattle.program.specs.declared.status.Status.{Status}
use Rattle.program.specs.declared.status.Status.TheVariants.{Success, Rules, RulesIn, Usage, NotUtf8, SameFile, SameReport, UnknownCode, Box, Capture}
use Rattle.program.specs.declared.status.Status.TheVariants.{Device, Memory, Torn, Unmet, TooLarge, Differ}

-- the file of a ruleset of a comparison, as the usage names it
abbrev pub role_name : RulesetRole → List ℕ
role_name Old = codes "OLD"
role_name New = codes "NEW"
role_name Filter = codes "FILTER"

-- the line of a status, without its newline
abbrev pub line_of : Status → List ℕ
line_of Success = codes "nftrun: done"
line_of (Rules fault) = codes "nftrun: rules " ++ rules_code fault
line_of (RulesIn role fault) = codes "nftrun: rules " ++ rules_code fault ++ codes " in " ++ role_name role
line_of Usage = codes "nftrun: usage"
line_of NotUtf8 = codes "nftrun: usage: a word isn't UTF-8"
line_of SameFile = codes "nftrun: usage: OUT is the same file as RULES, BOX, IN or standard output"
line_of SameReport = codes "nftrun: usage: FILE is the same file as RULES, BOX, IN or OUT"
line_of UnknownCode = codes "nftrun: usage: CODE is one of E01 to E06, B1 to B5, N01 to N15, P1 to P5 and P7"
line_of (Box fault) = codes "nftrun: box " ++ boxes.code_of fault
line_of (Capture fault) = codes "nftrun: capture " ++ captures.code_of fault
line_of Device = codes "nftrun: device"
line_of Memory = codes "nftrun: memory"
line_of Torn = codes "nftrun: capture torn"
line_of Unmet = codes "nftrun: a rule can't be met"
line_of TooLarge = codes "nftrun: too large"
line_of Differ = codes "nftrun: the rulesets differ"
