-- Statuses and exit statuses (own): 0 done, 1 ruleset, 2 usage, 3 box file, 4 capture, 5 device, 6
-- memory, 7 torn, 8 a rule can't be met, 9 too large, 10 the rulesets differ.
use Rattle.std.specs.Prelude.{ℕ, Bool, true, false, Result, Ok, Err}
use Rattle.std.specs.IoError.{error_kind}
use Rattle.std.specs.declared.io.Error.{Error}
use Rattle.std.specs.declared.io.ErrorKind.{ErrorKind}
use Rattle.std.specs.declared.io.ErrorKind.TheVariants.{OutOfMemory, InvalidData}
use Rattle.engine.specs.declared.fault.RunFault.{RunFault}
use Rattle.engine.specs.declared.fault.RunFault.TheVariants as faults
use Rattle.program.specs.declared.fault.DiffFault.{DiffFault}
use Rattle.program.specs.declared.fault.DiffFault.TheVariants as diff_faults
use Rattle.program.specs.declared.fault.ReachFault.{ReachFault}
use Rattle.program.specs.declared.fault.ReachFault.TheVariants as reach_faults
use Rattle.program.specs.declared.status.Status.{Status}
use Rattle.program.specs.declared.status.Status.TheVariants.{Success, Rules, RulesIn, Usage, NotUtf8, SameFile, SameReport, UnknownCode, Box, Capture}
use Rattle.program.specs.declared.status.Status.TheVariants.{Device, Memory, Torn, Unmet, TooLarge, Differ}

abbrev pub of_fault : RunFault → Status
of_fault (faults.Rules fault) = Rules fault
of_fault (faults.Box fault) = Box fault
of_fault (faults.Capture fault) = Capture fault
of_fault faults.Device = Device
of_fault faults.Memory = Memory

-- the status of a complete run: whether the capture is torn
abbrev pub of_end : Bool → Status
of_end false = Success
of_end true = Torn

-- the status of a run
abbrev pub of_run : Result Bool RunFault → Status
of_run (Ok torn) = of_end torn
of_run (Err fault) = of_fault fault

-- the status of an answer to which rules can be met: whether each can be
abbrev pub of_met : Bool → Status
of_met true = Success
of_met false = Unmet

abbrev pub of_reach_fault : ReachFault → Status
of_reach_fault (reach_faults.Fault fault) = of_fault fault
of_reach_fault reach_faults.TooLarge = TooLarge

abbrev pub of_reach : Result Bool ReachFault → Status
of_reach (Ok all_met) = of_met all_met
of_reach (Err fault) = of_reach_fault fault

-- the status of an answer to what two rulesets do differently: whether they do the same
abbrev pub of_same : Bool → Status
of_same true = Success
of_same false = Differ

abbrev pub of_diff_fault : DiffFault → Status
of_diff_fault (diff_faults.Rules role fault) = RulesIn role fault
of_diff_fault (diff_faults.Fault fault) = of_fault fault
of_diff_fault diff_faults.TooLarge = TooLarge

abbrev pub of_diff : Result Bool DiffFault → Status
of_diff (Ok same) = of_same same
of_diff (Err fault) = of_diff_fault fault

-- the status of a failed system call
abbrev pub of_kind : ErrorKind → Status
of_kind OutOfMemory = Memory
of_kind _ = Device

abbrev pub of_error : Error → Status
of_error e = of_kind (error_kind e)

-- the fault of a failed system call
abbrev pub fault_of_kind : ErrorKind → RunFault
fault_of_kind OutOfMemory = faults.Memory
fault_of_kind _ = faults.Device

abbrev pub fault_of_error : Error → RunFault
fault_of_error e = fault_of_kind (error_kind e)

-- the status where the command line can't be read: a word isn't UTF-8, or the system call failed
abbrev pub of_words_kind : ErrorKind → Status
of_words_kind InvalidData = NotUtf8
of_words_kind kind = of_kind kind

abbrev pub of_words_error : Error → Status
of_words_error e = of_words_kind (error_kind e)

-- the program prints a line for it: for all but success, and usage, for which clap prints
abbrev pub has_line : Status → Bool
has_line Success = false
has_line Usage = false
has_line _ = true

abbrev pub code_of : Status → ℕ
code_of Success = 0
code_of (Rules fault) = 1
code_of (RulesIn role fault) = 1
code_of Usage = 2
code_of NotUtf8 = 2
code_of SameFile = 2
code_of SameReport = 2
code_of UnknownCode = 2
code_of (Box fault) = 3
code_of (Capture fault) = 4
code_of Device = 5
code_of Memory = 6
code_of Torn = 7
code_of Unmet = 8
code_of TooLarge = 9
code_of Differ = 10
