-- The statuses of intermediate results.
use Rattle.std.specs.Prelude.{Bool, Result, Ok, Err, ⊤}
use Rattle.program.specs.Status.{of_end, of_met, of_same}
use Rattle.program.specs.declared.status.Status.{Status}
use Rattle.program.specs.declared.status.Status.TheVariants.{Success}

abbrev pub replay_status : Result Bool Status → Status
replay_status (Ok torn) = of_end torn
replay_status (Err status) = status

abbrev pub reach_status : Result Bool Status → Status
reach_status (Ok all_met) = of_met all_met
reach_status (Err status) = status

abbrev pub diff_status : Result Bool Status → Status
diff_status (Ok same) = of_same same
diff_status (Err status) = status

abbrev pub check_status : Result ⊤ Status → Status
check_status (Ok _) = Success
check_status (Err status) = status
