-- What a rerun keeps while it goes on.
use Rattle.std.specs.Prelude.{◌≡◌, ◌≤◌, Bool, false, None}
use Rattle.engine.specs.declared.replay.Replay.{Replay}
use Rattle.engine.specs.steps.Replayed.{RepresentsSome}

-- no more records were processed than read, and none of the calls failed
pub record GoesOn (replay : Replay) : Type 0 where
  pub represents : RepresentsSome replay.engine
  pub processed : replay.engine.records ≤ replay.records.count
  pub noted : replay.report.records ≤ replay.records.count
  pub going : replay.records.fault ≡ None

abbrev pub IsGoingOn : Replay → Bool → Type 0
IsGoingOn replay is_over = is_over ≡ false → GoesOn replay
