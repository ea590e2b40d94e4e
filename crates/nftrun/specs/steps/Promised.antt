-- What the engine guarantees of a call, over the system's files.
use Rattle.std.specs.Prelude.{ℕ, List, Option, Some, None, Ok, Err}
use Rattle.devices.specs.declared.counted.Counted.{Counted}
use Rattle.engine.specs.Judged.{Judged, JudgeRefuses}
use Rattle.program.specs.Calls.{Call, run, judge, reach, diff}
use Rattle.progress.specs.Outputs.{Device, UsesDevices, device}
use Rattle.nftrun.specs.declared.destination.Destination.{Destination}
use Rattle.nftrun.specs.declared.destination.Destination.TheVariants.{File, Nothing}
use Rattle.nftrun.specs.steps.Analyses.{Answers}
use Rattle.nftrun.specs.steps.Comparisons.{Compared}

-- what a file holds; of what is lost nothing is known
abbrev pub held_by : {F : Type 0} → (F → Option (List ℕ)) → Destination F → Option (List ℕ)
held_by contents (File file) = contents file
held_by contents Nothing = None

-- the report's file before and after; standard output is no value of the call
abbrev pub Reported : {O : Type 0} → (O → Option (List ℕ)) → Option (Counted O) → Option (Counted O)
    → (Device → Device → Type 0) → Type 0
Reported contents (Some file) (Some file') Holds = Holds (device contents file) (device contents file')
Reported contents None None Holds = (report : Device) × (report' : Device) × Holds report report'
Reported _ _ _ _ = ⊥

-- a run and a check do what the engine guarantees, and an analysis and a comparison judge the texts as a check
-- does; nothing is known of other calls
abbrev pub IsGuaranteed : {I O : Type 0} → (I → Option (List ℕ)) → (O → Option (List ℕ))
    → Call (Counted I) (Counted O) → Type 0
IsGuaranteed remaining contents (run inputs before after answer) =
    Reported contents before.report after.report (λ report report'. UsesDevices inputs.rules.now
    inputs.network.now inputs.trace (device remaining before.input) (device remaining after.input)
    (device contents before.output) (device contents after.output) report report' answer)
IsGuaranteed remaining contents (judge rules box (Ok counts)) = Judged rules box counts
IsGuaranteed remaining contents (judge rules box (Err fault)) = JudgeRefuses rules box fault
IsGuaranteed remaining contents (reach rules box sets answer) = Answers rules box answer
IsGuaranteed remaining contents (diff inputs answer) = Compared inputs answer
IsGuaranteed _ _ _ = Unit {0}
