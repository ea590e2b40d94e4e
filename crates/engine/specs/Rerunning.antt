-- A run of which one record is processed at a call (own).
use Rattle.std.specs.Prelude.{◌≡◌, ◌⊎◌, ℕ, Bool, true, List, ◌∷◌, IfSome, Option, Result, Ok, Err}
use Rattle.pcap_io.specs.CaptureStates.{CaptureState, NextAnswers}
use Rattle.devices.specs.Counting.{one_failure}
use Rattle.devices.specs.declared.failures.Failures.{Failures}
use Rattle.pcap_io.specs.declared.fault.CaptureError.TheVariants as captures
use Rattle.history.specs.History.{Entry}
use Rattle.stepping.specs.Next.{Next}
use Rattle.stepping.specs.Representing.{EngineState, Represents}
use Rattle.engine.specs.declared.fault.RunFault.{RunFault}
use Rattle.engine.specs.declared.fault.RunFault.TheVariants.{Capture, Device, Memory}
use Rattle.engine.specs.declared.fullest.Fullest.{Fullest}
use Rattle.engine.specs.Fullest.{IsFullest}

-- what of it is seen: the engine, the capture, when the table was fullest, and whether it has ended
pub record RerunState : Type 0 where
  pub engine : EngineState
  pub records : CaptureState
  pub fullest : Fullest
  pub is_over : Bool

-- it stands behind this history
pub record StandsBehind (rerun : RerunState) (history : List Entry) : Type 0 where
  pub represents : Represents rerun.engine history
  pub is_fullest : IsFullest rerun.engine.setup history rerun.fullest

-- wherever it stood, it stands behind one more record, the last one read
abbrev pub StandsBehindNext : RerunState → RerunState → Type 0
StandsBehindNext old new = (history : List Entry) → StandsBehind old history → IfSome new.records.last (λ taken.
    (e : Entry) × Next old.engine.setup history taken e × StandsBehind new (e ∷ history))

-- what a call answers, by the bytes of the capture to come before it and after it: a record where one is to
-- come, the end where none is, the fault at which the records stop; memory runs out at a record, and a device
-- fails while one is read or what is written behind it
abbrev pub AnswersNext : List ℕ → Option (List ℕ) → CaptureState → CaptureState → Result Bool RunFault
    → Type 0
AnswersNext bytes after old new (Ok more) = NextAnswers bytes after old new (Ok more)
AnswersNext bytes after old new (Err (Capture fault)) =
    NextAnswers bytes after old new (Err (captures.Refused fault))
AnswersNext bytes after old new (Err Memory) = NextAnswers bytes after old new (Ok true)
AnswersNext bytes after old new (Err Device) = NextAnswers bytes after old new (Err captures.Device)
    ⊎ NextAnswers bytes after old new (Ok true)
AnswersNext bytes after old new (Err _) = ⊥

-- of the failed reads and writes before a call and after it: `Device` is exactly one more, otherwise none
-- failed
abbrev pub CountsOne : {T : Type 0} → Result T RunFault → (reads reads_after writes writes_after : Failures)
    → Type 0
CountsOne (Err Device) reads reads_after writes writes_after =
    ((reads_after ≡ one_failure reads) × (writes_after ≡ writes))
    ⊎ ((reads_after ≡ reads) × (writes_after ≡ one_failure writes))
CountsOne _ reads reads_after writes writes_after = (reads_after ≡ reads) × (writes_after ≡ writes)
