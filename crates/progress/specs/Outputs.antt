-- What a run does with its capture and its two outputs (own).
use Rattle.std.specs.Prelude.{◌≡◌, ◌⊎◌, ℕ, Bool, true, List, Option, Result, Ok, Err, IfErr, IfSome, OnOk, IsErrOf}
use Rattle.std.specs.Io.KnownBytes.{IsAtEnd}
use Rattle.devices.specs.declared.counted.Counted.{Counted}
use Rattle.devices.specs.declared.failures.Failures.{Failures}
use Rattle.engine.specs.AfterFault.{CountsFault, Devices, LeftDevices}
use Rattle.engine.specs.Meaning.{WroteOutputs}
use Rattle.engine.specs.Refusals.{Refuses, IsBeforeHeader, IsOfRecord, IsOfTexts}
use Rattle.engine.specs.declared.fault.RunFault.{RunFault}
use Rattle.engine.specs.declared.fault.RunFault.TheVariants.{Memory}
use Rattle.progress.specs.declared.progress_reader.ProgressReader.{ProgressReader}

-- ---- a file whose calls are counted

-- what a reader has left or a writer holds, where it is known, and the numbers of its calls
pub record Device : Type 0 where
  pub bytes : Option (List ℕ)
  pub failures : Failures
  pub writes : ℕ
  pub flushes : ℕ
  pub is_flushed : Bool

abbrev pub device : {T : Type 0} → (T → Option (List ℕ)) → Counted T → Device
device bytes file = record {
  bytes = bytes file.inner;
  failures = file.failures;
  writes = file.writes;
  flushes = file.flushes;
  is_flushed = file.is_flushed;
}

-- what a capture whose reader shows progress has left
abbrev pub capture_bytes : {R T : Type 0} → (T → Option (List ℕ)) → ProgressReader R T → Option (List ℕ)
capture_bytes bytes reader = bytes reader.input.inner

-- the capture and both outputs
abbrev pub devices : Device → Device → Device → Devices
devices capture sent report = record {
  unread = capture.bytes;
  sent = sent.bytes;
  report = report.bytes;
  reads_failed = capture.failures;
  sends_failed = sent.failures;
  reports_failed = report.failures;
}

-- ---- a run

-- what a run writes to OUT and to the report: the outputs that its inputs mean, or those of a fault that
-- they have
abbrev pub Writes : List ℕ → List ℕ → Bool → Option (List ℕ) → Option (List ℕ) → Option (List ℕ)
    → Option (List ℕ) → Option (List ℕ) → Result Bool RunFault → Type 0
Writes rules box traced input sent sent' report report' (Ok torn) = IfSome input (λ capture. (count : ℕ)
    × WroteOutputs rules box capture traced count torn sent sent' report report')
Writes rules box traced input sent sent' report report' (Err fault) = Refuses rules box input fault

-- both outputs are flushed
abbrev pub AreFlushed : Device → Device → Type 0
AreFlushed sent report = (sent.is_flushed ≡ true) × (report.is_flushed ≡ true)

-- a run on these texts reads the capture and writes OUT and the report, before it and after it, with this
-- answer
pub record UsesDevices (rules box : List ℕ) (traced : Bool) (capture capture' sent sent' report report' : Device)
    (answer : Result Bool RunFault) : Type 0 where
  pub writes : Writes rules box traced capture.bytes sent.bytes sent'.bytes report.bytes report'.bytes answer
  -- the capture is read to its end
  pub drained : OnOk answer (IsAtEnd capture'.bytes)
  -- nothing of it is read where a text is refused
  pub unread : IfErr answer (λ fault. IsOfTexts fault
      → (capture'.bytes ≡ capture.bytes) × (capture'.failures ≡ capture.failures))
  -- before its header is accepted nothing is written
  pub before_header : IfErr answer (λ fault. IsBeforeHeader fault → (sent' ≡ sent) × (report' ≡ report))
  -- all is flushed, also at a refused record and after a failed allocation
  pub flushed : OnOk answer (AreFlushed sent' report')
  pub refused : IfErr answer (λ fault. IsOfRecord fault → AreFlushed sent' report')
  pub memory : IsErrOf answer Memory → ((sent' ≡ sent) × (report' ≡ report)) ⊎ AreFlushed sent' report'
  -- each output holds what the fault leaves of it, and at most one buffer is read ahead
  pub left : IfErr answer (λ fault. IfSome capture.bytes (λ bytes. LeftDevices rules box bytes traced
      (devices capture sent report) (devices capture' sent' report') fault))
  -- `Device` is exactly one failed call; otherwise none failed
  pub failures : CountsFault answer (devices capture sent report) (devices capture' sent' report')
