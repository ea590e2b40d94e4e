-- A run, from the results of its calls.
use Rattle.engine.proofs.Names.{Accepted, Bool, Capture, CaptureFault, CaptureState, Consumes, Device, Devices, Format, HEADER_BYTES, IfErr, IfSome, IsAtEnd}
use Rattle.engine.proofs.Names.{IsBeforeHeader, IsChecked, IsHistoryOf, JudgeRefuses, Laws, LeavesPrefix, LeftDevices, List, Meaning, None, NothingTaken, Ok}
use Rattle.engine.proofs.Names.{Option, READ_AHEAD, Refuses, Result, RunFault, Setup, Some, Untouched, WritesOutputs, WroteOutputs, [], ahead, ap, append-nil}
use Rattle.engine.proofs.Names.{arith, decoded_records, drop, ending_of, format_of, header_fault, inl, inr, length, one_failure, rules, setup_of, sym, true}
use Rattle.engine.proofs.Names.{CaptureError, CountsFault, Err, IsOfTexts, refl, unread_input, ℕ, ◌<◌, ◌∙◌, ◌≡◌, ◌≤◌}
use Rattle.std.proofs.Common.{◌≢◌}
use Rattle.pcap_io.specs.CaptureStates.{IsOfHeader, RefusedBy}
use Rattle.pcap_io.specs.declared.fault.CaptureError.TheVariants as errors
use Rattle.engine.specs.Refusals.{IsOfRecord}
use Rattle.engine.specs.steps.Faults.{of_capture}
use Rattle.engine.proofs.Histories.{OneEntry, one_history}
use Rattle.engine.proofs.Names.{Box, Failures, NoneFailed, Rules}
use Rattle.engine.proofs.Texts.{counts_later}
use Rattle.list_laws.specs.Options.{IfSome_weaker}
use Rattle.engine.specs.declared.fault.RunFault.TheVariants.{Memory}
use Rattle.engine.specs.declared.runs.Summary.{Summary}
use Rattle.rule_check.specs.Checked.{CheckedTree}

-- ---- what follows under a result

pub if_err_both : {T E : Type 0} (r : Result T E) (O P Q : E → Type 0) → IfErr r O → IfErr r P
    → ((e : E) → O e → P e → Q e) → IfErr r Q
if_err_both r O P Q o p h = grind arith

-- ---- one meaning

abbrev pub OneMeaning : Type 0
OneMeaning = (rules box capture : List ℕ) (trace : Bool) (count others : ℕ) (torn other_torn : Bool)
    (sent other_sent report other_report : List ℕ)
    → Meaning rules box capture trace count torn sent report
    → Meaning rules box capture trace others other_torn other_sent other_report
    → (count ≡ others) × (torn ≡ other_torn) × (sent ≡ other_sent) × (report ≡ other_report)

same_setup : Laws → (rules box : List ℕ) (a b : Accepted rules box) → a.setup ≡ b.setup
same_setup laws rules box a b =
    λ i. record {
      rules = laws.tree rules a.setup.rules b.setup.rules a.spelled b.spelled i;
      network = laws.network box a.setup.network b.setup.network a.read b.read i;
    }

pub one_meaning_of : Laws → OneEntry → OneMeaning
one_meaning_of laws one = λ rules box capture trace count others torn other_torn sent other_sent report other_report m n.
    let same = laws.reading capture m.records n.records (ending_of torn) (ending_of other_torn) m.read n.read in
    let signs : torn ≡ other_torn = grind (arith, same.1) in
    let setups : m.accepted.setup ≡ n.accepted.setup = same_setup laws rules box m.accepted n.accepted in
    let mine : IsHistoryOf n.accepted.setup [] (decoded_records n.read.format n.records) m.history =
    rw (← same.2, ← same.0, ← setups) m.is_history in
    let histories : m.history ≡ n.history = one_history one n.accepted.setup [] (decoded_records n.read.format n.records)
    m.history n.history mine n.is_history in (
      m.counted ∙ ap length same.0 ∙ sym n.counted,
      signs,
      cc,
      cc,
    )

-- ---- after the header

-- the bytes after the header of an accepted input are to come
abbrev pub Opened : Option (List ℕ) → Option (List ℕ) → Format → Type 0
Opened input to_come format = IfSome input (λ bytes. (HEADER_BYTES ≤ length bytes) × (format_of bytes ≡ Ok format)
    × (to_come ≡ Some (drop HEADER_BYTES bytes)))

-- the bytes to come are those of the capture, where the reader is known
pub opened : (input : Option (List ℕ)) (s : CaptureState) (unread : Option (List ℕ)) (part : List ℕ)
    → Consumes input unread part → (s.ended ≡ true → IsAtEnd unread)
    → IfSome input (λ bytes. (HEADER_BYTES ≤ length bytes) × (format_of bytes ≡ Ok s.format)
    × (ahead s unread ≡ Some (drop HEADER_BYTES bytes))) → Opened input (unread_input s unread) s.format
opened input s unread part takes at_end h = grind (arith, append-nil)

pub wrote : OneMeaning → {rules box : List ℕ} (accepted : Accepted rules box) (input : Option (List ℕ)) {setup : Setup}
    (trace : Bool) (records : CaptureState) (summary : Summary) (old new : Devices) → setup ≡ accepted.setup
    → Opened input (unread_input records old.unread) records.format → WritesOutputs setup trace records summary old new
    → IfSome input (λ bytes.
    WroteOutputs rules box bytes trace summary.records summary.torn old.sent new.sent old.report new.report)
wrote one accepted None trace records summary old new same is done = tt
wrote one {rules} {box} accepted (Some bytes) trace records summary old new same is done =
    let t = done rules box bytes accepted is.1 None same is.2 in
    record {
      sent = t.0;
      report = t.1;
      meaning = t.2;
      only = λ others other_torn other_sent other_report m.
          one rules box bytes trace others summary.records other_torn summary.torn other_sent t.0 other_report t.1 m t.2;
      appends = t.3;
      appends_report = t.4;
    }

-- what is refused of a capture, by the devices that the refusal left
refuses_capture : (rules box : List ℕ) (trace : Bool) (input : Option (List ℕ)) (old new : Devices)
    (fault : CaptureFault) → Accepted rules box
    → IfSome input (λ bytes. LeftDevices rules box bytes trace old new (Capture fault))
    → Refuses rules box input (Capture fault)
refuses_capture rules box trace input old new fault a left = grind arith

-- a fault within the records is a refusal of the capture, or none
pub refuses_within : (rules box : List ℕ) (trace : Bool) (input : Option (List ℕ)) (old new : Devices) (fault : RunFault)
    → Accepted rules box → (IsBeforeHeader fault → ⊥) → IfSome input (λ bytes. LeftDevices rules box bytes trace old new fault)
    → Refuses rules box input fault
refuses_within rules box trace input old new fault a within left = grind (arith, refuses_capture)

-- ---- before the first record

-- no record was processed
pub nothing_taken : (input : Option (List ℕ)) (old new : Devices) (part : List ℕ) → Consumes input new.unread part
    → length part ≤ READ_AHEAD → Untouched old new → new.reads_failed ≡ old.reads_failed
    → IfSome input (λ bytes. NothingTaken bytes old new)
nothing_taken input old new part takes few kept no_failure = grind arith

-- a read failed before the header was there
left_unopened : {rules box : List ℕ} (accepted : Accepted rules box) (trace : Bool) (input : Option (List ℕ))
    (old new : Devices) (part : List ℕ) → Consumes input new.unread part → length part < HEADER_BYTES
    → Untouched old new → new.reads_failed ≡ one_failure old.reads_failed
    → IfSome input (λ bytes. LeftDevices rules box bytes trace old new Device)
left_unopened accepted trace input old new part takes short kept failed = grind arith

-- the header is refused
left_unread : (rules box : List ℕ) (trace : Bool) (input : Option (List ℕ)) (old new : Devices) (fault : CaptureFault)
    → IfSome input (λ bytes. NothingTaken bytes old new) → IfSome input (λ bytes. header_fault bytes ≡ Some fault)
    → IfSome input (λ bytes. LeftDevices rules box bytes trace old new (Capture fault))
left_unread rules box trace input old new fault nothing refused = grind arith

-- the capture can't be opened
pub left_at_open : {rules box : List ℕ} (accepted : Accepted rules box) (trace : Bool) (input : Option (List ℕ))
    (old new : Devices) (error : CaptureError) (part : List ℕ) → Consumes input new.unread part → length part ≤ READ_AHEAD
    → Untouched old new → RefusedBy input error
    → (error ≡ errors.Device → (part : List ℕ) × Consumes input new.unread part × (length part < HEADER_BYTES))
    → (error ≢ errors.Device → new.reads_failed ≡ old.reads_failed)
    → (error ≡ errors.Device → new.reads_failed ≡ one_failure old.reads_failed)
    → IfSome input (λ bytes. LeftDevices rules box bytes trace old new (of_capture error))
left_at_open {rules} {box} accepted trace input old new (errors.Refused fault) part takes few kept refused broken calm failed =
    left_unread rules box trace input old new fault (nothing_taken input old new part takes few kept (calm (λ e. cc))) refused
left_at_open accepted trace input old new errors.Device part takes few kept refused broken calm failed =
    let read = broken refl in left_unopened accepted trace input old new read.0 read.1 read.2 kept (failed refl)
left_at_open accepted trace input old new errors.Memory part takes few kept refused broken calm failed =
    let nothing = nothing_taken input old new part takes few kept (calm (λ e. cc)) in grind arith

-- and that is a refusal of the run
pub refuses_open : (rules box : List ℕ) (trace : Bool) (input : Option (List ℕ)) (old new : Devices) (error : CaptureError)
    → Accepted rules box → IfSome input (λ bytes. LeftDevices rules box bytes trace old new (of_capture error))
    → Refuses rules box input (of_capture error)
refuses_open rules box trace input old new error accepted left = grind (arith, refuses_capture)

-- also where nothing more is known than the capture's header
pub refuses_header : (rules box : List ℕ) (input : Option (List ℕ)) (error : CaptureError) → Accepted rules box
    → RefusedBy input error → Refuses rules box input (of_capture error)
refuses_header rules box input (errors.Refused fault) accepted refused =
    (accepted, IfSome_weaker _ _ _ (λ bytes is. inl is) refused)
refuses_header rules box input errors.Device accepted refused = tt
refuses_header rules box input errors.Memory accepted refused = tt

-- of neither text, and of no record
pub no_text_fault : (error : CaptureError) → IsOfTexts (of_capture error) → ⊥
no_text_fault error is = grind arith

pub no_record_fault : (error : CaptureError) → IsOfHeader error → IsOfRecord (of_capture error) → ⊥
no_record_fault error header is = grind arith

pub counts_open : (error : CaptureError) (old new : Devices) → (error ≢ errors.Device → new.reads_failed ≡ old.reads_failed)
    → (error ≡ errors.Device → new.reads_failed ≡ one_failure old.reads_failed) → new.sends_failed ≡ old.sends_failed
    → new.reports_failed ≡ old.reports_failed → CountsFault {T = Summary} (Err (of_capture error)) old new
counts_open (errors.Refused fault) old new calm failed sent report = (calm (λ e. cc), sent, report)
counts_open errors.Device old new calm failed sent report = inl (failed refl, sent, report)
counts_open errors.Memory old new calm failed sent report = (calm (λ e. cc), sent, report)

-- a fault of the texts, or a failed allocation
pub left_of_texts : (rules box : List ℕ) (trace : Bool) {bytes : List ℕ} {old new : Devices} (fault : RunFault)
    → JudgeRefuses rules box fault → NothingTaken bytes old new → LeftDevices rules box bytes trace old new fault
left_of_texts rules box trace fault of nothing = let untouched = nothing.untouched in grind arith

pub refused_texts : (rules box : List ℕ) (input : Option (List ℕ)) (old : Devices) (fault : RunFault) → JudgeRefuses rules box fault
    → (IsOfRecord fault → ⊥) × Refuses rules box input fault × CountsFault {T = Summary} (Err fault) old old
refused_texts rules box input old (Rules fault) refused = (λ is. is, refused, (refl, refl, refl))
refused_texts rules box input old (Box fault) refused = (λ is. is, refused, (refl, refl, refl))
refused_texts rules box input old Memory refused = (λ is. is, tt, (refl, refl, refl))
refused_texts rules box input old _ refused = absurd refused

-- such a fault comes before the header
pub texts_before : (fault : RunFault) → IsOfTexts fault → IsBeforeHeader fault
texts_before (Rules fault) is = tt
texts_before (Box fault) is = tt
texts_before _ is = absurd is

pub counts_on : (result : Result Summary RunFault) (old mid new : Devices) → NoneFailed old mid → CountsFault result mid new
    → CountsFault result old new
counts_on (Ok summary) old mid new none h = (h.0 ∙ none.0, h.1 ∙ none.1, h.2 ∙ none.2)
counts_on (Err fault) old mid new none h = counts_later Summary Summary fault old mid new none h

-- ---- the texts that were checked

-- are accepted
abbrev pub accepted_of : {rules box : List ℕ} {checked : CheckedTree} → IsChecked rules box checked → Accepted rules box
accepted_of {checked = checked} fine = record {
  setup = setup_of checked;
  spelled = fine.spelled;
  read = fine.read;
  well_formed = fine.well_formed;
}

-- a fault behind the header, over the reader as `Capture::open` left it
pub left_all : {rules box : List ℕ} (accepted : Accepted rules box) (input : Option (List ℕ)) {setup : Setup} (trace : Bool)
    (records : CaptureState) (old new : Devices) (unread : Option (List ℕ)) (failed : Failures) (part : List ℕ) (fault : RunFault)
    → failed ≡ old.reads_failed → Consumes input unread part → length part ≤ READ_AHEAD → setup ≡ accepted.setup
    → Opened input (unread_input records unread) records.format
    → LeavesPrefix setup trace records fault (record old { unread = unread; reads_failed = failed }) new
    → IfSome input (λ bytes. LeftDevices rules box bytes trace old new fault)
left_all accepted None trace records old new unread failed part fault before takes few same is says = tt
left_all {rules} {box} accepted (Some bytes) trace records old new unread failed part fault before takes few same is says =
    elim (says rules box bytes accepted is.1 old.unread same is.2) [
      | inl h ↦ rw (← before) h
      | inr (of, h) ↦ rw of (inl (nothing_taken (Some bytes) old new part (rw h.0 takes) few h.1 (h.2 ∙ before)))
    ]
