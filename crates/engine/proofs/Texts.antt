-- The two texts of a capture whose header is accepted, by how its records stop.
use Rattle.engine.proofs.Names.{AppendsPrefix, Bool, Capture, CaptureFault, CaptureState, CountsFault, Device, Devices, Ends, Err, FinishFails, HEADER_BYTES}
use Rattle.engine.proofs.Names.{IsBeforeHeader, IsBegun, IsStop, Keeps, LeavesOf, LeavesPrefix, List, Meaning, None, NoneFailed, OfBegun, OfEach, Ok, Option}
use Rattle.engine.proofs.Names.{READ_AHEAD, Replay, ReplayInput, Replayed, RunFault, Setup, [], ap, append-nil, arith, capture_text, drop, ending_at, ending_of}
use Rattle.engine.proofs.Names.{failed_report, inl, input_at, inr, length, one_failure, part_none, part_same, refl, report_text, rules, sll2_header, start_of, sym}
use Rattle.engine.proofs.Names.{Failures, WriterFailed, torn_at, ℕ, ◌++◌, ◌∙◌, ◌≡◌, ◌≤◌, ◌⊎◌}
use Rattle.engine.proofs.Replays.{halted, none_yet, so_far}
use Rattle.list_laws.specs.Options.{some_of_map}
use Rattle.std.proofs.KnownBytes.{Appends-nil}
use Rattle.pcap_io.specs.declared.sink.SinkError.{SinkError}
use Rattle.std.proofs.Common.{Result}
use Rattle.engine.specs.Refusals.{IsOfRecord}
use Rattle.engine.specs.declared.fault.RunFault.TheVariants.{Memory}
use Rattle.engine.specs.declared.runs.Summary.{Summary}
use Rattle.engine.specs.steps.Faults.{of_sink}
use Rattle.pcap_io.specs.declared.sink.SinkError.TheVariants as sinks

-- a fault after the last record comes within the records
pub within_end : (stop : Option CaptureFault) (fault : RunFault) → IsStop stop → (fault ≡ Device)
    ⊎ (torn_at stop ≡ Err fault) → IsBeforeHeader fault → ⊥
within_end stop fault is ends before = grind arith

-- ---- before the first record

-- what holds of each input at whose first record a replay is, holds of each accepted one of its configuration
pub of_each : {replay : Replay} {setup : Setup} {trace : Bool} {records : CaptureState} {w : Option (List ℕ)} {P : ReplayInput → Type 0}
    (old : Devices) → replay.records ≡ records → IsBegun replay setup trace old.sent w → OfBegun replay (record old { sent = w }) P
    → OfEach setup trace records old P
of_each {trace = trace} old at begun holds rules box capture accepted header unread same is = grind arith

-- ---- by the fault

abbrev pub none_failed : Failures
none_failed = record { count = 0; wrapped = 0 }

-- as many calls had failed as of other devices
pub leaves_as : (input : ReplayInput) (old other new : Devices) (fault : RunFault) → NoneFailed old other
    → LeavesOf input other new fault → LeavesOf input old new fault
leaves_as input old other new fault same h = rw (← same.0, ← same.1, ← same.2) h

-- `Device` behind calls of which none failed, and behind which no read came, is of a writer
pub writer_failed : (old mid new : Devices) → NoneFailed old mid
    → CountsFault {T = Bool} (Err Device) (record mid { unread = None; reads_failed = none_failed }) (record new { unread = None; reads_failed = none_failed })
    → WriterFailed old new
writer_failed old mid new none (inl (read, _, _)) = absurd (omega (arith, ap (λ (f : Failures). f.count) read))
writer_failed old mid new none (inr (inl (_, sent, _))) = inl (sent ∙ ap one_failure none.1)
writer_failed old mid new none (inr (inr (_, _, report))) = inr (report ∙ ap one_failure none.2)

pub writer_failed_at : (fault : RunFault) (old mid new : Devices) → NoneFailed old mid
    → CountsFault {T = Bool} (Err fault) (record mid { unread = None; reads_failed = none_failed }) (record new { unread = None; reads_failed = none_failed })
    → fault ≡ Device → WriterFailed old new
writer_failed_at Device old mid new none h is = writer_failed old mid new none h
writer_failed_at _ old mid new none h is = absurd cc

-- a fault behind calls of which none failed, and behind which no read came
pub counts_ending : (fault : RunFault) (old mid new : Devices) → NoneFailed old mid → new.reads_failed ≡ mid.reads_failed
    → CountsFault {T = Bool} (Err fault) (record mid { unread = None; reads_failed = none_failed }) (record new { unread = None; reads_failed = none_failed })
    → CountsFault {T = Summary} (Err fault) old new
counts_ending Device old mid new none same (inl (read, _, _)) = absurd (omega (arith, ap (λ (f : Failures). f.count) read))
counts_ending Device old mid new none same (inr (inl (_, sent, report))) =
    inr (inl (same ∙ none.0, sent ∙ ap one_failure none.1, report ∙ none.2))
counts_ending Device old mid new none same (inr (inr (_, sent, report))) =
    inr (inr (same ∙ none.0, sent ∙ none.1, report ∙ ap one_failure none.2))
counts_ending _ old mid new none same h = (same ∙ none.0, h.1 ∙ none.1, h.2 ∙ none.2)

-- or more of which failed
pub counts_later : (T S : Type 0) (fault : RunFault) (old mid new : Devices) → NoneFailed old mid
    → CountsFault {T = T} (Err fault) mid new → CountsFault {T = S} (Err fault) old new
counts_later T S Device old mid new none (inl (read, sent, report)) =
    inl (read ∙ ap one_failure none.0, sent ∙ none.1, report ∙ none.2)
counts_later T S Device old mid new none (inr (inl (read, sent, report))) =
    inr (inl (read ∙ none.0, sent ∙ ap one_failure none.1, report ∙ none.2))
counts_later T S Device old mid new none (inr (inr (read, sent, report))) =
    inr (inr (read ∙ none.0, sent ∙ none.1, report ∙ ap one_failure none.2))
counts_later T S _ old mid new none h = (h.0 ∙ none.0, h.1 ∙ none.1, h.2 ∙ none.2)

-- the output capture couldn't be begun
pub counts_begun : (error : SinkError) (old : Devices) (w : Option (List ℕ)) (failed : Failures)
    → (error ≡ sinks.Device → failed ≡ one_failure old.sends_failed) → (error ≡ sinks.Memory → failed ≡ old.sends_failed)
    → CountsFault {T = Summary} (Err (of_sink error)) old (record old { sent = w; sends_failed = failed })
counts_begun sinks.Device old w failed device memory = inr (inl (refl, device refl, refl))
counts_begun sinks.Memory old w failed device memory = (refl, memory refl, refl)

pub of_no_record : (error : SinkError) → (IsOfRecord (of_sink error) → ⊥) × (IsBeforeHeader (of_sink error) → ⊥)
of_no_record sinks.Device = (λ is. is, λ is. is)
of_no_record sinks.Memory = (λ is. is, λ is. is)

pub of_memory : {result : Result Summary RunFault} (error : SinkError) → result ≡ Err (of_sink error) → result ≡ Err Memory
    → error ≡ sinks.Memory
of_memory sinks.Device was is = cc
of_memory sinks.Memory was is = refl

-- before the first record: a prefix of the header is written, or an allocation failed
pub fault_leaves_begun : (setup : Setup) (trace : Bool) (s : CaptureState) (old : Devices) (w : Option (List ℕ))
    (failed : Failures) (error : SinkError) → length s.held ≤ READ_AHEAD → AppendsPrefix old.sent w sll2_header
    → (error ≡ sinks.Memory → Keeps old.sent w) → (error ≡ sinks.Device → failed ≡ one_failure old.sends_failed)
    → LeavesPrefix setup trace s (of_sink error) old (record old { sent = w; sends_failed = failed })
fault_leaves_begun setup trace s old w failed sinks.Device few part none device =
    λ rules box capture accepted header unread same is.
    let input = input_at accepted capture header trace (record old { unread = unread }) in
    let l = some_of_map (λ xs. s.held ++ xs) old.unread (drop HEADER_BYTES capture) is in
    inl (halted {input = input} old (record old { sent = w; sends_failed = failed }) s.held l.0 l.1
    (none_yet input (s.held ++ l.0) l.2) few refl (inl (device refl)) (record {
      part_sent = part_same old.sent w sll2_header (capture_text []) part (sym (append-nil sll2_header));
      part_lines = part_none old.report [];
      not_ahead = inl (Appends-nil old.report);
    }))
fault_leaves_begun setup trace s old w failed sinks.Memory few part none device = grind arith

-- ---- the records stop

module _ {replay : Replay} {input : ReplayInput} {unread w r : Option (List ℕ)} (stop : Option CaptureFault)
    (i : Replayed replay input (ending_at stop) unread w r)
  where
    ends_so : (torn : Bool) → torn_at stop ≡ Ok torn → Ends input.format (ending_of torn) (length i.records) (i.ahead ++ i.left)
    ends_so torn is = let same : ending_at stop ≡ ending_of torn = grind arith in rw (← same) i.ends

    -- all is done
    pub all_written : (torn : Bool) (count : ℕ) → torn_at stop ≡ Ok torn → count ≡ replay.report.records
        → Meaning input.rules input.box input.capture input.trace count torn (capture_text i.history)
        (report_text input.accepted.setup input.trace i.history torn)
    all_written torn count is counted =
        record {
          accepted = input.accepted;
          records = i.records;
          read = record {
            format = input.format;
            accepted = input.header;
            rest = i.ahead ++ i.left;
            whole = i.follows.joined;
            each = i.follows.each;
            not_over = i.follows.not_over;
            ends = ends_so torn is;
          };
          counted = counted ∙ i.noted;
          history = i.history;
          is_history = i.follows.is_history;
          captured = refl;
          reported = refl;
        }

-- a fault comes then
pub fault_leaves_ended : {replay : Replay} {input : ReplayInput} {w r : Option (List ℕ)} (stop : Option CaptureFault)
    (old new : Devices) (before : Failures) (fault : RunFault) → IsStop stop → new.reads_failed ≡ old.reads_failed
    → before ≡ old.reports_failed → (fault ≡ Device → WriterFailed old new)
    → (i : Replayed replay input (ending_at stop) new.unread w r)
    → FinishFails (start_of input) i.history stop new.sent new.report before new.reports_failed fault
    → LeavesOf input old new fault
fault_leaves_ended stop old new before (Capture fault) is none same failed i e =
    inr (record {
      taken_so_far = so_far new i.ahead i.left i.is_left refl i.follows;
      few = i.few;
      ending = ending_at stop;
      ends = i.ends;
      refused = let stops = e.0 in grind arith;
      sent = e.1.all_sent;
      report = e.1.all_lines;
      all_read = none;
    })
fault_leaves_ended stop old new before Device is none same failed i (inl part) =
    halted old new i.ahead i.left i.is_left i.follows i.few none (failed refl) part
fault_leaves_ended stop old new before Device is none same failed i (inr u) =
    failed_report (record {
      taken_so_far = so_far new i.ahead i.left i.is_left refl i.follows;
      few = i.few;
      torn = u.0;
      ends = ends_so stop i u.0 u.1;
      sent = u.2.0;
      report = u.2.1;
      failed = u.3 ∙ ap one_failure same;
    })
fault_leaves_ended stop old new before _ is none same failed i e = absurd e
