-- The records of a capture, one after another.
use Rattle.engine.proofs.Names.{AllWritten, BeginsWithRecords, Bool, BreaksAtRecord, CaptureError, CaptureFault, CaptureState, Captured, Consumes, Devices}
use Rattle.engine.proofs.Names.{Ending, Ends, Entry, Err, FailsBetween, Format, HEADER_BYTES, IfSome, IsAtEnd, IsOfRecords, IsRecord, LeavesOf, List, Malformed}
use Rattle.engine.proofs.Names.{Next, NextAnswers, None, Ok, Option, Over, PrefixWritten, READ_AHEAD, ReadsRecord, Recorded, RecordsTaken, Refused, Replay}
use Rattle.engine.proofs.Names.{ReplayInput, ReplayRepresents, Replayed, Result, Some, TakesRecord, Torn, Whole, [], ahead, ap, append-nil, append_assoc, arith}
use Rattle.engine.proofs.Names.{decoded_records, drop, ending_at, ending_of, failed_read, failed_write, false, flat_map-append, frame, inl, inr, length}
use Rattle.engine.proofs.Names.{length-append, max, one_failure, own_moment, refl, rules, start_of, stream_of, subst, sym, true, unread_input, ℕ, ◌++◌, ◌∙◌, ◌∷◌}
use Rattle.engine.proofs.Names.{WriterFailed, ◌≡◌, ◌≤◌}
use Rattle.engine.proofs.Histories.{decoded_more, is_history_more, latest_after, latest_more}
use Rattle.std.proofs.lemmas.List.Elements.{All-push}
use Rattle.std.proofs.lemmas.Option.{same_Some}
use Rattle.list_laws.specs.Options.{IfSome_at}
use Rattle.pcap_io.specs.declared.fault.CaptureError.TheVariants as errors
use Rattle.pcap_io.specs.declared.fault.CaptureFault.TheVariants as captures
use Rattle.engine.specs.declared.fault.RunFault.TheVariants as faults

-- behind the records of a history a reader has these bytes left, after those that are held
pub record Behind (s : CaptureState) (input : ReplayInput) (unread : Option (List ℕ)) (history : List Entry) : Type 0 where
  pub left : List ℕ
  pub is_left : unread ≡ Some left
  pub records : List Captured
  pub follows : BeginsWithRecords input records (s.held ++ left) history
  pub same : s.format ≡ input.format
  pub counted : s.count ≡ length records
  pub latest_is : s.latest ≡ latest_after input.format 0 records

-- and a replay represents the history
pub record Carried (replay : Replay) (input : ReplayInput) (unread w r : Option (List ℕ)) : Type 0 where
  pub history : List Entry
  pub behind : Behind replay.records input unread history
  pub replay_represents : ReplayRepresents replay (start_of input) history w r

-- none was read yet
abbrev pub none_yet : (input : ReplayInput) (rest : List ℕ) → rest ≡ drop HEADER_BYTES input.capture
    → BeginsWithRecords input [] rest []
none_yet input rest is = record {
  joined = sym is;
  each = λ k d lt. absurd (omega (arith, lt));
  not_over = omega arith;
  is_history = refl;
}

-- before the first record
pub begun : (replay : Replay) (input : ReplayInput) (unread w r : Option (List ℕ)) → replay.records.count ≡ 0
    → replay.records.latest ≡ 0 → replay.records.format ≡ input.format
    → unread_input replay.records unread ≡ Some (drop HEADER_BYTES input.capture)
    → ReplayRepresents replay (start_of input) [] w r → Carried replay input unread w r
begun replay input unread w r none early same is p = grind arith

-- ---- what the reader has left

-- behind what is held, where none is left at its end
pub ahead_is : (s : CaptureState) (unread : Option (List ℕ)) (left : List ℕ) → unread ≡ Some left
    → (s.ended ≡ true → IsAtEnd unread) → ahead s unread ≡ Some (s.held ++ left)
ahead_is s unread left is at_end = grind (arith, append-nil)

-- so far these records
abbrev pub so_far : {input : ReplayInput} {records : List Captured} {rest : List ℕ} {history : List Entry} (new : Devices)
    (ahead left : List ℕ) → new.unread ≡ Some left → rest ≡ ahead ++ left → BeginsWithRecords input records rest history
    → RecordsTaken input.rules input.box input.capture new
so_far {input} {records} {rest} {history} new ahead left is e f =
    record {
      accepted = input.accepted;
      format = input.format;
      header = input.header;
      records = records;
      ahead = ahead;
      left = left;
      joined = f.joined ∙ ap (stream_of records) e;
      unread = is;
      each = f.each;
      not_over = f.not_over;
      history = history;
      is_history = f.is_history;
    }

-- it stops where a writer failed, and a prefix of the output is written
pub halted : {input : ReplayInput} {records : List Captured} {history : List Entry} (old new : Devices)
    (ahead left : List ℕ) → new.unread ≡ Some left → BeginsWithRecords input records (ahead ++ left) history
    → length ahead ≤ READ_AHEAD → new.reads_failed ≡ old.reads_failed → WriterFailed old new
    → PrefixWritten (start_of input) history new.sent new.report → LeavesOf input old new faults.Device
halted old new ahead left is f few none failed part =
    failed_write (record {
      taken_so_far = so_far new ahead left is refl f;
      few = few;
      sent = part.part_sent;
      report = part.part_lines;
      not_ahead = part.not_ahead;
      failed = failed;
      all_read = none;
    })

-- ---- more records

stream_more : (records : List Captured) (last : Captured) (rest : List ℕ)
    → stream_of (records ++ last ∷ []) rest ≡ stream_of records (frame last ++ rest)
stream_more records last rest = simp (flat_map-append frame records (last ∷ []), append_assoc)

-- what is known of a call of the capture behind these records, after which a replay is so
pub record AtRead (replay : Replay) (new : CaptureState) (input : ReplayInput) (result : Result Bool CaptureError)
    (unread after w r : Option (List ℕ)) : Type 0 where
  pub carried : Carried replay input unread w r
  pub noted : replay.report.records ≡ replay.records.count
  pub kept : new.format ≡ replay.records.format
  pub at_end : replay.records.ended ≡ true → IsAtEnd unread
  pub takes : (part : List ℕ) × Consumes unread after part
  pub drained : new.ended ≡ true → IsAtEnd after
  pub few : length new.held ≤ READ_AHEAD
  pub says : IfSome (ahead replay.records unread) (λ bytes. NextAnswers bytes (ahead new after) replay.records new result)

-- a record was read, and not yet taken
abbrev pub read_on : Replay → CaptureState → Replay
read_on replay new = record replay { records = new }

module _ {replay : Replay} {new : CaptureState} {input : ReplayInput} {result : Result Bool CaptureError}
    {unread after w r : Option (List ℕ)} (call : AtRead replay new input result unread after w r)
  where
    abbrev history : List Entry
    history = call.carried.history

    abbrev known : Behind replay.records input unread history
    known = call.carried.behind

    abbrev bytes : List ℕ
    bytes = replay.records.held ++ known.left

    -- what the call says of the bytes to come
    said : (other : Result Bool CaptureError) → result ≡ other → NextAnswers bytes (ahead new after) replay.records new other
    said other is = rw (← is) (IfSome_at (ahead replay.records unread)
        (λ bytes. NextAnswers bytes (ahead new after) replay.records new result) bytes
        (ahead_is replay.records unread known.left known.is_left call.at_end) call.says)

    -- and what it leaves of them
    left : (left : List ℕ) × (after ≡ Some left)
    left = let takes = call.takes.1 in let is = known.is_left in grind arith

    leaves : (rest : List ℕ) → ahead new after ≡ Some rest → rest ≡ new.held ++ left.0
    leaves rest e = same_Some _ _ (sym e ∙ ahead_is new after left.0 left.1 call.drained)

    pub still : ReplayRepresents (read_on replay new) (start_of input) history w r
    still = let p = call.carried.replay_represents in search rules

    -- ---- at a record

    module _ (went : result ≡ Ok true) where
      reads : ReadsRecord bytes (ahead new after) replay.records new
      reads = said (Ok true) went

      abbrev taken : Recorded
      taken = record { moment = new.latest; link = replay.records.format.link; bytes = reads.captured.bytes }

      is_record : IsRecord input.format reads.captured
      is_record = subst (λ (f : Format). IsRecord f reads.captured) known.same reads.is_record

      joined : bytes ≡ frame reads.captured ++ (new.held ++ left.0)
      joined = reads.joined ∙ ap (λ xs. frame reads.captured ++ xs) (leaves reads.rest reads.left)

      behind : (e : Entry) → Next input.accepted.setup history taken e → Behind new input after (e ∷ history)
      behind e n =
          let format = input.format in
          let read = known.records in
          let latest_now : new.latest ≡ max replay.records.latest (own_moment format reads.captured) =
          reads.latest_is ∙ ap (λ f. max replay.records.latest (own_moment f reads.captured)) known.same in
          let decoded : decoded_records format (read ++ reads.captured ∷ []) ≡ decoded_records format read ++ taken ∷ [] =
          let same = known.same in decoded_more format read reads.captured taken replay.records.latest known.latest_is cc in
          let count = known.counted in
          let more = length-append read (reads.captured ∷ []) in
          record {
            left = left.0;
            is_left = left.1;
            records = read ++ reads.captured ∷ [];
            follows = record {
              joined = known.follows.joined ∙ ap (stream_of read) joined ∙ sym (stream_more read reads.captured (new.held ++ left.0));
              each = All-push (IsRecord format) read reads.captured known.follows.each is_record;
              not_over = let f = reads.fewer in omega (arith, count, f, more);
              is_history = rw decoded (is_history_more input.accepted.setup [] (decoded_records format read) taken history e
                  known.follows.is_history n);
            };
            same = call.kept ∙ known.same;
            counted = let f = reads.counted in omega (arith, count, f, more);
            latest_is = latest_now ∙ ap (λ n. max n (own_moment format reads.captured)) known.latest_is
                ∙ sym (latest_more format 0 read reads.captured);
          }

      -- it was processed
      pub more : (replay' : Replay) (w' : Option (List ℕ))
          → IfSome new.last (λ taken. TakesRecord replay' (start_of input) history taken w' r) → replay'.records ≡ new
          → Carried replay' input after w' r
      more replay' w' takes is =
          let t = IfSome_at new.last _ taken reads.last_is takes in
          record {
            history = t.entry ∷ history;
            behind = subst (λ (s : CaptureState). Behind s input after (t.entry ∷ history)) (sym is) (behind t.entry t.next);
            replay_represents = t.replay_represents;
          }

      module _ (old now : Devices) (is : now.unread ≡ after) (none : now.reads_failed ≡ old.reads_failed) where
        -- a writer failed, and a prefix of its output is written
        pub halted_at : WriterFailed old now
            → IfSome new.last (λ taken. BreaksAtRecord (start_of input) history taken now.sent now.report)
            → LeavesOf input old now faults.Device
        halted_at failed breaks =
            let b = IfSome_at new.last _ taken reads.last_is breaks in
            let at = behind b.entry b.next in
            halted old now new.held at.left (is ∙ at.is_left) at.follows call.few none failed b.part

        -- an allocation failed, and all output before it is written
        pub lacks : AllWritten (start_of input) history now.sent now.report → LeavesOf input old now faults.Memory
        lacks all =
            inr (record {
              taken_so_far = so_far now (frame reads.captured ++ new.held) left.0 (is ∙ left.1)
                  (joined ∙ sym (append_assoc (frame reads.captured) new.held left.0)) known.follows;
              untaken = reads.captured;
              is_record = is_record;
              more = new.held;
              read = refl;
              few = call.few;
              sent = all.all_sent;
              report = all.all_lines;
              all_read = none;
            })

    -- a read failed, before which all output was written
    pub cut : (old now : Devices) → result ≡ Err errors.Device → now.unread ≡ after
        → now.reads_failed ≡ one_failure old.reads_failed → new.count ≡ replay.records.count
        → AllWritten (start_of input) history now.sent now.report → LeavesOf input old now faults.Device
    cut old now went is fails count all =
        let b : FailsBetween bytes (ahead new after) new = said (Err errors.Device) went in
        let ends : (torn : Bool) × Ends input.format (ending_of torn) (length known.records) new.held =
        elim (rw (call.kept ∙ known.same, count ∙ known.counted) at b.part) [ inl whole ↦ (false, whole) | inr torn ↦ (true, torn) ] in
        failed_read (record {
          taken_so_far = so_far now new.held left.0 (is ∙ left.1) (leaves bytes b.lost_none) known.follows;
          few = call.few;
          torn = ends.0;
          ends = ends.1;
          sent = all.all_sent;
          report = all.all_lines;
          failed = fails;
        })

    -- ---- where the bytes to come are no further record

    replayed : (ending : Ending) → Ends replay.records.format ending replay.records.count bytes
        × (ahead new after ≡ Some bytes) → Replayed (read_on replay new) input ending after w r
    replayed ending (ends, rest) =
        let joined = leaves bytes rest in
        record {
          ahead = new.held;
          left = left.0;
          is_left = left.1;
          records = known.records;
          history = history;
          follows = rw (← joined) known.follows;
          noted = call.noted ∙ known.counted;
          few = call.few;
          ends = subst (λ (xs : List ℕ). Ends input.format ending (length known.records) xs) joined
              (subst (λ (n : ℕ). Ends input.format ending n bytes) known.counted
              (subst (λ (f : Format). Ends f ending replay.records.count bytes) known.same ends));
          replay_represents = still;
        }

    -- at the end of the bytes
    pub ended : result ≡ Ok false → Replayed (read_on replay new) input (ending_at None) after w r
    ended went = let s = said (Ok false) went in replayed Whole (s.0, s.1 ∙ ap Some (sym s.0))

    -- at a fault of the records
    pub refused : (fault : CaptureFault) → IsOfRecords (Refused fault) → result ≡ Err (Refused fault)
        → Replayed (read_on replay new) input (ending_at (Some fault)) after w r
    refused captures.TornEnd is went = replayed Torn (said _ went)
    refused captures.Malformed is went = replayed Malformed (said _ went)
    refused captures.TooMany is went = replayed Over (said _ went)
    refused _ is went = absurd is
