-- The written and the pending output of a history.
use Rattle.engine.proofs.Names.{AllWritten, Appends, Appends-kept, Appends-trans, AppendsPrefix, Bool, BreaksAtRecord, EngineState, Entry, IfSome, IsEntry}
use Rattle.engine.proofs.Names.{IsNewest, Keeps, List, Next, None, Option, PrefixWritten, Recorded, Replay, ReplayRepresents, ReplayStart, Represents, Sent}
use Rattle.engine.proofs.Names.{Setup, Some, TableTree, TakesRecord, [], ap, append-nil, capture_text, closing_lines, entry_lines, flat_map, gets_more}
use Rattle.engine.proofs.Names.{gets_part, length, lines_of, live_in, part_after, part_first, part_same, part_whole, report_text, rules, sends, sends_of}
use Rattle.engine.proofs.Names.{sll2_record, subst, sym, ℕ, ◌++◌, ◌∙◌, ◌∷◌, ◌≡◌}
use Rattle.engine.proofs.Names.{IsNotAhead, append_assoc, inl, inr, refl}
use Rattle.std.proofs.Common.{arith}
use Rattle.engine.proofs.Histories.{captured_more}
use Rattle.std.proofs.lemmas.Option.{IfSome_then}
use Rattle.devices.specs.Counting.{AppendsBuffered}
use Rattle.pcap_io.specs.Buffering.{SinkState}
use Rattle.report.specs.Representing.{AppendsRest, AppendsRestPrefix, IsReportOf, ReportState, note_line}
use Rattle.history.specs.declared.entry.Entry as lent

-- ---- the outputs of a history

abbrev pub replay_of : EngineState → ReportState → Replay → SinkState → Replay
replay_of engine report replay sink = record replay { engine = engine; report = report; sink = sink }

-- what was written before and now
pub lines_all : (a b c : Option (List ℕ)) (lines text : List ℕ) → Appends a b lines → AppendsRest b c lines text
    → Appends a c text
lines_all a b c lines text before (rest, whole, after) = grind (arith, Appends-trans)

pub lines_part : (a b c : Option (List ℕ)) (lines text : List ℕ) → Appends a b lines → AppendsRestPrefix b c lines text
    → AppendsPrefix a c text
lines_part a b c lines text before (rest, whole, after) =
    part_same a c (lines ++ rest) text (part_after a b c lines rest before after) whole

-- ---- the report isn't ahead of the capture

-- nor when more of the capture is written
pub sent_on : {rules : List TableTree} {trace : Bool} {history : List Entry} (before w w' report r : Option (List ℕ))
    (part : List ℕ) → Appends w w' part → IsNotAhead rules trace history before w report r
    → IsNotAhead rules trace history before w' report r
sent_on before w w' report r part sent (inl none) = inl none
sent_on before w w' report r part sent (inr b) =
    inr (record {
      later = b.later;
      reported = b.reported;
      joined = b.joined;
      lines = b.lines;
      more = b.more ++ part;
      packets = subst (Appends before w') (append_assoc (capture_text b.reported) b.more part)
          (Appends-trans before w w' (capture_text b.reported ++ b.more) part b.packets sent);
    })

-- nor when there is one more record
pub record_on : {rules : List TableTree} {trace : Bool} {history : List Entry} (e : Entry) (before w report r : Option (List ℕ))
    → IsNotAhead rules trace history before w report r → IsNotAhead rules trace (e ∷ history) before w report r
record_on e before w report r (inl none) = inl none
record_on e before w report r (inr b) =
    inr (record {
      later = e ∷ b.later;
      reported = b.reported;
      joined = ap (λ h. e ∷ h) b.joined;
      lines = b.lines;
      more = b.more;
      packets = b.packets;
    })

-- where the capture has all packets
pub all_packets : {rules : List TableTree} {trace : Bool} {history : List Entry} (before w report r : Option (List ℕ))
    → Appends before w (capture_text history) → AppendsPrefix report r (entry_lines rules trace history)
    → IsNotAhead rules trace history before w report r
all_packets {history = history} before w report r sent lines =
    inr (record {
      later = [];
      reported = history;
      joined = refl;
      lines = lines;
      more = [];
      packets = subst (Appends before w) (sym (append-nil (capture_text history))) sent;
    })

-- ---- the outputs of a history, by calls of the writers

module _ (start : ReplayStart) (history : List Entry) where
  abbrev lines : List ℕ
  lines = entry_lines start.setup.rules start.trace history

  -- all is a prefix
  pub prefix_written : (w r : Option (List ℕ)) → AllWritten start history w r → PrefixWritten start history w r
  prefix_written w r all = record {
    part_sent = part_whole start.sent w (capture_text history) all.all_sent;
    part_lines = part_whole start.report r lines all.all_lines;
    not_ahead = all_packets start.sent w start.report r all.all_sent (part_whole start.report r lines all.all_lines);
  }

  -- what is written stays so
  pub still_written : (w r r' : Option (List ℕ)) → AllWritten start history w r → Keeps r r'
      → AllWritten start history w r'
  still_written w r r' all kept = record {
    all_sent = all.all_sent;
    all_lines = Appends-kept start.report r r' lines all.all_lines kept;
  }

  -- a prefix is one of the extended history's output
  pub part_more : (e : Entry) (w r : Option (List ℕ)) → PrefixWritten start history w r
      → PrefixWritten start (e ∷ history) w r
  part_more e w r p =
      record {
        part_sent = subst (AppendsPrefix start.sent w) (sym (captured_more history e))
            (part_first start.sent w (capture_text history) (flat_map sll2_record (sends e)) p.part_sent);
        part_lines = part_first start.report r lines (lines_of start.setup.rules start.trace (length (e ∷ history)) e)
            p.part_lines;
        not_ahead = record_on e start.sent w start.report r p.not_ahead;
      }

  -- a record wasn't processed, and a prefix of the history's output is written
  pub broke_writing : (last : Option Recorded) (w w' r r' : Option (List ℕ))
      → IfSome last (λ taken. BreaksAtRecord start history taken w r) → PrefixWritten start history w' r'
      → IfSome last (λ taken. BreaksAtRecord start history taken w' r')
  broke_writing last w w' r r' broke part =
      IfSome_then last broke (λ _ b. record { entry = b.entry; next = b.next; part = part_more b.entry w' r' part })

-- ---- what doesn't change the represented history

-- whether the engine is ready
pub readied : (engine now : EngineState) (ready : Bool) (history : List Entry) → now ≡ record engine { ready = ready }
    → Represents engine history → Represents now history
readied engine now ready history is s = rw is (record { records = s.records; newest = s.newest; held = s.held })

-- ---- one record

-- what is said of a record that was read
pub at_record : (last : Option Recorded) (taken : Recorded) (P : Recorded → Type 0) → Some taken ≡ last → P taken
    → IfSome last P
at_record last taken P e h = let Q : Option Recorded → Type 0 = λ o. IfSome o P in subst Q e h

-- what an engine promises of a processed record
abbrev pub Stepped : Setup → List Entry → Recorded → EngineState → Type 0
Stepped setup history taken engine = (e : Entry) × Next setup history taken e × Represents engine (e ∷ history)

-- what a report's note promises
abbrev pub Noted : ReportState → ReportState → lent.Entry → Type 0
Noted old new told = (rules : List TableTree) (trace : Bool) (history : List Entry) (lines : List ℕ) (e : Entry)
    → IsReportOf old rules trace history lines → IsEntry e history told → IsReportOf new rules trace (e ∷ history) lines

-- ---- from a represented history

module _ {replay : Replay} {start : ReplayStart} {history : List Entry} {w r : Option (List ℕ)}
    (p : ReplayRepresents replay start history w r)
  where
    -- what was written so far is a prefix
    lines_so_far : AppendsPrefix start.report r (entry_lines start.setup.rules start.trace history)
    lines_so_far = (
      p.lines,
      flat_map (note_line start.setup.rules) replay.report.notes,
      sym p.reports.rest,
      p.appends_report,
    )

    -- facts of a report under these rules
    drained : (P : List TableTree → Bool → List Entry → List ℕ → Type 0) (rules : List TableTree)
        → rules ≡ replay.engine.setup.rules
        → ((trace : Bool) (history : List Entry) (lines : List ℕ) → IsReportOf replay.report rules trace history lines
        → P rules trace history lines) → P start.setup.rules start.trace history p.lines
    drained P rules e drains =
        subst (λ (rs : List TableTree). IsReportOf replay.report rs start.trace history p.lines
        → P rs start.trace history p.lines) (e ∙ ap (λ (s : Setup). s.rules) p.same) (drains start.trace history p.lines) p.reports

    -- all that is buffered was sent
    pub all_sent : (w' : Option (List ℕ)) → Appends w w' replay.sink.buffered → Appends start.sent w' (capture_text history)
    all_sent w' sent = subst (Appends start.sent w') (sym p.gets.1)
        (Appends-trans start.sent w w' p.gets.0 replay.sink.buffered p.gets.2 sent)

    -- ---- all pending output is written

    -- the sink's writer failed
    pub part_unsent : (w' : Option (List ℕ)) → AppendsPrefix w w' replay.sink.buffered
        → PrefixWritten start history w' r
    part_unsent w' part = record {
      part_sent = part_same start.sent w' (p.gets.0 ++ replay.sink.buffered) (capture_text history)
          (part_after start.sent w w' p.gets.0 replay.sink.buffered p.gets.2 part) (sym p.gets.1);
      part_lines = lines_so_far;
      not_ahead = sent_on start.sent w w' start.report r part.0 part.3 p.not_ahead;
    }

    -- the report's did
    pub part_undrained : (rules : List TableTree) (w' r' : Option (List ℕ)) → rules ≡ replay.engine.setup.rules
        → Appends w w' replay.sink.buffered
        → ((trace : Bool) (history : List Entry) (lines : List ℕ) → IsReportOf replay.report rules trace history lines
        → AppendsRestPrefix r r' lines (entry_lines rules trace history)) → PrefixWritten start history w' r'
    part_undrained rules w' r' e sent drains =
        let lines = lines_part start.report r r' p.lines (entry_lines start.setup.rules start.trace history) p.appends_report
        (drained (λ rules trace history lines. AppendsRestPrefix r r' lines (entry_lines rules trace history)) rules e drains) in
        record {
          part_sent = part_whole start.sent w' (capture_text history) (all_sent w' sent);
          part_lines = lines;
          not_ahead = all_packets start.sent w' start.report r' (all_sent w' sent) lines;
        }

    -- neither did
    pub all_drained : (rules : List TableTree) (report : ReportState) (sink : SinkState) (w' r' : Option (List ℕ))
        → rules ≡ replay.engine.setup.rules → Appends w w' replay.sink.buffered → sink.buffered ≡ []
        → ((trace : Bool) (history : List Entry) (lines : List ℕ) → IsReportOf replay.report rules trace history lines
        → AppendsRest r r' lines (entry_lines rules trace history)
        × IsReportOf report rules trace history (entry_lines rules trace history))
        → ReplayRepresents (replay_of replay.engine report replay sink) start history w' r'
        × AllWritten start history w' r'
    all_drained rules report sink w' r' e sent empty drains =
        let now = drained (λ rules trace history lines. AppendsRest r r' lines (entry_lines rules trace history)
        × IsReportOf report rules trace history (entry_lines rules trace history)) rules e drains in
        let lines : Appends start.report r' (entry_lines start.setup.rules start.trace history) =
        lines_all start.report r r' p.lines (entry_lines start.setup.rules start.trace history) p.appends_report now.0
        in (
          record {
            same = p.same;
            represents = p.represents;
            gets = (
              capture_text history,
              sym (append-nil (capture_text history)) ∙ ap (λ ws. capture_text history ++ ws) (sym empty),
              all_sent w' sent,
            );
            lines = entry_lines start.setup.rules start.trace history;
            reports = now.1;
            appends_report = lines;
            not_ahead = all_packets start.sent w' start.report r' (all_sent w' sent)
                (part_whole start.report r' (entry_lines start.setup.rules start.trace history) lines);
          },
          record { all_sent = all_sent w' sent; all_lines = lines },
        )

    -- ---- after the last record

    -- what the last lines append, where the number of live connections is the engine's
    pub closed : {live : ℕ} (torn : Bool) {rules : List TableTree} {Q : List ℕ → List ℕ → Type 0} {P : List ℕ → Type 0}
        → ((lines text : List ℕ) → Appends start.report r lines → Q lines text → P text) → rules ≡ replay.engine.setup.rules
        → live ≡ length (live_in replay.engine.setup history)
        → ((trace : Bool) (history : List Entry) (lines : List ℕ) → IsReportOf replay.report rules trace history lines
        → Q lines (entry_lines rules trace history ++ closing_lines rules history live torn))
        → P (report_text start.setup start.trace history torn)
    closed {live} torn {rules} {Q} {P} joins e lives says = subst (λ (n : ℕ). P (entry_lines start.setup.rules start.trace history
        ++ closing_lines start.setup.rules history n torn)) (lives ∙ ap (λ (s : Setup). length (live_in s history)) p.same)
        (joins p.lines _ p.appends_report (drained (λ rules trace history lines.
        Q lines (entry_lines rules trace history ++ closing_lines rules history live torn)) rules e says))

    -- ---- the next record

    -- with its next record and its notes reserved it represents the same history
    pub roomier : (engine : EngineState) (ready : Bool) (report : ReportState)
        → engine ≡ record replay.engine { ready = ready } → report ≡ record replay.report { room = report.room }
        → ReplayRepresents (replay_of engine report replay replay.sink) start history w r
    roomier engine ready report is_engine is =
        record {
          same = ap (λ (e : EngineState). e.setup) is_engine ∙ p.same;
          represents = readied replay.engine engine ready history is_engine p.represents;
          gets = p.gets;
          lines = p.lines;
          reports = let h = p.reports in rw is (search rules);
          appends_report = p.appends_report;
          not_ahead = p.not_ahead;
        }

    next_as : (taken : Recorded) (e : Entry) → Next replay.engine.setup history taken e
        → Next start.setup history taken e
    next_as taken e n = subst (λ (s : Setup). Next s history taken e) p.same n

    -- it wasn't taken
    pub broke_unread : (last : Option Recorded)
        → ((taken : Recorded) → (e : Entry) × Next replay.engine.setup history taken e)
        → IfSome last (λ taken. BreaksAtRecord start history taken w r)
    broke_unread None entries = tt
    broke_unread (Some taken) entries = record {
      entry = (entries taken).0;
      next = next_as taken (entries taken).0 (entries taken).1;
      part = part_more start history (entries taken).0 w r (record {
        part_sent = (p.gets.0, replay.sink.buffered, p.gets.1, p.gets.2);
        part_lines = lines_so_far;
        not_ahead = p.not_ahead;
      });
    }

    -- ---- an entry for it

    module _ {taken : Recorded} {engine : EngineState}
        (t : Stepped replay.engine.setup history taken engine)
      where
        -- the engine lends the packet that the entry sends
        sent_by : (xs : List Sent) → xs ≡ sends_of engine.newest
            → capture_text history ++ flat_map sll2_record xs ≡ capture_text (t.0 ∷ history)
        sent_by xs is = ap (λ (ys : List Sent). capture_text history ++ flat_map sll2_record ys)
            (is ∙ ap sends_of t.2.newest) ∙ sym (captured_more history t.0)

        -- its packet wasn't all written
        pub broke_sending : (s : Sent) (w' : Option (List ℕ)) → s ∷ [] ≡ sends_of engine.newest
            → AppendsPrefix w w' (replay.sink.buffered ++ sll2_record s) → BreaksAtRecord start history taken w' r
        broke_sending s w' is part =
            record {
              entry = t.0;
              next = next_as taken t.0 t.1;
              part = record {
                part_sent = part_same start.sent w' (capture_text history ++ sll2_record s) (capture_text (t.0 ∷ history))
                    (gets_part [] replay.sink.buffered start.sent w w' (capture_text history) (sll2_record s) p.gets part)
                    (ap (λ xs. capture_text history ++ xs) (sym (append-nil (sll2_record s))) ∙ sent_by (s ∷ []) is);
                part_lines = part_first start.report r (entry_lines start.setup.rules start.trace history)
                    (lines_of start.setup.rules start.trace (length (t.0 ∷ history)) t.0) lines_so_far;
                not_ahead = record_on t.0 start.sent w' start.report r
                    (sent_on start.sent w w' start.report r part.0 part.3 p.not_ahead);
              };
            }

        module _ {report : ReportState} {told : lent.Entry} (same : engine.setup ≡ replay.engine.setup)
            (newest : (history : List Entry) → Represents engine history → IsNewest (Some told) history)
            (noted : Noted replay.report report told)
          where
            -- it was processed and noted, and its packet, if it sends one, is written or buffered
            pub took : (xs : List Sent) (sink : SinkState) (w' : Option (List ℕ)) → xs ≡ sends_of engine.newest
                → AppendsBuffered replay.sink.buffered w w' sink.buffered (flat_map sll2_record xs)
                → TakesRecord (replay_of engine report replay sink) start history taken w' r
            took xs sink w' is gets =
                record {
                  entry = t.0;
                  next = next_as taken t.0 t.1;
                  replay_represents = record {
                    same = same ∙ p.same;
                    represents = t.2;
                    gets = subst (λ (ws : List ℕ). AppendsBuffered [] start.sent w' sink.buffered ws) (sent_by xs is)
                        (gets_more [] replay.sink.buffered sink.buffered start.sent w w' (capture_text history)
                        (flat_map sll2_record xs) p.gets gets);
                    lines = p.lines;
                    reports = noted start.setup.rules start.trace history p.lines t.0 p.reports
                        (newest (t.0 ∷ history) t.2);
                    appends_report = p.appends_report;
                    not_ahead = record_on t.0 start.sent w' start.report r
                        (sent_on start.sent w w' start.report r gets.0 gets.2 p.not_ahead);
                  };
                }
