-- Two rulesets on one box, of which each stage does the same: record by record, their histories are the same but for events.
use Rattle.std.specs.Prelude.{All, max}
use Rattle.std.specs.List.{count_by, flat_map}
use Rattle.std.proofs.Common.{◌≡◌, ◌++◌, ℕ, ◌+◌, Bool, List, [], ◌∷◌, length, map, cond, Result, Ok, Err, ap, refl, subst, sym, ◌∙◌}
use Rattle.std.proofs.lemmas.List.{length-map}
use Rattle.std.proofs.lemmas.List.Elements.{All-head, All-tail}
use Rattle.std.proofs.lemmas.List.Concat.{flat_map-append}
use Rattle.std.proofs.lemmas.List.Folds.{fold-map}
use Rattle.nft_tree.specs.Tree.{TableTree}
use Rattle.conntrack.specs.declared.connection.ConntrackEntry.{ConntrackEntry}
use Rattle.conntrack.specs.Histories as connections
use Rattle.conntrack.specs.Histories.{TrackedPacket, is_creation, live_list}
use Rattle.pcap_io.specs.Pcap.{Recorded}
use Rattle.pcap_io.specs.Sll2.{Sent, sll2}
use Rattle.rule_meaning.specs.declared.stage.HookStage.{HookStage}
use Rattle.history.specs.declared.outcome.Cause.{Cause}
use Rattle.history.specs.Outcomes.{is_dropped_for, is_local, is_passed}
use Rattle.history.specs.Setup.{Setup, limits_of}
use Rattle.history.specs.History.{Entry, in_order, sends, tracked_of}
use Rattle.report.specs.Report.{number_lines}
use Rattle.stepping.specs.Carried.{ReceivedPacket, carried}
use Rattle.stepping.specs.Next.{EntryOf, IsHistoryOf, Next, live_at_record, moment_after}
use Rattle.stepping.specs.Paths.{PathState}
use Rattle.diff_laws.specs.Coming as coming
use Rattle.diff_laws.specs.Coming.{AreBytes, HistoryOfBytes, IsSeenBy, StandsBefore}
use Rattle.rule_meaning.specs.Same.{SameAt}
use Rattle.diff_laws.specs.Same.{SameHistories, SameOutputs, SameStages, with_rules, without_events}
use Rattle.diff_laws.proofs.Paths.{entry_alike, path_leads}

-- ---- what reads no events

tracked_kept : (history : List Entry) → tracked_of (map without_events history) ≡ tracked_of history
tracked_kept [] = refl
tracked_kept (e ∷ history) = ap (λ (all : List TrackedPacket). e.tracked ∷ all) (tracked_kept history)

pub tracked_alike : (history other : List Entry) → SameHistories history other → tracked_of history ≡ tracked_of other
tracked_alike history other same = sym (tracked_kept history) ∙ ap tracked_of same ∙ tracked_kept other

sends_kept : (history : List Entry) → flat_map sends (in_order (map without_events history)) ≡ flat_map sends (in_order history)
sends_kept [] = refl
sends_kept (e ∷ history) =
    flat_map-append sends (in_order (map without_events history)) (without_events e ∷ [])
    ∙ ap (λ (all : List Sent). all ++ flat_map sends (e ∷ [])) (sends_kept history)
    ∙ sym (flat_map-append sends (in_order history) (e ∷ []))

count_alike : (test : Entry → Bool) → ((e : Entry) → test (without_events e) ≡ test e) → (history other : List Entry)
    → SameHistories history other → count_by test history ≡ count_by test other
count_alike test kept history other same = sym (counted history) ∙ ap (count_by test) same ∙ counted other
  where
    tests : (λ (e : Entry). test (without_events e)) ≡ test
    tests = λ i e. kept e i

    counted : (all : List Entry) → count_by test (map without_events all) ≡ count_by test all
    counted all = fold-map (λ (n : ℕ) (e : Entry). n + cond (test e) 1 0) without_events 0 all
        ∙ ap (λ (t : Entry → Bool). count_by t all) tests

-- ---- one record

module _ (setup : Setup) (new : List TableTree) (same : SameStages setup new) where
  abbrev after : Setup
  after = with_rules new setup

  module _ (history : List Entry) (of_bytes : HistoryOfBytes setup history) (r : Recorded) (bytes : AreBytes r.bytes) where
    abbrev live : List ConntrackEntry
    live = live_at_record setup history r

    abbrev now : ℕ
    now = moment_after history r

    does_same : (a : ReceivedPacket) → carried setup r ≡ Ok a → (stage : HookStage) (others : List ConntrackEntry) (s : PathState)
        → StandsBefore setup live a stage others s → IsSeenBy stage s.info
        → SameAt setup.network setup.rules new stage s.facts
    does_same a carries stage others s stands seen = same stage s.facts (record {
      history = history;
      of_bytes = of_bytes;
      r = r;
      bytes = bytes;
      a = a;
      carries = carries;
      others = others;
      state = s;
      stands = stands;
      seen = seen;
      facts = refl;
    })

    entry_same : (c : Result ReceivedPacket Cause) → carried setup r ≡ c → (e other : Entry) → EntryOf setup live now c e
        → EntryOf after live now c other → without_events e ≡ without_events other
    entry_same (Err cause) carries e other x y = ap without_events (x ∙ sym y)
    entry_same (Ok a) carries e other x y = ap without_events x.2
        ∙ entry_alike now live a.packet x.0 y.0 (path_leads setup new live a (does_same a carries) x.0 y.0 x.1 y.1)
        ∙ sym (ap without_events y.2)

    next_same : (behind : List Entry) → SameHistories history behind → (e other : Entry) → Next setup history r e
        → Next after behind r other → without_events e ≡ without_events other
    next_same behind alike e other x y = entry_same (carried setup r) refl e other x.entry
        (subst (λ (all : List TrackedPacket). EntryOf after (live_list (limits_of setup) all (max (connections.moment_of all) r.moment))
        (max (connections.moment_of all) r.moment) (carried setup r) other) (sym (tracked_alike history behind alike)) y.entry)

  -- ---- all records

  pub histories_same : (records : List Recorded) → All (λ r. AreBytes r.bytes) records → (history behind : List Entry)
      → HistoryOfBytes setup history → SameHistories history behind → (end other : List Entry)
      → IsHistoryOf setup history records end → IsHistoryOf after behind records other → SameHistories end other
  histories_same [] bytes history behind of_bytes alike end other x y =
      ap (map without_events) x ∙ alike ∙ sym (ap (map without_events) y)
  histories_same (r ∷ rs) bytes history behind of_bytes alike end other (e, n, x) (o, m, y) =
      let here : AreBytes r.bytes = All-head (λ (q : Recorded). AreBytes q.bytes) r rs bytes in
      let entries : without_events e ≡ without_events o = next_same history of_bytes r here behind alike e o n m in
      histories_same rs (All-tail (λ (q : Recorded). AreBytes q.bytes) r rs bytes) (e ∷ history) (o ∷ behind)
      (coming.one_more history r e of_bytes here n) (λ i. entries i ∷ alike i) end other x y

-- ---- what they write

pub outputs_same : (setup : Setup) (new : List TableTree) (history other : List Entry) → SameHistories history other
    → SameOutputs setup new history other
outputs_same setup new history other same =
    let count : (test : Entry → Bool) → ((e : Entry) → test (without_events e) ≡ test e)
    → count_by test history ≡ count_by test other = λ test kept. count_alike test kept history other same in
    let records : length history ≡ length other =
    sym (length-map history without_events) ∙ ap length same ∙ length-map other without_events in
    let live : length (live_list (limits_of setup) (tracked_of history) (connections.moment_of (tracked_of history)))
    ≡ length (live_list (limits_of setup) (tracked_of other) (connections.moment_of (tracked_of other))) =
    ap (λ (all : List TrackedPacket). length (live_list (limits_of setup) all (connections.moment_of all)))
    (tracked_alike history other same) in
    record {
      captures = ap sll2 (sym (sends_kept history) ∙ ap (λ (all : List Entry). flat_map sends (in_order all)) same ∙ sends_kept other);
      totals = λ torn i. number_lines (records i) (count (λ e. is_passed e.outcome) (λ e. refl) i)
          (count (λ e. is_local e.outcome) (λ e. refl) i)
          (λ cause. count (λ e. is_dropped_for cause e.outcome) (λ e. refl) i)
          (count (λ e. is_creation e.tracked.change) (λ e. refl) i) (live i) torn;
    }
