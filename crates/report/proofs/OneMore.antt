-- A report of one record more.
use Rattle.report.proofs.Imports.{AllWithin, Bool, Cause, Entry, IsReportOf, List, Note, ReportState, TableTree, Tallies, Text, ap, arith, bool_byte, cond}
use Rattle.report.proofs.Imports.{count_by, counted_all, drops_of, false, length, noted, report_index, set, slice_index, sum_by-cons, true, ℕ, ◌*◌, ◌++◌, ◌+◌}
use Rattle.report.proofs.Imports.{◌<◌, ◌==◌, ◌^◌, ◌∷◌, ◌≡◌, ◌≤◌}
use Rattle.std.proofs.Common.{get_or-set_other, get_or-set_same}
use Rattle.std.proofs.lemmas.Bool.Decides.{nat_tests}
use Rattle.conntrack.specs.Histories.{is_creation}
use Rattle.history.specs.Outcomes.{is_dropped_for, is_local, is_passed}
use Rattle.history.specs.History.{IsEntry}
use Rattle.history.specs.declared.entry.Entry as lent
use Rattle.report.specs.steps.Bounds.{IsBounded}
use Rattle.report.proofs.Tallied.{tallies_more, within_all}
use Rattle.report.proofs.NotedLines.{rest_more}

-- ---- the numbers

-- one more where a test holds
abbrev more_if : Bool → ℕ → ℕ
more_if so n = cond so 1 0 + n

-- so many entries pass a test after one more
count_more : (test : Entry → Bool) (history : List Entry) (e : Entry)
    → count_by test (e ∷ history) ≡ more_if (test e) (count_by test history)
count_more test history e = sum_by-cons (λ (x : Entry). cond (test x) 1 0) e history

-- what is added for a test is one where it holds, so at most one
more_by_test : (b : Bool) (n : ℕ) → (n + bool_byte b ≡ more_if b n) × (n + bool_byte b ≤ n + 1)
more_by_test true n = (omega arith, omega arith)
more_by_test false n = (omega arith, omega arith)

-- the number at an index is one more
pub raised : (ns : List ℕ) (i j : ℕ) → i < length ns
    → slice_index (set ns i (slice_index ns i + 1)) j ≡ more_if (i == j) (slice_index ns j)
raised ns i j lt = grind (arith, nat_tests, slice_index, get_or-set_same, get_or-set_other)

pub raised_most : (ns : List ℕ) (i j : ℕ) → i < length ns → slice_index (set ns i (slice_index ns i + 1)) j ≤ slice_index ns j + 1
raised_most ns i j lt = grind (arith, nat_tests, raised)

-- ---- the bounds, after a record of at most one more of each

pub bounded_more : {records passed local : ℕ} {dropped : List ℕ} {begun more : ℕ} {old new : Tallies} {sent kept : ℕ} {lost : List ℕ}
    (entry : lent.Entry) → IsBounded records passed local dropped begun old → new ≡ counted_all entry.length entry.events.now old
    → more ≡ bool_byte entry.begun → entry.length < 2 ^ 16 → length entry.events.now < 2 ^ 64 → sent ≤ passed + 1 → kept ≤ local + 1
    → ((j : ℕ) → slice_index lost j ≤ slice_index dropped j + 1) → IsBounded (records + 1) sent kept lost (begun + more) new
bounded_more {records} {begun = begun} {old = old} entry b is so small few p k d = record {
  passed_fits = omega arith;
  local_fits = omega arith;
  dropped_fit = λ j. omega (arith, d j, b.dropped_fit j);
  begun_fits = omega (arith, more_by_test entry.begun begun);
  tallies_fit = rw is (within_all entry.length ((records + 1) * 2 ^ 64) _ entry.events.now old b.tallies_fit small (omega (arith, few)));
}

-- ---- the represented history

-- a report of a history, and of one more entry
pub reports_more : {old known : ReportState} {rules : List TableTree} {trace : Bool} {history : List Entry}
    {written : Text} {e : Entry} (entry : lent.Entry) {sent kept : ℕ} {lost : List ℕ} {more : ℕ} {ts : Tallies} {notes : List Note} {room : ℕ}
    → old ≡ known → IsReportOf known rules trace history written → IsEntry e history entry
    → AllWithin ((old.records + 1) * 2 ^ 64) old.tallies → known.records < 2 ^ 32
    → length entry.events.now < 2 ^ 64 → entry.length < 2 ^ 16
    → more ≡ bool_byte entry.begun → ts ≡ counted_all entry.length entry.events.now old.tallies
    → notes ≡ old.notes ++ noted old.traces entry.number entry.events.now entry.outcome
    → sent ≡ more_if (is_passed entry.outcome) old.passed → kept ≡ more_if (is_local entry.outcome) old.local
    → ((cause : Cause) → slice_index lost (report_index cause)
    ≡ more_if (is_dropped_for cause entry.outcome) (drops_of old cause))
    → IsReportOf (record {
      records = old.records + 1;
      passed = sent;
      local = kept;
      dropped = lost;
      begun = old.begun + more;
      tallies = ts;
      traces = old.traces;
      notes = notes;
      room = room;
    }) rules trace (e ∷ history) written
reports_more {old} {known} {rules} {trace} {history} {written} {e} entry same stood is within known_few events_few small so ts_is notes_is
    sent_is kept_is lost_is =
    let r : IsReportOf old rules trace history written = rw same stood in
    let few : (old.records + 1) * 2 ^ 64 + length e.events < 2 ^ 110 =
    omega (arith, ap (λ (k : ReportState). k.records) same, ap length is.events) in
    record {
      records = omega (arith, r.records);
      passed_are = cc (sent_is, count_more (λ x. is_passed x.outcome) history e, is.outcome, r.passed_are);
      local_are = cc (kept_is, count_more (λ x. is_local x.outcome) history e, is.outcome, r.local_are);
      dropped_are = λ cause. cc (lost_is cause, count_more (λ x. is_dropped_for cause x.outcome) history e, is.outcome, r.dropped_are cause);
      begun_are = cc (so, (more_by_test entry.begun old.begun).0, count_more (λ x. is_creation x.tracked.change) history e, is.begun, r.begun_are);
      tallies_are = λ at start h. rw (ts_is, is.bytes, is.events) (tallies_more rules history e old.tallies _ within
          (omega (arith, is.bytes)) few r.tallies_are at start h);
      traces_so = r.traces_so;
      rest = rw (notes_is, r.traces_so, is.number, is.events, is.outcome) (rest_more rules trace history written old.notes e r.rest);
    }
