-- When a report is one of a history, of whose text a part is written already.
use Rattle.std.specs.Prelude.{◌≡◌, ℕ, ◌+◌, Bool, true, List, ◌++◌, length, slice_get, slice_index, Option}
use Rattle.std.specs.Prelude.{Some}
use Rattle.std.specs.List.{flat_map}
use Rattle.std.specs.Option.{option_and_then}
use Rattle.std.specs.Io.KnownBytes.{Appends}
use Rattle.nft_tree.specs.declared.statement.CounterStart.{CounterStart}
use Rattle.nft_tree.specs.Tree.{Text, TableTree}
use Rattle.nft_tree.specs.TableItems.{counter_in, numbered_from_one, rule_numbered}
use Rattle.rule_meaning.specs.declared.event.StatementPosition.{StatementPosition}
use Rattle.devices.specs.Counting.{AppendsPrefix}
use Rattle.history.specs.declared.outcome.Cause.{Cause}
use Rattle.history.specs.Outcomes.{report_index}
use Rattle.history.specs.History.{Entry}
use Rattle.report.specs.declared.tallies.Tally.{Tally}
use Rattle.report.specs.declared.notes.Note.{Note}
use Rattle.report.specs.declared.notes.Note.TheVariants as notes
use Rattle.report.specs.Report.{passed, local, dropped, connections_begun, packets, bytes, entry_lines}
use Rattle.report.specs.Report.{event_line}
use Rattle.report.specs.Report.{outcome_line}

-- a writer's known bytes grow by what completes the written part to this text
abbrev pub AppendsRest : Option Text → Option Text → Text → Text → Type 0
AppendsRest old new written text = (rest : Text) × (written ++ rest ≡ text) × Appends old new rest

-- or by a prefix of that
abbrev pub AppendsRestPrefix : Option Text → Option Text → Text → Text → Type 0
AppendsRestPrefix old new written text = (rest : Text) × (written ++ rest ≡ text)
    × AppendsPrefix old new rest

-- ---- the state of a report

-- a value for each statement of each rule of each chain of each table, a counter or not
abbrev pub Tallies : Type 0
Tallies = List (List (List (List Tally)))

abbrev pub tally_at : Tallies → StatementPosition → Option Tally
tally_at tallies at =
    option_and_then (λ r. numbered_from_one r at.statement)
    (option_and_then (λ c. numbered_from_one c at.rule.rule)
    (option_and_then (λ t. slice_get t at.rule.chain) (slice_get tallies at.rule.table)))

-- the number of records, of those forwarded, delivered, dropped (by the cause's index) and of those that
-- began a connection; the counters; whether it traces; the notes not written yet, and how many more are
-- reserved
pub record ReportState : Type 0 where
  pub records : ℕ
  pub passed : ℕ
  pub local : ℕ
  pub dropped : List ℕ
  pub begun : ℕ
  pub tallies : Tallies
  pub traces : Bool
  pub notes : List Note
  pub room : ℕ

abbrev pub drops_of : ReportState → Cause → ℕ
drops_of report cause = slice_index report.dropped (report_index cause)

-- the initial values of the counter at a position
abbrev pub counter_at : List TableTree → StatementPosition → Option CounterStart
counter_at rules at =
    option_and_then (λ r. option_and_then counter_in (numbered_from_one r.statements at.statement))
    (rule_numbered rules at.rule)

-- the value of a counter after a history
abbrev pub tally_of : CounterStart → StatementPosition → List Entry → Tally
tally_of start at history =
    record { packets = start.packets + packets at history; bytes = start.bytes + bytes at history }

-- the line of a note
abbrev pub note_line : List TableTree → Note → Text
note_line rules (notes.Event number event) = event_line rules true number event
note_line rules (notes.Ended number outcome) = outcome_line true number outcome

-- the report of a history under these rules: its numbers are the history's, and its notes are the lines
-- behind the written part
pub record IsReportOf (report : ReportState) (rules : List TableTree) (trace : Bool) (history : List Entry)
    (written : Text)
    : Type 0 where
  pub records : report.records ≡ length history
  pub passed_are : report.passed ≡ passed history
  pub local_are : report.local ≡ local history
  pub dropped_are : (cause : Cause) → drops_of report cause ≡ dropped cause history
  pub begun_are : report.begun ≡ connections_begun history
  pub tallies_are : (at : StatementPosition) (start : CounterStart)
      → counter_at rules at ≡ Some start → tally_at report.tallies at ≡ Some (tally_of start at history)
  pub traces_so : report.traces ≡ trace
  pub rest : written ++ flat_map (note_line rules) report.notes ≡ entry_lines rules trace history
