-- the notes so far, and those of the events that are left
use Rattle.report.proofs.Imports.{drop, length, noted_events, ◌++◌, ◌+◌, ◌-◌, ◌≡◌, ◌≤◌}
use Rattle.std.proofs.Common.{vec_capacity, vec_len}
use Rattle.report.proofs.notes.note_entry.Given as goal

abbrev pub invariant-loop-event : goal.invariant-loop-event
invariant-loop-event l = record {
  left : l.notes.items ++ noted_events l.trace l.entry.number (drop l.event-index l.entry.events.now)
      ≡ l.initial.notes.items ++ noted_events l.trace l.entry.number l.entry.events.now;
  few : vec_len l.notes + (length l.entry.events.now - l.event-index) ≤ vec_len l.initial.notes + length
      l.entry.events.now;
  capacity : vec_capacity l.notes ≡ vec_capacity l.initial.notes;
}
