-- The lines of an entry's notes are the entry's lines.
use Rattle.report.proofs.Imports.{Bool, Entry, Event, List, Note, TableTree, Text, [], append-nil, append_assoc, arith, entry_lines, flat_map, length}
use Rattle.report.proofs.Imports.{note_line, noted, noted_events, refl, ℕ, ◌++◌, ◌∷◌, ◌≡◌}
use Rattle.std.specs.Option.{option_to_list}
use Rattle.std.proofs.lemmas.List.Concat.{flat_map-append}
use Rattle.history.specs.declared.outcome.Outcome.{Outcome}
use Rattle.report.specs.Report.{event_line, lines_of, outcome_line}
use Rattle.report.specs.steps.Noting.{noted_end, noted_event}
use Rattle.rule_meaning.specs.declared.event.Event.TheVariants as events

event_written : (rules : List TableTree) (trace : Bool) (n : ℕ) (e : Event)
    → flat_map (note_line rules) (option_to_list (noted_event trace n e)) ≡ event_line rules trace n e
event_written rules trace n (events.Logged at) = append-nil _
event_written rules trace n (events.TookVerdict rule verdict) = grind (arith, append-nil)
event_written rules trace n (events.TookPolicy chain policy) = grind (arith, append-nil)
event_written rules trace n _ = refl

events_written : (rules : List TableTree) (trace : Bool) (n : ℕ) (es : List Event)
    → flat_map (note_line rules) (noted_events trace n es) ≡ flat_map (event_line rules trace n) es
events_written rules trace n [] = refl
events_written rules trace n (e ∷ es) = grind (arith, flat_map-append, event_written, events_written rules trace n es)

end_written : (rules : List TableTree) (trace : Bool) (n : ℕ) (outcome : Outcome)
    → flat_map (note_line rules) (noted_end trace n outcome) ≡ outcome_line trace n outcome
end_written rules trace n outcome = grind (arith, append-nil)

entry_written : (rules : List TableTree) (trace : Bool) (n : ℕ) (e : Entry)
    → flat_map (note_line rules) (noted trace n e.events e.outcome) ≡ lines_of rules trace n e
entry_written rules trace n e =
    let joined = flat_map-append (note_line rules) (noted_events trace n e.events) (noted_end trace n e.outcome) in
    cc (joined, events_written rules trace n e.events, end_written rules trace n e.outcome)

-- with the notes of one more entry, the rest of the text is that of the extended history
pub rest_more : (rules : List TableTree) (trace : Bool) (history : List Entry) (written : Text) (notes : List Note)
    (e : Entry) → written ++ flat_map (note_line rules) notes ≡ entry_lines rules trace history
    → written ++ flat_map (note_line rules) (notes ++ noted trace (length (e ∷ history)) e.events e.outcome)
    ≡ entry_lines rules trace (e ∷ history)
rest_more rules trace history written notes e is =
    let more : List Note = noted trace (length (e ∷ history)) e.events e.outcome in
    let joined = flat_map-append (note_line rules) notes more in
    let grouped = append_assoc written (flat_map (note_line rules) notes) (flat_map (note_line rules) more) in
    cc (joined, grouped, is, entry_written rules trace (length (e ∷ history)) e)
