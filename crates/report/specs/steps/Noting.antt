-- The notes of entries.
use Rattle.std.specs.Prelude.{ℕ, Bool, true, false, cond, List, [], ◌∷◌, ◌++◌, Option, Some, None}
use Rattle.std.specs.Option.{option_to_list}
use Rattle.std.specs.List.{flat_map}
use Rattle.rule_meaning.specs.declared.event.Event.{Event}
use Rattle.rule_meaning.specs.declared.event.Event.TheVariants as events
use Rattle.history.specs.declared.outcome.Outcome.{Outcome}
use Rattle.report.specs.declared.notes.Note.{Note}
use Rattle.report.specs.declared.notes.Note.TheVariants as notes

-- whether an event has a note: a log always, a verdict and a policy where it is traced
abbrev pub is_noted : Bool → Event → Bool
is_noted trace (events.Logged at) = true
is_noted trace (events.TookVerdict rule verdict) = trace
is_noted trace (events.TookPolicy chain policy) = trace
is_noted trace _ = false

-- its note, as one of record n
abbrev pub noted_event : Bool → ℕ → Event → Option Note
noted_event trace n event = cond (is_noted trace event) (Some (notes.Event n event)) None

abbrev pub noted_end : Bool → ℕ → Outcome → List Note
noted_end trace n outcome = cond trace (notes.Ended n outcome ∷ []) []

abbrev pub noted_events : Bool → ℕ → List Event → List Note
noted_events trace n happened = flat_map (λ e. option_to_list (noted_event trace n e)) happened

-- the notes of an entry
abbrev pub noted : Bool → ℕ → List Event → Outcome → List Note
noted trace n happened outcome = noted_events trace n happened ++ noted_end trace n outcome
