-- The end of a report.
use Rattle.std.specs.Prelude.{ℕ, Bool, List, ◌++◌, slice_index}
use Rattle.std.specs.List.{flat_map}
use Rattle.nft_tree.specs.Tree.{Text, TableTree}
use Rattle.history.specs.declared.outcome.Cause.{Cause}
use Rattle.history.specs.Outcomes.{report_index}
use Rattle.report.specs.declared.notes.Note.{Note}
use Rattle.report.specs.Report.{number_lines}
use Rattle.report.specs.Representing.{Tallies, note_line}
use Rattle.report.specs.steps.TallyLines.{tables_text}

-- the number of records of a cause, from numbers in the order of the causes
abbrev pub drops_in : List ℕ → Cause → ℕ
drops_in dropped cause = slice_index dropped (report_index cause)

-- the lines of the notes, of the counters, and the totals
abbrev pub rest_text : List TableTree → List Note → Tallies → ℕ → ℕ → ℕ → List ℕ → ℕ → ℕ → Bool → Text
rest_text rules notes tallies records sent kept dropped begun live torn =
    flat_map (note_line rules) notes ++ tables_text tallies 0 rules
    ++ number_lines records sent kept (drops_in dropped) begun live torn
