-- the notes that are left to put
use Rattle.report.proofs.Imports.{PutsAllBut, drop, flat_map, note_line, tables_of}
use Rattle.report.proofs.note_lines.put_notes.Given as goal

abbrev pub invariant-loop-note : goal.invariant-loop-note
invariant-loop-note g l = PutsAllBut g.W.Write.contents l.initial.page l.initial.writer l.page l.writer
    (flat_map (note_line (tables_of l.rules)) (drop l.note-index l.notes)) (flat_map (note_line (tables_of l.rules)) l.notes)
