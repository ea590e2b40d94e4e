use Rattle.report.proofs.Imports.{note_line, tables_of}
use Rattle.report.proofs.Putting.{left_on}
use Rattle.report.proofs.note_lines.put_notes.Goals as goal

pub loop-note-preserved : goal.loop-note-preserved
loop-note-preserved g c = left_on (note_line (tables_of c.args.rules.now)) _ _ _ c.loop-note-test.true c.loop-note.invariant c.put_note.ensures
