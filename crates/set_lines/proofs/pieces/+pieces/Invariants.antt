use Rattle.set_lines.proofs.pieces.+pieces.Given as goal

abbrev pub decreases-pieces : goal.decreases-pieces
decreases-pieces l = l.field.width
