use Rattle.packet_sets.proofs.diagrams.Diagrams.+compare.Given as goal

abbrev pub decreases-compare : goal.decreases-compare
decreases-compare l = l.field.width
