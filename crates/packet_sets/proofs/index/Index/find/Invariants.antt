use Rattle.packet_sets.proofs.index.Index.find.Given as goal

abbrev pub decreases-loop-at : goal.decreases-loop-at
decreases-loop-at l = l.at
