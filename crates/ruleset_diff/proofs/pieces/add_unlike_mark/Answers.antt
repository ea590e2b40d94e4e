use Rattle.std.proofs.Common.{ap, sym}
use Rattle.fact_sets.specs.Facts.{mark_number}
use Rattle.fact_sets.specs.declared.written.MarkSource.TheVariants as sources
use Rattle.ruleset_diff.proofs.Adding.{same_marks_added}
use Rattle.ruleset_diff.proofs.pieces.add_unlike_mark.Goals as goal

pub returns-in-Packet-clause-adds : goal.returns-in-Packet-clause-adds
returns-in-Packet-clause-adds c =
    same_marks_added c.args.diagrams.now c.args.set c.args.pieces.now.items sources.Packet c.args.new (λ p. ap (λ s. mark_number s p) (sym c.in-Packet.is))

pub returns-in-Connection-clause-adds : goal.returns-in-Connection-clause-adds
returns-in-Connection-clause-adds c = rw c.in-Connection.is c.add_unlike_marks.ensures.adds

pub returns-in-Number-clause-adds : goal.returns-in-Number-clause-adds
returns-in-Number-clause-adds c = rw c.in-Number.is c.add_other_marks.ensures.adds
