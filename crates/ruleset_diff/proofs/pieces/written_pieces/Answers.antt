use Rattle.ruleset_diff.proofs.Adding.{dropped_pieces, same_written_pieces, written_pieces}
use Rattle.ruleset_diff.proofs.pieces.written_pieces.Goals as goal

pub returns-then-goes_on-clause-value : goal.returns-then-goes_on-clause-value
returns-then-goes_on-clause-value c =
    written_pieces c.args.diagrams.now c.add_written.new.diagrams c.args.set c.args.old c.args.new c.new-pieces.result.items c.add_written.new.pieces.items
    c.new-pieces.ensures.items c.in_ok-add_written.ensures.adds c.requires.verdict c.if-goes_on.ensures.so

pub returns-clause-value : goal.returns-clause-value
returns-clause-value c =
    dropped_pieces c.args.diagrams.now c.args.diagrams.now c.args.set c.args.old c.args.new c.new-pieces.result.items c.new-pieces.ensures.items
    c.requires.verdict c.if-goes_on.ensures.not_so

pub returns-then-same_written-clause-value : goal.returns-then-same_written-clause-value
returns-then-same_written-clause-value c =
    same_written_pieces c.args.diagrams.now c.args.set c.args.old c.args.new c.new-pieces.result.items c.new-pieces.ensures.items
    c.requires.verdict c.if-same_written.ensures.same
