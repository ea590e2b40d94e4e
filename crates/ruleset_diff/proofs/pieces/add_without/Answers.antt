use Rattle.ruleset_diff.proofs.Adding.{one_added}
use Rattle.ruleset_diff.proofs.pieces.add_without.Goals as goal

pub returns-clause-adds : goal.returns-clause-adds
returns-clause-adds c = one_added c.args.diagrams.now c.without.new.self c.args.pieces.now.items c.push.new.self.items c.in_ok-piece.piece _
    c.without.ensures.keeps c.in_ok-push.ensures.items c.in_ok-piece.ensures.value
