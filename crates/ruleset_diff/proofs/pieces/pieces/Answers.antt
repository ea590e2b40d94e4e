use Rattle.std.proofs.Common.{ap, [], ◌∷◌, ◌++◌, ◌∙◌}
use Rattle.fact_sets.proofs.SetLaws.{keeps_same}
use Rattle.ruleset_diff.proofs.Adding.{apart_pieces}
use Rattle.ruleset_diff.proofs.pieces.pieces.Goals as goal

pub returns-clause-value : goal.returns-clause-value
returns-clause-value c =
    apart_pieces c.args.diagrams.now c.args.diagrams.now c.args.set c.args.old c.args.new c.push.new.self.items (keeps_same c.args.diagrams.now) c.requires.set
    (c.in_ok-push.ensures.items ∙ ap (λ l. l ++ c.args.set ∷ []) c.new-pieces.ensures.items) c.if-same_verdict.ensures.differ
