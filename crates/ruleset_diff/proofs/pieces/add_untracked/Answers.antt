use Rattle.std.proofs.Common.{rules, ◌≡◌}
use Rattle.fact_sets.proofs.SetLaws.{means_as}
use Rattle.ruleset_diff.proofs.Adding.{one_added, with_true}
use Rattle.ruleset_diff.proofs.Written.{apart_unlike}
use Rattle.ruleset_diff.proofs.pieces.add_untracked.Goals as goal

pub returns-clause-adds : goal.returns-clause-adds
returns-clause-adds c =
    let apart : c.args.old ≡ c.args.new → ⊥ = search rules in
    one_added c.args.diagrams.now c.before_lookup.new.diagrams c.args.pieces.now.items c.push.new.self.items c.in_ok-early.early _
    c.before_lookup.ensures.keeps c.in_ok-push.ensures.items
    (means_as c.before_lookup.new.diagrams c.in_ok-early.early _ _ c.in_ok-early.ensures.value
    (λ p. with_true _ _ _ (apart_unlike c.args.old c.args.new apart)))
