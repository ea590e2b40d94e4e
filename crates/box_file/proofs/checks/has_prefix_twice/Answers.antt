use Rattle.box_file.proofs.Names.{IfOk-weaker, route_tree, refl, ◌∙◌}
use Rattle.box_file.proofs.CheckLaws.{pair-keys}
use Rattle.box_file.proofs.checks.has_prefix_twice.Goals as goal

pub returns : goal.returns
returns c =
    IfOk-weaker c.has_duplicate.result _ _ (λ r is. is ∙ pair-keys (λ l. (l.address, l.prefix)) route_tree _ _ (λ l m. refl) c.args.routes.now)
    c.has_duplicate.ensures
