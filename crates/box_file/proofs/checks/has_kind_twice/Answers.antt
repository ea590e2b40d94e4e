use Rattle.box_file.proofs.Names.{IfOk-weaker, idle_tree, rules, tests, ◌∙◌}
use Rattle.box_file.proofs.CheckLaws.{pair-keys}
use Rattle.box_file.proofs.checks.has_kind_twice.Goals as goal

pub returns : goal.returns
returns c =
    IfOk-weaker c.has_duplicate.result _ _ (λ r is. is ∙ pair-keys (λ l. l.kind) idle_tree _ _ (λ l m. search (rules, tests)) c.args.idles.now)
    c.has_duplicate.ensures
