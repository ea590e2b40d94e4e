use Rattle.box_file.proofs.Names.{IfOk-weaker, interface_tree, ◌∙◌}
use Rattle.box_file.proofs.CheckLaws.{pair-keys, names_differ}
use Rattle.box_file.proofs.checks.has_two_names.Goals as goal

pub returns : goal.returns
returns c =
    IfOk-weaker c.has_conflict.result _ _ (λ r is. is ∙ pair-keys (λ l. (l.index, l.name)) interface_tree _ _ names_differ c.args.interfaces.now)
    c.has_conflict.ensures
