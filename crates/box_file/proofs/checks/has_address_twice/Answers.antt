use Rattle.box_file.proofs.Names.{IfOk-weaker, interface_tree, refl, ◌∙◌}
use Rattle.box_file.proofs.CheckLaws.{pair-keys}
use Rattle.box_file.proofs.checks.has_address_twice.Goals as goal

pub returns : goal.returns
returns c =
    IfOk-weaker c.has_duplicate.result _ _ (λ r is. is ∙ pair-keys (λ l. l.address) interface_tree _ _ (λ l m. refl) c.args.interfaces.now)
    c.has_duplicate.ensures
