use Rattle.nft_tree.specs.TreeViews.{tables_of}
use Rattle.rule_check.proofs.Measures.{is_checked}
use Rattle.rule_check.proofs.checked.check.Goals as goal

pub invariant_of-result : goal.invariant_of-result
invariant_of-result c = is_checked (tables_of c.args.tree) c.args.network c.in_ok-names.names c.in_ok-names.found c.in_ok-names.ensures.fine
    c.in_ok-names.ensures.names c.in_ok-names.ensures.found
