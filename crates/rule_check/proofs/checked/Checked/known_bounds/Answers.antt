use Rattle.nft_tree.specs.TreeViews.{tables_of}
use Rattle.rule_check.proofs.Measures.{shallow, total}
use Rattle.rule_check.proofs.checked.Checked.known_bounds.Goals as goal

pub returns-clause-total : goal.returns-clause-total
returns-clause-total c = rw (← c.self.view_is)
    (total (tables_of c.self.inside.tree) c.self.inside.network c.self.inside.names c.self.inside.costs.items c.self.invariant)

pub returns-clause-deep : goal.returns-clause-deep
returns-clause-deep c =
    let known = c.self.invariant.has_depths in
    rw (← c.self.view_is) (
      known.0,
      known.1,
      shallow (tables_of c.self.inside.tree) c.self.inside.network c.self.inside.names c.self.inside.costs.items c.self.invariant known.0 known.1,
    )
