use Rattle.std.proofs.Common.{rules, ◌≡◌, sym, ap, subst}
use Rattle.nft_tree.specs.TreeViews.{tables_of}
use Rattle.rule_paths.specs.Findings.{numbers_at}
use Rattle.rule_check.specs.Checked.{AreRulesetCosts}
use Rattle.rule_check.proofs.Measures.{base, no_costs, same_costs}
use Rattle.rule_check.proofs.checked.Checked.costs.Goals as goal

pub returns-clause-base : goal.returns-clause-base
returns-clause-base c =
    let same : c.row.result.now ≡ numbers_at c.self.inside.costs.items c.args.table = search rules in
    rw (same, ← c.self.view_is) (base (tables_of c.self.inside.tree) c.self.inside.network c.self.inside.names
    c.self.inside.costs.items c.self.invariant c.args.table)

pub returns-clause-same : goal.returns-clause-same
returns-clause-same c = λ costs are.
    let same : c.row.result.now ≡ numbers_at c.self.inside.costs.items c.args.table = search rules in
    rw same (same_costs (tables_of c.self.inside.tree) c.self.inside.network c.self.inside.names
    c.self.inside.costs.items c.self.invariant costs
    (subst (λ ts. AreRulesetCosts ts costs) (sym (ap (λ shown. shown.rules) c.self.view_is)) are) c.args.table)

pub returns-clause-none : goal.returns-clause-none
returns-clause-none c =
    let same : c.row.result.now ≡ numbers_at c.self.inside.costs.items c.args.table = search rules in
    rw (same, ← c.self.view_is) (no_costs (tables_of c.self.inside.tree) c.self.inside.network c.self.inside.names
    c.self.inside.costs.items c.self.invariant c.args.table)
