use Rattle.conntrack.proofs.Names.{YieldsList-from_slice, find_from_yields_List, rules, tests, ◌∙◌}
use Rattle.conntrack.proofs.list_tracker.find.Goals as goal

pub returns : goal.returns
returns c = c.copied.ensures ∙ find_from_yields_List _ _ _ c.find.result c.find.ensures.ran
    (YieldsList-from_slice c.args.conns.now cc) (λ x b q k. search (rules, tests))
