use Rattle.chain_sets.specs.steps.Outcomes.{turn_at}
use Rattle.chain_sets.specs.steps.Merging.{with_outcome}
use Rattle.chain_sets.proofs.Exits.{any_rule_end, mapped_more}
use Rattle.chain_sets.proofs.outcomes.turns_of.Goals as goal

pub loop-end-preserved : goal.loop-end-preserved
loop-end-preserved c =
    mapped_more (with_outcome turn_at) c.args.ends.now c.loop-end.end-index any_rule_end c.loop-end.turns.items c.push.new.self.items c.loop-end-test.true
    c.loop-end.invariant c.in_ok-push.ensures.items
