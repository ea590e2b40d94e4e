use Rattle.rule_reach.proofs.Packets.{reach_more}
use Rattle.rule_reach.proofs.reaching.add_base.Goals as goal

pub returns : goal.returns
returns c = λ network tables bases b are was.
    reach_more network tables b c.args.diagrams.now c.args.sets.now are bases c.args.reach.now
    (record { rules = c.in_ok-reach.field-0; policies = c.push.new.self }) c.some_end-applies.result was
    (rw c.deref.ensures.value at c.in_ok-reach.ensures) (rw c.deref-2.ensures.value at c.some_end-applies.ensures) c.in_ok-push.ensures.items
