use Rattle.fact_sets.proofs.SetLaws.{keeps_trans}
use Rattle.rule_reach.proofs.Taking.{come_here, end_here}
use Rattle.rule_reach.proofs.takers.at_base.Goals as goal

pub returns-in_err-end-clause-keeps : goal.returns-in_err-end-clause-keeps
returns-in_err-end-clause-keeps c = keeps_trans c.args.diagrams.now c.and.new.self c.without.new.self c.and.ensures.keeps c.without.ensures.keeps

pub returns-clause-keeps : goal.returns-clause-keeps
returns-clause-keeps c = keeps_trans c.args.diagrams.now c.and.new.self c.without.new.self c.and.ensures.keeps c.without.ensures.keeps

pub returns-clause-come : goal.returns-clause-come
returns-clause-come c = λ network tables b means are.
    come_here network tables b c.args.diagrams.now c.args.base.now are c.args.rule c.args.alone means c.args.number c.if-base-rule.false
    c.and.new.self c.without.new.self c.in_ok-come.come c.without.ensures.keeps
    (rw c.sets.ensures at c.in_ok-come.ensures.value) c.has_packet.result c.has_packet.ensures

pub returns-clause-end : goal.returns-clause-end
returns-clause-end c = λ network tables b means are.
    end_here network tables b c.args.diagrams.now c.args.base.now are c.args.rule c.args.alone means c.args.number c.if-base-rule.false
    c.and.new.self c.without.new.self c.in_ok-come.come c.in_ok-end.end c.and.ensures.keeps
    (rw c.sets.ensures at c.in_ok-come.ensures.value) (rw c.sets-2.ensures at c.in_ok-end.ensures.value) c.has_packet-2.result c.has_packet-2.ensures
