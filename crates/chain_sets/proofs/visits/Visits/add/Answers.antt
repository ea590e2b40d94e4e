use Rattle.std.proofs.Common.{subst, ◌||◌}
use Rattle.packet_sets.specs.Sets.{Means, holds}
use Rattle.rule_sets.proofs.Sorting.{keeps_trans}
use Rattle.chain_sets.specs.RuleSets.{sets_of}
use Rattle.chain_sets.proofs.Adding.{visits-added}
use Rattle.chain_sets.proofs.visits.Visits.add.Goals as goal

pub returns-in_err-met-clause-keeps : goal.returns-in_err-met-clause-keeps
returns-in_err-met-clause-keeps c = keeps_trans c.args.diagrams.now c.or.new.self c.or-2.new.self c.or.ensures.keeps c.or-2.ensures.keeps

pub returns-in_err-put-clause-keeps : goal.returns-in_err-put-clause-keeps
returns-in_err-put-clause-keeps c = keeps_trans c.args.diagrams.now c.or.new.self c.or-2.new.self c.or.ensures.keeps c.or-2.ensures.keeps

pub returns-clause-keeps : goal.returns-clause-keeps
returns-clause-keeps c = keeps_trans c.args.diagrams.now c.or.new.self c.or-2.new.self c.or.ensures.keeps c.or-2.ensures.keeps

pub returns-clause-adds : goal.returns-clause-adds
returns-clause-adds c =
    let d0 = c.args.diagrams.now in
    let d1 = c.or.new.self in
    let d2 = c.or-2.new.self in
    visits-added d0 d1 d2 c.args.rule.chain c.args.rule.rule c.args.more (record { reached = c.in_ok-reached.reached; met = c.in_ok-met.met })
    (sets_of c.args.self.now) (sets_of c.put.new.self) c.in_ok-put.ensures c.requires.sets c.requires.met c.or.ensures.keeps c.or-2.ensures.keeps
    (subst (λ s. Means d1 c.in_ok-reached.reached (λ f. holds d0 s.reached f || holds d0 c.args.more.reached f)) c.sets-sets.ensures
    c.in_ok-reached.ensures.value)
    (subst (λ s. Means d2 c.in_ok-met.met (λ f. holds d1 s.met f || holds d1 c.args.more.met f)) c.sets-sets.ensures c.in_ok-met.ensures.value)
