use Rattle.std.proofs.Common.{ap, arith, subst, sym, ◌∙◌}
use Rattle.packet_sets.specs.Sets.{meaning}
use Rattle.packet_sets.specs.steps.Walking.{IsAlong}
use Rattle.packet_sets.proofs.Walks.{meaning_none}
use Rattle.packet_sets.proofs.Examples.{along_end, along_first, high_read, low_read}
use Rattle.packet_sets.proofs.diagrams.Diagrams.example.Goals as goal

pub loop-at-init : goal.loop-at-init
loop-at-init c =
    let nodes = c.args.self.now.nodes in
    let n = c.args.set.node in
    subst (λ xs. IsAlong nodes n xs n) (sym c.new-bits.ensures.items) (along_first nodes n c.requires c.if-set-eq0.false)

pub loop-at-preserved-then-branch-eq0 : goal.loop-at-preserved-then-branch-eq0
loop-at-preserved-then-branch-eq0 c =
    high_read c.args.self.now.nodes c.args.set.node c.loop-at.at c.loop-at.bits.items c.push.new.self.items c.branch-branch.result c.sound.ensures
    c.loop-at-test.true c.loop-at.invariant
    c.branch-branch.ensures c.in_ok-push.ensures.items c.if-branch-eq0.true

pub loop-at-preserved : goal.loop-at-preserved
loop-at-preserved c =
    low_read c.args.self.now.nodes c.args.set.node c.loop-at.at c.loop-at.bits.items c.branch-branch.result c.sound.ensures c.loop-at-test.true
    c.loop-at.invariant
    c.branch-branch.ensures c.if-branch-eq0.false

pub returns-clause-some : goal.returns-clause-some
returns-clause-some c = along_end c.args.self.now.nodes c.args.set.node c.loop-at.at c.loop-at.bits.items c.sound.ensures (omega arith) c.loop-at.invariant

pub returns-then-set-eq0-clause-none : goal.returns-then-set-eq0-clause-none
returns-then-set-eq0-clause-none c = λ f. ap (λ x. meaning c.args.self.now.nodes x f) c.if-set-eq0.true ∙ meaning_none c.args.self.now.nodes f
