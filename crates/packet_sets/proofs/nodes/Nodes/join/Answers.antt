use Rattle.std.proofs.Common.{ap, arith}
use Rattle.packet_sets.proofs.Walks.{grows_pushed, joined_pushed, joined_read, may_join}
use Rattle.packet_sets.proofs.nodes.Nodes.join.Goals as goal

pub returns-in-Some-clause-joined : goal.returns-in-Some-clause-joined
returns-in-Some-clause-joined c =
    joined_read c.args.self.now.nodes c.self.inside.list.items c.deref.result.now c.args.bit c.args.low c.args.high c.in-Some.found (ap (λ d. d.nodes)
    c.self.view_is) c.deref.ensures.value
    c.self.invariant.0 c.in-Some.ensures.below c.in-Some.ensures.same

pub returns-in_err-add-clause-grows : goal.returns-in_err-add-clause-grows
returns-in_err-add-clause-grows c =
    grows_pushed c.args.self.now c.self.inside.list.items c.push.new.self.items c.self.inside.limit c.args.bit c.args.low c.args.high c.self.invariant.0
    c.self.view_is c.in_ok-push.ensures.items

pub returns-clause-grows : goal.returns-clause-grows
returns-clause-grows c =
    grows_pushed c.args.self.now c.self.inside.list.items c.push.new.self.items c.self.inside.limit c.args.bit c.args.low c.args.high c.self.invariant.0
    c.self.view_is c.in_ok-push.ensures.items

pub returns-clause-joined : goal.returns-clause-joined
returns-clause-joined c =
    let may = may_join c.args.self.now.nodes c.self.inside.list.items c.args.bit c.args.low c.args.high (ap (λ d. d.nodes) c.self.view_is)
    c.requires.bit c.requires.low c.requires.high c.requires.low_after c.requires.high_after c.if-low-high.false in
    joined_pushed c.self.inside.list.items c.push.new.self.items c.args.bit c.args.low c.args.high c.len-count.result c.self.invariant.0 may
    c.in_ok-push.ensures.items (omega (arith, c.len-count.ensures))
