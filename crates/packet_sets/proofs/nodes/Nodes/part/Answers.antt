use Rattle.std.proofs.Common.{ap}
use Rattle.packet_sets.proofs.Walks.{part_own}
use Rattle.packet_sets.proofs.nodes.Nodes.part.Goals as goal

pub returns-then-branch-bit : goal.returns-then-branch-bit
returns-then-branch-bit c =
    part_own c.self.inside.list.items c.args.self.now.nodes c.args.node c.args.bit c.index-branch.result.now (ap (λ d. d.nodes) c.self.view_is)
    c.self.invariant.0
    c.requires.node c.requires.end c.index-branch.ensures c.if-branch-bit.true
