use Rattle.std.proofs.Common.{subst, sym}
use Rattle.packet_sets.specs.Sets.{DiagramsView}
use Rattle.packet_sets.specs.steps.Operations.{IsRight}
use Rattle.packet_sets.proofs.diagrams.Diagrams.remember.Goals as goal

pub invariant_of-self-2 : goal.invariant_of-self-2
invariant_of-self-2 c =
    let at = c.self.inside.nodes.nodes in
    let is : IsRight c.args.self.now.nodes c.args.entry = record { left = c.requires.left; right = c.requires.right; result = c.requires.result } in
    let right : IsRight at c.args.entry = subst (λ (d : DiagramsView). IsRight d.nodes c.args.entry) (sym c.self.view_is) is in
    (c.self.invariant.0, c.keep.ensures at (c.grow.ensures at c.self.invariant.0 c.self.invariant.1) right)
