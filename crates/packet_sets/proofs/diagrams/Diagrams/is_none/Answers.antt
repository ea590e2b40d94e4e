use Rattle.packet_sets.proofs.Examples.{never, sometimes}
use Rattle.packet_sets.proofs.diagrams.Diagrams.is_none.Goals as goal

pub returns-clause-none : goal.returns-clause-none
returns-clause-none c = never c.args.self.now.nodes c.args.set.node

pub returns-clause-some : goal.returns-clause-some
returns-clause-some c = sometimes c.args.self.now.nodes c.args.set.node c.sound.ensures c.requires
