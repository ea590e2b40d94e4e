use Rattle.packet_sets.proofs.SetLaws.{bit_means}
use Rattle.packet_sets.proofs.diagrams.Diagrams.bit.Goals as goal

pub returns-clause-value : goal.returns-clause-value
returns-clause-value c = bit_means c.args.self.now c.join.new.self c.args.bit c.in_ok-node.node c.sound.ensures c.in_ok-node.ensures.grows
    c.in_ok-node.ensures.joined
