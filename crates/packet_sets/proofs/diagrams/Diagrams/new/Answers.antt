use Rattle.packet_sets.proofs.SetLaws.{all_means, none_means}
use Rattle.packet_sets.proofs.diagrams.Diagrams.new.Goals as goal

pub returns-clause-none : goal.returns-clause-none
returns-clause-none c = none_means c.in_ok-nodes.nodes c.in_ok-nodes.ensures.sound

pub returns-clause-all : goal.returns-clause-all
returns-clause-all c = all_means c.in_ok-nodes.nodes c.in_ok-nodes.ensures.sound
