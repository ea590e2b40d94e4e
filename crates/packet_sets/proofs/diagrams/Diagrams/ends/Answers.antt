use Rattle.packet_sets.proofs.SetLaws.{all_means, none_means}
use Rattle.packet_sets.proofs.diagrams.Diagrams.ends.Goals as goal

pub returns-clause-none : goal.returns-clause-none
returns-clause-none c = none_means c.args.self.now c.sound.ensures

pub returns-clause-all : goal.returns-clause-all
returns-clause-all c = all_means c.args.self.now c.sound.ensures
