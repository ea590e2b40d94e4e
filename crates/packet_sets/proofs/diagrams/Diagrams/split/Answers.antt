use Rattle.packet_sets.proofs.Splits.{split_read}
use Rattle.packet_sets.proofs.diagrams.Diagrams.split.Goals as goal

pub returns-clause-parts : goal.returns-clause-parts
returns-clause-parts c = split_read c.args.self.now c.args.set c.branch-branch.result c.sound.ensures c.if-set-lt2.false c.requires c.branch-branch.ensures
