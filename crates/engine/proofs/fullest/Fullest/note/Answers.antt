use Rattle.engine.proofs.FullestLaws.{kept, raised}
use Rattle.engine.proofs.fullest.Fullest.note.Goals as goal

pub returns-then-connections-self : goal.returns-then-connections-self
returns-then-connections-self c = λ setup e history was is last.
    raised setup e history c.args.self.now was c.args.connections is c.if-connections-self.true c.args.number last

pub returns-else-connections-self : goal.returns-else-connections-self
returns-else-connections-self c = λ setup e history was is last.
    kept setup e history c.args.self.now was c.args.connections is c.if-connections-self.false
