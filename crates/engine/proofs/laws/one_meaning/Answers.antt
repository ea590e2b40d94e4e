use Rattle.engine.proofs.Meanings.{one_meaning_of}
use Rattle.engine.proofs.laws.one_meaning.Goals as goal

pub returns : goal.returns
returns c = one_meaning_of c.readings.ensures c.one_entry.ensures.one
