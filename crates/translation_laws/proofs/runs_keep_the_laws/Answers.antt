use Rattle.translation_laws.proofs.Beginnings.{at_each_beginning}
use Rattle.translation_laws.proofs.runs_keep_the_laws.Goals as goal

pub returns-clause-whole : goal.returns-clause-whole
returns-clause-whole c = λ rules box capture trace count torn old new old_report new_report wrote.
    at_each_beginning wrote.meaning.accepted.setup (c.translation_laws.ensures.obeys wrote.meaning.accepted.setup) _
    wrote.meaning.history wrote.meaning.is_history

pub returns-clause-taken_so_far : goal.returns-clause-taken_so_far
returns-clause-taken_so_far c = λ rules box capture new left.
    at_each_beginning left.accepted.setup (c.translation_laws.ensures.obeys left.accepted.setup) _ left.history
    left.is_history
