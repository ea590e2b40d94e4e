mod Preserved
mod HistoryObeys
use Rattle.std.proofs.Common.{arith}
use Rattle.std.proofs.Common.{[], refl}
use Rattle.translation_laws.proofs.translation_laws.Answers.HistoryObeys.{history_obeys, entries_follow}
use Rattle.translation_laws.proofs.translation_laws.Goals as goal

pub returns-clause-begins : goal.returns-clause-begins
returns-clause-begins c setup = record { records = []; is_history = refl }

pub returns-clause-entries : goal.returns-clause-entries
returns-clause-entries c = entries_follow

pub returns-clause-obeys : goal.returns-clause-obeys
returns-clause-obeys c = history_obeys c
