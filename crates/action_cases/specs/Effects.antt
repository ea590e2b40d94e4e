-- What an action does, as sets: cases, of which the first one that has a packet tells what the action does with
-- it; with a packet of none of them it fails. (own)
use Rattle.std.specs.Prelude.{◌≡◌, ℕ, Bool, true, List}
use Rattle.packet_sets.specs.Sets.{DiagramsView}
use Rattle.nft_tree.specs.declared.statement.MarkField.TheVariants as marks
use Rattle.rule_meaning.specs.declared.facts.Facts.{Facts}
use Rattle.rule_meaning.specs.declared.event.Event.TheVariants.{Counted, Logged}
use Rattle.rule_meaning.specs.Statements.{StatementEffect, pass, fail, note, give, with_value, writes, sets_notrack}
use Rattle.fact_sets.specs.declared.readings.Reader.{Reader}
use Rattle.fact_sets.specs.declared.cases.Case.{Case}
use Rattle.fact_sets.specs.declared.written.Written.{Written}
use Rattle.fact_sets.specs.Cases.{AreCases, picked, seen}
use Rattle.fact_sets.specs.Facts.{mark_number}
use Rattle.action_cases.specs.declared.cases.Outcome.{Outcome}
use Rattle.action_cases.specs.declared.cases.Outcome.TheVariants as outcomes

abbrev pub outcome_effect : Reader → Outcome → (ℕ → Bool) → StatementEffect
outcome_effect reader outcomes.Passes packet = pass
outcome_effect reader (outcomes.Counts position) packet = note (Counted position) (seen reader packet)
outcome_effect reader (outcomes.Logs position) packet = note (Logged position) (seen reader packet)
outcome_effect reader outcomes.Untracks packet = sets_notrack (seen reader packet) (seen reader packet).ct
outcome_effect reader (outcomes.Marks field source) packet =
    writes field (seen reader packet) (mark_number source packet)
outcome_effect reader (outcomes.Gives verdict) packet = give verdict

-- the cases do with each packet what the effect is
pub record Decides (d : DiagramsView) (reader : Reader) (cases : List (Case Outcome))
    (effect : Facts → StatementEffect) : Type 0 where
  pub are : AreCases d cases
  pub same : (packet : ℕ → Bool)
      → with_value (λ o. outcome_effect reader o packet) (picked d cases packet) ≡ effect (seen reader packet)

-- ---- what actions write

-- what rules have written after an action
abbrev pub written_after : Outcome → Written → Written
written_after (outcomes.Marks marks.Meta source) w = record w { packet = source }
written_after (outcomes.Marks marks.Ct source) w = record w { connection = source }
written_after outcomes.Untracks w = record w { untracked = true }
written_after _ w = w

-- where an action goes on, it leaves these facts
abbrev pub Leaves : StatementEffect → Facts → Facts → Type 0
Leaves pass before after = before ≡ after
Leaves (note event facts) before after = facts ≡ after
Leaves fail before after = Unit {0}
Leaves (give verdict) before after = Unit {0}
