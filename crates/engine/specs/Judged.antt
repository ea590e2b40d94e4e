-- The result of checking a ruleset on a box before it is loaded (own).
use Rattle.std.specs.Prelude.{◌≡◌, ◌^◌, ◌-◌, ℕ, length, List, min}
use Rattle.rule_check.specs.Limits.{chain_count, rule_count}
use Rattle.rule_check.specs.WellFormed.{WellFormed}
use Rattle.engine.specs.declared.judging.Counts.{Counts}
use Rattle.engine.specs.declared.fault.RunFault.{RunFault}
use Rattle.engine.specs.declared.fault.RunFault.TheVariants.{Rules, Box, Memory}
use Rattle.engine.specs.Refusals.{IsFaulty, RefusesBox, Spelled}

-- the texts spell a ruleset and a box, the ruleset is well-formed on the box, and has so many tables,
-- chains and rules, saturating at 64 bits
pub record Judged (rules box : List ℕ) (counts : Counts) : Type 0 where
  pub texts : Spelled rules box
  pub well_formed : WellFormed texts.tables texts.network
  pub all_tables : counts.tables ≡ length texts.tables
  pub all_chains : counts.chains ≡ min (chain_count texts.tables) (2 ^ 64 - 1)
  pub all_rules : counts.rules ≡ min (rule_count texts.tables) (2 ^ 64 - 1)

-- the first refusal, of the rules' text, the box file and the ruleset on the box; or a failed allocation
abbrev pub JudgeRefuses : List ℕ → List ℕ → RunFault → Type 0
JudgeRefuses rules box (Rules fault) = IsFaulty rules box fault
JudgeRefuses rules box (Box fault) = RefusesBox rules box fault
JudgeRefuses rules box Memory = Unit {0}
JudgeRefuses rules box _ = ⊥
