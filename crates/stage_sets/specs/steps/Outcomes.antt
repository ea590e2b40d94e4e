-- What base chains make of packets.
use Rattle.std.specs.Prelude.{Bool, Option, Some, None}
use Rattle.nft_tree.specs.declared.chain.Policy.{Policy}
use Rattle.nft_tree.specs.declared.ruleset.RuleNo.{RuleNo}
use Rattle.rule_meaning.specs.declared.event.ChainNo.{ChainNo}
use Rattle.rule_meaning.specs.declared.event.HookVerdict.{HookVerdict}
use Rattle.rule_meaning.specs.declared.event.HookVerdict.TheVariants.{Accepted}
use Rattle.rule_meaning.specs.Hooks.{policy_verdict}
use Rattle.fact_sets.specs.declared.written.Written.{Written}
use Rattle.fact_sets.specs.Boxes.{NOTHING}
use Rattle.chain_ways.specs.BaseWays.{is_accepted}
use Rattle.chain_sets.specs.declared.outcomes.ChainEnd.{ChainEnd}
use Rattle.stage_sets.specs.declared.outcome.Decider.{Decider}
use Rattle.stage_sets.specs.declared.outcome.StageOutcome.{StageOutcome}

-- that of packets that come to no base chain
abbrev pub unchanged : StageOutcome
unchanged = record { verdict = Accepted; written = NOTHING; by = Decider.NoChain }

-- the policy applies where no rule gave a verdict
abbrev pub verdict_by : Policy → Option HookVerdict → HookVerdict
verdict_by policy None = policy_verdict policy
verdict_by policy (Some verdict) = verdict

-- the rule that gave a verdict
abbrev pub decider_of : Option RuleNo → Decider
decider_of None = Decider.NoChain
decider_of (Some rule) = Decider.Rule rule

abbrev pub decider_by : ChainNo → Option HookVerdict → Option RuleNo → Decider
decider_by number None rule = Decider.Policy number
decider_by number (Some verdict) rule = decider_of rule

abbrev pub outcome_at : ChainNo → Policy → ChainEnd → StageOutcome
outcome_at number policy e =
    record { verdict = verdict_by policy e.verdict; written = e.written; by = decider_by number e.verdict e.by }

-- what rules have written of packets that go on to the next base chain
abbrev pub goes_by : HookVerdict → Written → Option Written
goes_by Accepted written = Some written
goes_by verdict written = None

abbrev pub goes_on : StageOutcome → Option Written
goes_on o = goes_by o.verdict o.written

-- an outcome that no further base chain changes
abbrev pub stays_by : HookVerdict → StageOutcome → Option StageOutcome
stays_by Accepted o = None
stays_by verdict o = Some o

abbrev pub stays : StageOutcome → Option StageOutcome
stays o = stays_by o.verdict o

abbrev pub goes_accepted : StageOutcome → Bool
goes_accepted o = is_accepted o.verdict
