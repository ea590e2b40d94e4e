-- Where packets are behind a rule.
use Rattle.std.specs.Prelude.{Bool, true, false, Option, Some, None}
use Rattle.std.specs.Option.{option_map}
use Rattle.nft_tree.specs.declared.ruleset.RuleNo.{RuleNo}
use Rattle.rule_meaning.specs.declared.event.HookVerdict.{HookVerdict}
use Rattle.fact_sets.specs.declared.cases.Case.{Case}
use Rattle.fact_sets.specs.declared.written.Written.{Written}
use Rattle.rule_sets.specs.declared.ends.End.{End}
use Rattle.chain_ways.specs.declared.exits.RuleExit.{RuleExit}
use Rattle.chain_ways.specs.declared.exits.RuleExit.TheVariants as exits
use Rattle.chain_sets.specs.declared.outcomes.ChainEnd.{ChainEnd}
use Rattle.chain_sets.specs.declared.outcomes.Turn.{Turn}
use Rattle.chain_sets.specs.declared.outcomes.Course.{Course}
use Rattle.chain_sets.specs.declared.outcomes.Course.TheVariants.{To, Through}
use Rattle.chain_sets.specs.declared.outcomes.Exit.{Exit}
use Rattle.chain_sets.specs.declared.outcomes.Exit.TheVariants.{Next, Ends}

abbrev pub turn_at : End → Turn
turn_at e = record { verdict = e.verdict; written = e.written }

abbrev pub end_without : Written → ChainEnd
end_without written = record { verdict = None; written = written; by = None }

-- at a verdict of the rule
abbrev pub end_by : RuleNo → HookVerdict → Written → ChainEnd
end_by rule verdict written = record { verdict = Some verdict; written = written; by = Some rule }

-- behind a chain that ended so, which was jumped to, or else gone to
abbrev pub back_by : Option HookVerdict → ChainEnd → Exit
back_by None e = Next e.written
back_by (Some verdict) e = Ends e

abbrev pub exit_behind : Bool → ChainEnd → Exit
exit_behind true e = back_by e.verdict e
exit_behind false e = Ends e

abbrev pub written_next : Exit → Option Written
written_next (Next written) = Some written
written_next (Ends e) = None

abbrev pub end_in : Exit → Option ChainEnd
end_in (Next written) = None
end_in (Ends e) = Some e

-- a case, where its outcome has a part
abbrev pub case_if : {V W : Type 0} → (V → Option W) → Case V → Option (Case W)
case_if part c = option_map (λ w. record { set = c.set; outcome = w }) (part c.outcome)

-- what becomes of packets behind the rule
abbrev pub course_at : RuleNo → RuleExit → Written → Course
course_at rule exits.Next written = To (Next written)
course_at rule exits.End written = To (Ends (end_without written))
course_at rule (exits.Over verdict) written = To (Ends (end_by rule verdict written))
course_at rule (exits.Jump chain) written = Through chain true
course_at rule (exits.Goto chain) written = Through chain false
