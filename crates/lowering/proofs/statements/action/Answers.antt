use Rattle.lowering.proofs.Names.{None, Option, Some, VerdictTree, arith, give, option_and_then, option_map, refl, with_value, ℕ, ◌≡◌}
use Rattle.rule_meaning.specs.declared.event.RuleVerdict.{RuleVerdict}
use Rattle.lowering.proofs.statements.action.Goals as goal

-- a lookup in a table of what a map gives has the map's effect
looked_up : (f : VerdictTree → RuleVerdict) (read : Option ℕ) (has : ℕ → Option RuleVerdict) (gives : ℕ → Option VerdictTree)
    → ((n : ℕ) → has n ≡ option_map f (gives n))
    → with_value give (option_and_then has read) ≡ with_value (λ v. give (f v)) (option_and_then gives read)
looked_up f None has gives same = refl
looked_up f (Some n) has gives same = grind arith

pub returns-in_ok-verdict_map_index-in-VerdictMap-clause-effect : goal.returns-in_ok-verdict_map_index-in-VerdictMap-clause-effect
returns-in_ok-verdict_map_index-in-VerdictMap-clause-effect c = rw c.in-VerdictMap.is (λ later grown f.
    looked_up _ _ _ _ (c.in_ok-verdict_map_index-in-VerdictMap.ensures.gives later grown))
