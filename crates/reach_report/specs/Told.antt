-- What is told of rules and policies: the reason of each rule that isn't met, and the text below a line (own).
use Rattle.std.specs.Prelude.{◌≡◌, ◌==◌, Bool, true, false, List, [], ◌∷◌, ◌++◌, Option, None, codes, drop, if◌then◌else◌}
use Rattle.std.specs.Prelude.{slice_get}
use Rattle.std.specs.List.{flat_map}
use Rattle.std.specs.Option.{option_map}
use Rattle.nft_tree.specs.Tree.{Text}
use Rattle.set_texts.specs.Indented.{AreIndented}
use Rattle.rule_reach.specs.declared.answers.Answer.{Answer}
use Rattle.rule_reach.specs.declared.answers.Answer.TheVariants.{Met, NotReached, NotMatched}
use Rattle.rule_reach.specs.declared.answers.RuleReach.{RuleReach}
use Rattle.rule_reach.specs.declared.answers.Unmet.{Unmet}
use Rattle.reach_report.specs.declared.told.ToldRule.{ToldRule}

-- of a rule with this answer, the first of these reasons, which are those of rules that aren't met
abbrev pub reason_at : Answer → List Unmet → Option Unmet
reason_at Met unmet = None
reason_at NotReached unmet = slice_get unmet 0
reason_at NotMatched unmet = slice_get unmet 0

-- those left for the rules behind it
abbrev pub reasons_behind : Answer → List Unmet → List Unmet
reasons_behind Met unmet = unmet
reasons_behind NotReached unmet = drop 1 unmet
reasons_behind NotMatched unmet = drop 1 unmet

abbrev pub is_reached : Answer → Bool
is_reached NotReached = false
is_reached _ = true

-- packets come to the rule's chain: those that come to its first rule, behind which the others stand
abbrev pub comes_by : Bool → RuleReach → Bool
comes_by before r = if r.rule.rule == 1 then is_reached r.answer else before

-- a rule, why it isn't met, where it isn't, and whether packets come to its chain
pub record Reasoned : Type 0 where
  pub reach : RuleReach
  pub unmet : Option Unmet
  pub comes : Bool

-- rules, each that isn't met with the next of these reasons
abbrev pub with_reasons : Bool → List RuleReach → List Unmet → List Reasoned
with_reasons before [] unmet = []
with_reasons before (r ∷ rs) unmet =
    record { reach = r; unmet = reason_at r.answer unmet; comes = comes_by before r }
    ∷ with_reasons (comes_by before r) rs (reasons_behind r.answer unmet)

abbrev pub reasoned : ToldRule → Reasoned
reasoned t = record { reach = t.reach; unmet = option_map (λ u. u.now) t.unmet; comes = t.comes }

-- below a line there are lines behind two blanks where sets are wanted, or else none
abbrev pub AreBelow : Bool → Text → Type 0
AreBelow true text = AreIndented text
AreBelow false text = text ≡ []
