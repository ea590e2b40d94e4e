-- What is told of the rules and policies of a ruleset on a box (own).
use Rattle.std.specs.Prelude.{◌≡◌, Bool, true, false, List, map, filter, All}
use Rattle.std.specs.List.{list_all}
use Rattle.box_file.specs.Box.{PlantTree}
use Rattle.nft_tree.specs.Tree.{TableTree}
use Rattle.rule_reach.specs.declared.answers.Answer.{Answer}
use Rattle.rule_reach.specs.declared.answers.Answer.TheVariants.{Met}
use Rattle.rule_reach.specs.declared.answers.Reach.{Reach}
use Rattle.rule_reach.specs.declared.answers.RuleReach.{RuleReach}
use Rattle.rule_reach.specs.declared.answers.Unmet.{Unmet}
use Rattle.rule_reach.specs.Reach.{IsAnswer, IsPolicyReach, rules_of, run_chains}
use Rattle.rule_reach.specs.Takers.{IsUnmet, is_unmet}
use Rattle.reach_report.specs.declared.reporting.ReachReport.{ReachReport}
use Rattle.reach_report.specs.declared.told.ToldPolicy.{ToldPolicy}
use Rattle.reach_report.specs.declared.told.ToldRule.{ToldRule}
use Rattle.reach_report.specs.ReachLines.{reach_lines}
use Rattle.reach_report.specs.Told.{AreBelow, reasoned, with_reasons}

abbrev pub is_met : Answer → Bool
is_met Met = true
is_met _ = false

-- each rule can be met
abbrev pub are_met : List RuleReach → Bool
are_met answers = list_all (λ r. is_met r.answer) answers

module _ (network : PlantTree) (tables : List TableTree) where
  -- these are the answers for all rules and policies of the ruleset on the box
  pub record AreAnswers (reach : Reach) : Type 0 where
    pub of_rules : map (λ r. r.rule) reach.rules.items ≡ rules_of tables
    pub right : All (λ r. IsAnswer network tables (run_chains tables) r.rule r.answer) reach.rules.items
    pub of_policies : map (λ p. p.chain) reach.policies.items ≡ map (λ b. b.number) (run_chains tables)
    pub apply : All (IsPolicyReach network tables (run_chains tables)) reach.policies.items

  -- why each of the rules isn't met that isn't, by these answers
  pub record AreReasons (answers : List RuleReach) (unmet : List Unmet) : Type 0 where
    pub of_unmet : map (λ u. u.rule) unmet ≡ map (λ r. r.rule) (filter is_unmet answers)
    pub why : All (IsUnmet network tables (run_chains tables)) unmet

  -- the lines tell the answers, and why rules aren't met, with sets of packets below each, if they are wanted; by
  -- the answers each rule can be met or not
  pub record Reports (sets : Bool) (report : ReachReport) : Type 0 where
    pub reach : Reach
    pub unmet : List Unmet
    pub answers : AreAnswers reach
    pub reasons : AreReasons reach.rules.items unmet
    pub rule_texts : List ToldRule
    pub policy_texts : List ToldPolicy
    pub of_rules : map reasoned rule_texts ≡ with_reasons false reach.rules.items unmet
    pub of_policies : map (λ t. t.reach) policy_texts ≡ reach.policies.items
    pub below_rules : All (λ t. AreBelow sets t.below.items) rule_texts
    pub below_policies : All (λ t. AreBelow sets t.below.items) policy_texts
    pub told : report.lines.items ≡ reach_lines tables rule_texts policy_texts
    pub judged : report.is_met ≡ are_met reach.rules.items
