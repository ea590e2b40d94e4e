use Rattle.std.proofs.Common.{◌∙◌, ap, false}
use Rattle.reach_report.specs.Reports.{are_met}
use Rattle.reach_report.specs.ReachLines.{reach_lines}
use Rattle.reach_report.specs.Told.{with_reasons}
use Rattle.reach_report.proofs.reporting.told.Goals as goal

pub returns : goal.returns
returns c =
    let rules = c.in_ok-rule_texts.rule_texts in
    let policies = c.in_ok-policy_texts.policy_texts in
    record {
      reach = c.args.reach.now;
      unmet = c.args.unmet.now;
      answers = c.requires.answers;
      reasons = c.requires.reasons;
      rule_texts = rules.items;
      policy_texts = policies.items;
      of_rules = c.in_ok-rule_texts.ensures.reasons
          ∙ ap (λ answers. with_reasons false answers c.args.unmet.now) c.deref.ensures.value;
      of_policies = c.in_ok-policy_texts.ensures.reach ∙ c.deref-2.ensures.value;
      below_rules = c.in_ok-rule_texts.ensures.below;
      below_policies = c.in_ok-policy_texts.ensures.below;
      told = c.in_ok-lines_of.ensures
          ∙ ap (λ tables. reach_lines tables c.deref-3.result.now c.deref-4.result.now) c.tree-tree.ensures
          ∙ ap (λ rules. reach_lines c.args.checked.now.rules rules c.deref-4.result.now) c.deref-3.ensures.value
          ∙ ap (λ policies. reach_lines c.args.checked.now.rules rules.items policies) c.deref-4.ensures.value;
      judged = c.are_met.ensures ∙ ap are_met c.deref-5.ensures.value;
    }
