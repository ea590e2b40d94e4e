use Rattle.std.proofs.Common.{refl}
use Rattle.std.proofs.lemmas.Result.{IfOk-weaker}
use Rattle.token_reader.specs.Readers.{Anything}
use Rattle.token_reader.specs.steps.Lawful.{reads_from}
use Rattle.nft_tree.specs.TreeViews.{rule_tree}
use Rattle.nft_rules.specs.Rules.{ended_rule}
use Rattle.nft_rules.specs.steps.Laws.{lawful_rule}
use Rattle.nft_rules.proofs.rules.rule.Goals as goal

pub returns-clause-found : goal.returns-clause-found
unfolding ended_rule
returns-clause-found c = IfOk-weaker c.read_ended_rule.result
    _ _ (λ o e. (reads_from lawful_rule Anything (λ ts e. refl) rule_tree c.args.tokens.now c.args.at o
    e).found) c.read_ended_rule.ensures

pub returns-clause-only : goal.returns-clause-only
unfolding ended_rule
returns-clause-only c = λ r to spelled.
    IfOk-weaker c.read_ended_rule.result _ _ (λ o e.
    (reads_from lawful_rule Anything (λ ts e. refl) rule_tree c.args.tokens.now c.args.at o e).only r to
    spelled tt) c.read_ended_rule.ensures
