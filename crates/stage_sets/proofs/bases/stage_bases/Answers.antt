use Rattle.std.proofs.Common.{List, map, rules, subst, ◌≡◌}
use Rattle.std.proofs.lemmas.Fn.{always_returns_same}
use Rattle.rule_meaning.specs.Hooks.{BaseChain, InOrder}
use Rattle.stage_sets.specs.declared.bases.Base.{Base}
use Rattle.stage_sets.specs.steps.Bases.{base_chain}
use Rattle.stage_sets.proofs.InStage.{in_order, key}
use Rattle.stage_sets.proofs.bases.stage_bases.Goals as goal

pub returns : goal.returns
returns c =
    let order : List Base = c.sort_by_key.new.self.items in
    let sorted = c.in_ok-sort_by_key.ensures in
    subst (λ (text : List BaseChain). InOrder text (map base_chain order)) c.in_ok-bases.ensures
    (in_order c.in_ok-bases.bases.items order sorted.permutation
    (sorted.sorted key (always_returns_same _ (λ a r. r ≡ key a.0.now) _ (λ a r f' called. search rules)))
    (sorted.stable key (always_returns_same _ (λ a r. r ≡ key a.0.now) _ (λ a r f' called. search rules))))
