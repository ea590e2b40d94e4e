use Rattle.std.proofs.Common.{ap, arith, length, map, refl, suc, sym, ◌<◌, ◌∙◌, ◌≡◌}
use Rattle.std.proofs.lemmas.Bool.{ltb-true}
use Rattle.std.proofs.lemmas.Option.{slice_get_read}
use Rattle.nft_tree.specs.TreeViews.{chain_tree, rule_tree, statement}
use Rattle.chain_sets.specs.steps.Walking.{statements_in}
use Rattle.chain_sets.proofs.TableRules.{statements-at, statements-long}
use Rattle.rule_reach.proofs.Alone.{found_at}
use Rattle.rule_reach.proofs.AllRules.{chain_at}
use Rattle.rule_reach.proofs.takers.statements_of.Goals as goal

pub returns : goal.returns
returns c =
    let names = c.args.names.now in
    let index = c.in_ok-index.index in
    let rules = c.deref.result.now in
    let found = c.in_ok-found.found.now in
    let ss = map statement found.statements.items in
    let at = chain_at c.chains.result.now names c.args.rule.chain c.in_ok-chain.chain.now c.chains.ensures.all
    (ltb-true c.args.rule.chain (length c.chains.result.now) (sym c.in_ok-chain.ensures.lookup.0)) c.in_ok-chain.ensures.lookup.1 in
    let low = c.in_ok-index.ensures.0 in
    let less = c.in_ok-index.ensures.1 in
    let number : c.args.rule.rule ≡ suc index = omega (arith, low, less) in
    let under = ltb-true index (length rules) (sym c.in_ok-found.ensures.lookup.0) in
    let long = statements-long rule_tree rules in
    let inside : index < length (statements_in (map rule_tree rules)) = omega (arith, long, under) in
    let here = statements-at rule_tree rules index found ss under ∙ ap (λ r. (rule_tree r).statements) (sym c.in_ok-found.ensures.lookup.1) in
    let read = slice_get_read (statements_in (map rule_tree rules)) (length (statements_in (map rule_tree rules))) index ss refl inside (sym here) in
    rw c.deref-2.ensures.value (sym (found_at names c.args.rule (chain_tree c.in_ok-chain.chain.now.now) index ss at number
    (rw c.deref.ensures.value at read)))
