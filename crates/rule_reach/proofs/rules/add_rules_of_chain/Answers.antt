use Rattle.std.proofs.Common.{◌<◌, arith, length}
use Rattle.std.proofs.Common.{append-nil}
use Rattle.std.proofs.lemmas.List.{drop_all, length-map}
use Rattle.nft_tree.specs.TreeViews.{chain_tree, rule_tree}
use Rattle.rule_reach.proofs.AllRules.{rule_more}
use Rattle.rule_reach.proofs.rules.add_rules_of_chain.Goals as goal

pub loop-place-preserved : goal.loop-place-preserved
loop-place-preserved c =
    let same = length-map c.args.chain.now.rules.items rule_tree in
    let inside : c.loop-place.place < length (chain_tree c.args.chain.now).rules = omega arith in
    rule_more c.args.table c.args.chain_number (chain_tree c.args.chain.now).rules c.loop-place.place c.in_ok-to_u32.field-0 c.loop-place.rules.items
    c.push.new.self.items _ inside c.in_ok-to_u32.ensures c.in_ok-push.ensures.items c.loop-place.invariant

pub returns : goal.returns
returns c =
    let same = length-map c.args.chain.now.rules.items rule_tree in
    rw (drop_all c.loop-place.place (chain_tree c.args.chain.now).rules (omega arith), append-nil) at c.loop-place.invariant
