use Rattle.std.proofs.Common.{◌≡◌, ◌<◌, Some, arith}
use Rattle.std.specs.List.{sum_by}
use Rattle.nft_tree.specs.Tree as tree
use Rattle.nft_tree.specs.TreeViews.{chain_tree, rule_tree}
use Rattle.fault_nodes.specs.Nodes.{item_at}
use Rattle.fault_nodes.specs.Parts.{rule_parts}
use Rattle.fault_nodes.specs.steps.Spots.{IsSpot}
use Rattle.fault_nodes.proofs.Spots.{read_at, rest_small, spot_rest, spot_within}
use Rattle.fault_nodes.proofs.Places.{rule_here, rules_before}
use Rattle.fault_nodes.proofs.node_at.part_of_item.Goals as goal

pub part_of_rule-requires-clause-inside : goal.part_of_rule-requires-clause-inside
part_of_rule-requires-clause-inside c =
    let chain = chain_tree c.in-Chain.chain in
    let spot = c.locate-rule.result in
    let is : IsSpot rule_parts chain.rules c.args.before spot
    = rw c.deref.ensures.value at (c.locate-rule.ensures rule_parts (λ x n e. e)) in
    let within : c.args.before < sum_by rule_parts chain.rules = rw c.in-Chain.is at c.requires.inside in
    spot_rest rule_parts chain.rules c.args.before spot is (rule_tree c.index.result.now)
    (read_at rule_tree c.in-Chain.chain.rules.items spot.index c.index.result.now
    (spot_within rule_parts chain.rules c.args.before spot is within) c.index.ensures)

pub part_of_rule-requires-clause-small : goal.part_of_rule-requires-clause-small
part_of_rule-requires-clause-small c =
    let chain = chain_tree c.in-Chain.chain in
    let is : IsSpot rule_parts chain.rules c.args.before c.locate-rule.result
    = rw c.deref.ensures.value at (c.locate-rule.ensures rule_parts (λ x n e. e)) in
    rest_small rule_parts chain.rules c.args.before c.locate-rule.result is _ c.requires.small

pub returns-in-Chain-clause-there : goal.returns-in-Chain-clause-there
returns-in-Chain-clause-there c = λ tables here.
    let chain = chain_tree c.in-Chain.chain in
    let spot = c.locate-rule.result in
    let is : IsSpot rule_parts chain.rules c.args.before spot
    = rw c.deref.ensures.value at (c.locate-rule.ensures rule_parts (λ x n e. e)) in
    let within : c.args.before < sum_by rule_parts chain.rules = rw c.in-Chain.is at c.requires.inside in
    let found = read_at rule_tree c.in-Chain.chain.rules.items spot.index c.index.result.now
    (spot_within rule_parts chain.rules c.args.before spot is within) c.index.ensures in
    let is_chain : item_at tables c.args.table c.args.index ≡ Some (tree.chain chain) = rw c.in-Chain.is at here in
    c.part_of_rule.ensures.there tables
    (rule_here tables c.args.table c.args.index chain c.args.before spot is is_chain (rule_tree c.index.result.now) found)

pub returns-in-Chain-clause-position : goal.returns-in-Chain-clause-position
returns-in-Chain-clause-position c = λ tables here.
    let chain = chain_tree c.in-Chain.chain in
    let spot = c.locate-rule.result in
    let is : IsSpot rule_parts chain.rules c.args.before spot
    = rw c.deref.ensures.value at (c.locate-rule.ensures rule_parts (λ x n e. e)) in
    let within : c.args.before < sum_by rule_parts chain.rules = rw c.in-Chain.is at c.requires.inside in
    let found = read_at rule_tree c.in-Chain.chain.rules.items spot.index c.index.result.now
    (spot_within rule_parts chain.rules c.args.before spot is within) c.index.ensures in
    let is_chain : item_at tables c.args.table c.args.index ≡ Some (tree.chain chain) = rw c.in-Chain.is at here in
    let in_rule = c.part_of_rule.ensures.position tables
    (rule_here tables c.args.table c.args.index chain c.args.before spot is is_chain (rule_tree c.index.result.now) found) in
    omega (arith, in_rule, rules_before tables c.args.table c.args.index chain c.args.before spot is is_chain)
