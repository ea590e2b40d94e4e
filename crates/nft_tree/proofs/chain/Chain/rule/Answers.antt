use Rattle.std.proofs.Common.{◌-◌, map, arith}
use Rattle.std.proofs.lemmas.Option.{slice_get-map}
use Rattle.nft_tree.specs.TreeViews.{rule_tree}
use Rattle.nft_tree.proofs.Chains.{numbered_is_get, mapped_get}
use Rattle.nft_tree.proofs.chain.Chain.rule.Goals as goal

pub returns : goal.returns
returns c =
    let here = c.args.self.now.rules.items in
    let before = c.args.number - 1 in
    rw (
      numbered_is_get (map rule_tree here) c.args.number (omega (arith, c.if-number-eq0.false)),
      slice_get-map rule_tree here before,
    )
    (rw c.deref.ensures.value at (mapped_get rule_tree _ c.deref.result.now before c.get.result
    c.get.ensures.lookup.1 c.get.ensures.lookup.3))
