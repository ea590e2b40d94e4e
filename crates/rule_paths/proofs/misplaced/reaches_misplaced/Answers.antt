use Rattle.std.proofs.Common.{◌≡◌, true, false, ◌∙◌, arith, refl, sym, ap, below_more}
use Rattle.std.proofs.lemmas.List.{length-map}
use Rattle.nft_tree.specs.Tree.{ChainTree}
use Rattle.nft_tree.specs.TreeViews.{chain_tree}
use Rattle.rule_paths.specs.steps.Index.{may_not_translate}
use Rattle.rule_paths.proofs.ReadLaws.{chain-is}
use Rattle.rule_paths.proofs.misplaced.reaches_misplaced.Goals as goal
use Rattle.rule_paths.proofs.misplaced.reaches_misplaced.Goals.{else-reaching-index-via-then-reaching-index+else-may_not_translate}
use Rattle.rule_paths.proofs.misplaced.reaches_misplaced.Goals.{else-reaching-index-via-else-reaching-index}

pub returns-then-may_not_translate : goal.returns-then-may_not_translate
returns-then-may_not_translate c = (
  λ h. (
    chain_tree c.index-chains-index.result.now,
    (
      c.loop-index.index,
      omega (arith, length-map c.args.chains.now (λ c. chain_tree c.now)),
      chain-is c.args.chains.now c.loop-index.index c.index-chains-index.result (omega arith) c.index-chains-index.is _,
    ),
    sym c.may_not_translate.ensures ∙ c.if-may_not_translate.true,
    c.if-reaching-index.true,
  ),
  λ w. refl,
)

pub loop-index-preserved : goal.loop-index-preserved
loop-index-preserved c = elim c.else-reaching-index.branch [
  | else-reaching-index-via-then-reaching-index+else-may_not_translate w ↦ below_more _ _ c.loop-index.invariant
      (λ chain is no led.
      let same = chain-is c.args.chains.now c.loop-index.index c.index-chains-index.result (omega arith) c.index-chains-index.is chain in
      let q : true ≡ false = sym no ∙ ap (λ (x : ChainTree). may_not_translate c.args.kind x.head) (sym is ∙ same)
      ∙ sym w.may_not_translate.ensures ∙ w.if-may_not_translate.false in
      absurd cc)
  | else-reaching-index-via-else-reaching-index w ↦ below_more _ _ c.loop-index.invariant
      (λ chain is no led. let q : true ≡ false = sym led ∙ w.if-reaching-index.false in absurd cc)
]

pub returns : goal.returns
returns c = grind (arith, length-map)
