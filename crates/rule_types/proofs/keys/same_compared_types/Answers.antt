use Rattle.std.proofs.Common.{◌≡◌, ◌<◌, ◌∙◌, sym, length, arith, add-one, true}
use Rattle.std.specs.List.{slice_get}
use Rattle.std.proofs.lemmas.List.{length-map}
use Rattle.nft_tree.specs.TreeViews.{set_type_tree}
use Rattle.nft_tree.specs.ComparedTypes.{key_compared_types, selector_compared_type}
use Rattle.rule_types.specs.steps.Keys.{part_is}
use Rattle.rule_types.proofs.Parts.{same_compared_types-part-same, same_compared_types-part-other, part_is-within}
use Rattle.rule_types.proofs.Parts.{same_compared_types-end, selector_compared_type-part}
use Rattle.rule_types.proofs.keys.same_compared_types.Goals as goal

pub loop-part-preserved : goal.loop-part-preserved
loop-part-preserved c =
    let same : part_is (slice_get (key_compared_types (set_type_tree c.args.key.now)) c.loop-part.part) c.kind.result
    ≡ true = sym c.part_is.ensures ∙ c.if-not-part_is.false in
    let within : c.loop-part.part < length (key_compared_types (set_type_tree c.args.key.now)) = part_is-within _ _ _ same in
    record {
      within = omega arith;
      left = c.loop-part.invariant.left ∙ rw add-one
          (same_compared_types-part-same _ _ c.loop-part.part c.kind.result
          (rw c.kind.ensures (selector_compared_type-part c.args.selectors.now c.loop-part.part _ c.loop-part-test.true)) same);
    }

pub returns-then-not-part_is : goal.returns-then-not-part_is
returns-then-not-part_is c =
    sym (c.loop-part.invariant.left ∙ same_compared_types-part-other _ _ c.loop-part.part c.kind.result
    (rw c.kind.ensures (selector_compared_type-part c.args.selectors.now c.loop-part.part _ c.loop-part-test.true))
    (sym c.part_is.ensures ∙ c.if-not-part_is.true))

pub returns : goal.returns
returns c =
    let all : length c.args.selectors.now ≡ c.loop-part.part = omega arith in
    rw (all, c.parts.ensures) (same_compared_types-end _ _ c.loop-part.part
    (length-map c.args.selectors.now selector_compared_type ∙ all) c.loop-part.invariant.within
    ∙ sym c.loop-part.invariant.left)
