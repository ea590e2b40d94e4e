use Rattle.lowering.proofs.Names.{List, Named, None, PlantTree, [], arith, drop, drop_all, drop_more, join, length, length-drop, map, parts, refl, value_tree}
use Rattle.lowering.proofs.Names.{ℕ, ◌<◌, ◌∙◌, ◌∷◌, ◌≡◌}
use Rattle.nft_tree.specs.declared.selector.ValueType.TheVariants.{Address}
use Rattle.nft_tree.specs.declared.values.Value.{Value}
use Rattle.lowering.proofs.Remaining.{next}
use Rattle.lowering.proofs.Widths.{fits-below, fits-more, fits-start}
use Rattle.lowering.proofs.keys.concatenated.Goals as goal

pub loop-part-init : goal.loop-part-init
loop-part-init c = (fits-start c.args.kinds.now c.requires, refl)

pub appended-number-requires : goal.appended-number-requires
appended-number-requires c = rw c.low-next.ensures (fits-below _ _ (fits-more c.loop-part.number c.loop-part.part
    c.in_ok-value_numbers.field-0 c.args.kinds.now (Named Address) c.loop-part-test.true c.in_ok-value_numbers.ensures.fits
    c.loop-part.invariant.0))

pub loop-part-preserved : goal.loop-part-preserved
loop-part-preserved c =
    let value = c.in_ok-value.ensures.lookup in
    let kinds = drop_more c.args.kinds.now c.loop-part.part (Named Address) c.loop-part-test.true in
    let values = next c.args.values.now c.loop-part.part c.in_ok-value.value.now value.3.0 value.1 in
    rw (c.appended-number.ensures, c.low-next.ensures) (
      fits-more c.loop-part.number c.loop-part.part c.in_ok-value_numbers.field-0 c.args.kinds.now (Named Address)
          c.loop-part-test.true c.in_ok-value_numbers.ensures.fits c.loop-part.invariant.0,
      rw (kinds, values, ← c.in_ok-value_numbers.ensures.numbers) at c.loop-part.invariant.1,
    )

pub returns-in_err-value : goal.returns-in_err-value
returns-in_err-value c = c.from_residual.ensures ∙ (rw (
  drop_more c.args.kinds.now c.loop-part.part (Named Address) c.loop-part-test.true,
  drop_all c.loop-part.part c.args.values.now c.in_err-value.ensures.lookup.3,
) at c.loop-part.invariant.1)

-- values of no type
left_over : (network : PlantTree) (high : ℕ) (vs : List Value) → 0 < length vs → None ≡ join high (parts network [] (map value_tree vs))
left_over network high [] some = absurd (omega arith)
left_over network high (v ∷ vs) some = refl

pub returns-then-values-kinds : goal.returns-then-values-kinds
returns-then-values-kinds c =
    let i = c.loop-part.part in
    left_over c.args.network.now c.loop-part.number (drop i c.args.values.now) (omega (arith, length-drop i c.args.values.now))
    ∙ (rw (drop_all i c.args.kinds.now c.loop-part-test.false) at c.loop-part.invariant.1)
