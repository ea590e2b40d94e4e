use Rattle.std.proofs.Common.{sym, ap, subst, ◌∙◌}
use Rattle.std.specs.Prelude.{IfOk}
use Rattle.std.specs.List.Sorted.{IsNonDecreasing}
use Rattle.std.proofs.lemmas.List.{take_all}
use Rattle.search_levels.specs.Levels.{IsLevel}
use Rattle.set_intervals.specs.steps.Pieces.{highs}
use Rattle.set_intervals.proofs.PieceLaws.{highs_ascend, highs_more}
use Rattle.set_intervals.proofs.table.level_of.Goals as goal

pub loop-range-preserved : goal.loop-range-preserved
loop-range-preserved g c = rw (c.in_ok-push.ensures.items, c.loop-range.invariant, c.high.ensures)
    (highs_more c.args.pieces.now c.loop-range.range-index c.loop-range-item.result c.loop-range-test.true c.loop-range-item.is)

pub build-requires : goal.build-requires
build-requires g c =
    let pieces = c.args.pieces.now in
    let whole = c.deref.ensures.value ∙ c.loop-range.invariant ∙ ap highs (take_all c.loop-range.range-index pieces c.loop-range-test.false) in
    record { rising = subst IsNonDecreasing (sym whole) (highs_ascend pieces c.requires.separate) }

pub returns : goal.returns
returns g c =
    let whole = c.deref.ensures.value ∙ c.loop-range.invariant ∙ ap highs (take_all c.loop-range.range-index c.args.pieces.now c.loop-range-test.false) in
    subst (λ ns. IfOk c.build.result (λ level. IsLevel level ns)) whole c.build.ensures.level
