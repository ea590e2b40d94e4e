use Rattle.fact_sets.proofs.SetLaws.{keeps_trans}
use Rattle.ruleset_diff.proofs.Adding.{bits_all, bits_more, bits_none}
use Rattle.ruleset_diff.proofs.pieces.add_unlike_marks.Goals as goal

pub loop-place-init : goal.loop-place-init
loop-place-init c = bits_none c.args.diagrams.now c.args.set c.args.pieces.now.items

pub add_unlike_bit-requires-clause-set : goal.add_unlike_bit-requires-clause-set
add_unlike_bit-requires-clause-set c = c.loop-place.invariant.keeps.sets c.args.set c.requires.set

pub loop-place-preserved : goal.loop-place-preserved
loop-place-preserved c = bits_more c.args.diagrams.now c.loop-place.diagrams c.add_unlike_bit.new.diagrams c.args.set c.args.pieces.now.items
    c.loop-place.pieces.items c.add_unlike_bit.new.pieces.items c.loop-place.place c.loop-place-test.true c.requires.set c.loop-place.invariant
    c.add_unlike_bit.ensures.keeps c.in_ok-add_unlike_bit.ensures.adds

pub returns-clause-keeps : goal.returns-clause-keeps
returns-clause-keeps c = c.loop-place.invariant.keeps

pub returns-clause-adds : goal.returns-clause-adds
returns-clause-adds c = bits_all c.args.diagrams.now c.loop-place.diagrams c.args.set c.args.pieces.now.items c.loop-place.pieces.items c.loop-place.place
    c.loop-place-test.false c.loop-place.invariant

pub returns-in_err-add_unlike_bit-clause-keeps : goal.returns-in_err-add_unlike_bit-clause-keeps
returns-in_err-add_unlike_bit-clause-keeps c = keeps_trans c.args.diagrams.now c.loop-place.diagrams c.add_unlike_bit.new.diagrams c.loop-place.invariant.keeps c.add_unlike_bit.ensures.keeps
