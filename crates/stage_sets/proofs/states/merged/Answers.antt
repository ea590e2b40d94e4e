use Rattle.std.proofs.Common.{[], arith, drop, get_or, subst, sym, ◌+◌}
use Rattle.std.proofs.lemmas.List.{drop_all}
use Rattle.rule_sets.proofs.Sorting.{keeps_trans}
use Rattle.chain_sets.proofs.Cases.{AddsSoFar, are-at, so_far_all, so_far_more, so_far_next, so_far_none}
use Rattle.chain_sets.proofs.Exits.{any_state}
use Rattle.stage_sets.proofs.states.merged.Goals as goal

pub loop-part-init : goal.loop-part-init
loop-part-init c = subst (AddsSoFar c.args.diagrams.now c.args.diagrams.now c.args.parts.now c.args.parts.now []) (sym c.new-states.ensures.items)
    (so_far_none c.args.diagrams.now c.args.parts.now [] c.requires tt)

pub add_state-requires : goal.add_state-requires
add_state-requires c = record {
  set = c.loop-part.invariant.keeps.sets (get_or c.args.parts.now c.loop-part.part-index any_state).set
      (are-at c.args.diagrams.now c.args.parts.now c.loop-part.part-index any_state c.requires c.loop-part-test.true);
  states = c.loop-part.invariant.are;
}

pub returns-in_err-add_state-clause-keeps : goal.returns-in_err-add_state-clause-keeps
returns-in_err-add_state-clause-keeps c =
    keeps_trans c.args.diagrams.now c.loop-part.diagrams c.add_state.new.diagrams c.loop-part.invariant.keeps c.add_state.ensures.keeps

pub loop-part-preserved : goal.loop-part-preserved
loop-part-preserved c =
    let i = c.loop-part.part-index in
    let all = c.args.parts.now in
    so_far_more c.args.diagrams.now c.loop-part.diagrams c.add_state.new.diagrams (get_or all i any_state) (drop (i + 1) all) all []
    c.loop-part.states.items c.add_state.new.states.items
    (so_far_next c.args.diagrams.now c.loop-part.diagrams all [] c.loop-part.states.items i any_state c.loop-part-test.true c.loop-part.invariant)
    c.add_state.ensures.keeps c.in_ok-add_state.ensures.adds

pub returns-clause-value : goal.returns-clause-value
returns-clause-value c =
    so_far_all c.args.diagrams.now c.loop-part.diagrams (drop c.loop-part.part-index c.args.parts.now) c.args.parts.now []
    c.loop-part.states.items (drop_all c.loop-part.part-index c.args.parts.now (omega arith)) c.loop-part.invariant
