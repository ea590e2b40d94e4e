use Rattle.std.proofs.Common.{◌+◌, arith, drop, get_or, subst, sym}
use Rattle.std.proofs.lemmas.List.{drop_all}
use Rattle.nft_tree.specs.TreeViews.{statement}
use Rattle.rule_meaning.specs.Statements.{statement_effect}
use Rattle.lowering.specs.Lowered.{scope_of}
use Rattle.action_cases.specs.Effects.{Decides}
use Rattle.rule_sets.proofs.Advancing.{any_written, comes_all, comes_more, comes_next, sets_kept}
use Rattle.rule_sets.proofs.Deciding.{declared_kept, extends_trans}
use Rattle.rule_sets.proofs.Sorting.{keeps_trans}
use Rattle.rule_sets.proofs.progress.Progress.after.Goals as goal

pub statement_cases-requires-clause-declared : goal.statement_cases-requires-clause-declared
statement_cases-requires-clause-declared c =
    declared_kept c.args.place.setting.network.now c.args.place.setting.names.now c.args.lookups.now c.loop-state.lookups
    c.loop-state.invariant.extends c.requires.declared

pub sorted-requires-clause-set : goal.sorted-requires-clause-set
sorted-requires-clause-set c =
    let x = get_or c.deref-state-items.result.now c.loop-state.state-index any_written in
    let s = comes_next _ _ _ _ _ _ _ c.deref-state-items.result.now c.loop-state.state-index any_written c.loop-state-test.true
    c.loop-state.invariant.comes in
    c.statement_cases.ensures.keeps.sets x.set (s.walks.keeps.sets x.set s.left_are.0)

pub returns-in_err-parts-clause-keeps : goal.returns-in_err-parts-clause-keeps
returns-in_err-parts-clause-keeps c =
    keeps_trans c.args.diagrams.now c.statement_cases.new.diagrams c.sorted.new.diagrams (keeps_trans c.args.diagrams.now c.loop-state.diagrams
    c.statement_cases.new.diagrams c.loop-state.invariant.comes.walks.keeps c.statement_cases.ensures.keeps) c.sorted.ensures.keeps

pub add_parts-requires-clause-sets : goal.add_parts-requires-clause-sets
add_parts-requires-clause-sets c =
    sets_kept c.loop-state.diagrams c.sorted.new.diagrams c.loop-state.next (keeps_trans c.loop-state.diagrams c.statement_cases.new.diagrams
    c.sorted.new.diagrams c.statement_cases.ensures.keeps c.sorted.ensures.keeps) c.loop-state.invariant.comes.walks.sets

pub returns-in_err-add_parts-clause-keeps : goal.returns-in_err-add_parts-clause-keeps
returns-in_err-add_parts-clause-keeps c =
    keeps_trans c.args.diagrams.now c.sorted.new.diagrams c.add_parts.new.diagrams (keeps_trans c.args.diagrams.now c.statement_cases.new.diagrams
    c.sorted.new.diagrams (keeps_trans c.args.diagrams.now c.loop-state.diagrams c.statement_cases.new.diagrams
    c.loop-state.invariant.comes.walks.keeps c.statement_cases.ensures.keeps) c.sorted.ensures.keeps) c.add_parts.ensures.keeps

pub loop-state-preserved : goal.loop-state-preserved
loop-state-preserved c =
    let i = c.loop-state.state-index in
    let all = c.deref-state-items.result.now in
    let place = c.args.place in
    let effect = statement_effect (scope_of place.setting.network.now place.setting.names.now) place.position (statement place.stmt.now) in
    let x = get_or all i any_written in
    let s = comes_next _ _ _ _ _ _ _ all i any_written c.loop-state-test.true c.loop-state.invariant.comes in
    record {
      comes = comes_more c.args.diagrams.now c.loop-state.diagrams c.statement_cases.new.diagrams c.sorted.new.diagrams c.add_parts.new.diagrams
          place.reader place.last effect c.args.self c.loop-state.next c.add_parts.new.self x (drop (i + 1) all) c.deref.result.now
          c.in_ok-parts.parts s c.statement_cases.ensures.keeps c.sorted.ensures.keeps c.add_parts.ensures.keeps
          (subst (λ cs. Decides c.statement_cases.new.diagrams (record { interfaces = place.reader.interfaces; written = x.outcome }) cs effect)
          (sym c.deref.ensures.value) c.in_ok-cases.ensures.value) c.in_ok-parts.ensures.value c.in_ok-add_parts.ensures.passes;
      extends = extends_trans c.args.lookups.now c.loop-state.lookups c.statement_cases.new.lookups c.loop-state.invariant.extends
          c.in_ok-cases.ensures.extends;
      few = omega (arith, c.loop-state.invariant.few, c.in_ok-cases.ensures.few);
    }

pub returns-clause-value : goal.returns-clause-value
returns-clause-value c =
    comes_all _ _ _ _ _ _ _ (drop c.loop-state.state-index c.deref-state-items.result.now)
    (drop_all c.loop-state.state-index c.deref-state-items.result.now (omega arith)) c.loop-state.invariant.comes
