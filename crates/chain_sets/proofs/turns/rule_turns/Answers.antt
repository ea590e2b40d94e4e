use Rattle.std.proofs.Common.{arith, drop, get_or, map, subst, ◌+◌}
use Rattle.std.proofs.lemmas.List.{drop_all}
use Rattle.nft_tree.specs.TreeViews.{statement}
use Rattle.rule_meaning.specs.Runs.{table_program}
use Rattle.rule_sets.proofs.Deciding.{declared_kept, extends_trans}
use Rattle.rule_sets.proofs.Sorting.{are-kept, keeps_trans}
use Rattle.chain_sets.specs.RuleSets.{sets_of}
use Rattle.chain_sets.specs.steps.Merging.{Adds}
use Rattle.chain_sets.proofs.Cases.{are-at}
use Rattle.chain_sets.proofs.Exits.{any_state}
use Rattle.chain_sets.proofs.Packets.{packets-kept}
use Rattle.chain_sets.proofs.Passing.{turns_all, turns_more, turns_next}
use Rattle.chain_sets.proofs.turns.rule_turns.Goals as goal

pub state_turns-requires-clause-declared : goal.state_turns-requires-clause-declared
state_turns-requires-clause-declared c =
    declared_kept c.args.table.setting.network.now c.args.table.setting.names.now c.args.lookups.now c.loop-state.lookups c.loop-state.invariant.extends
    c.requires.declared

pub state_turns-requires-clause-state : goal.state_turns-requires-clause-state
state_turns-requires-clause-state c =
    c.loop-state.invariant.so_far.keeps.sets (get_or c.args.states.now c.loop-state.state-index any_state).set
    (are-at c.args.diagrams.now c.args.states.now c.loop-state.state-index any_state c.requires.states c.loop-state-test.true)

pub returns-in_err-more-clause-keeps : goal.returns-in_err-more-clause-keeps
returns-in_err-more-clause-keeps c =
    keeps_trans c.args.diagrams.now c.loop-state.diagrams c.state_turns.new.diagrams c.loop-state.invariant.so_far.keeps c.state_turns.ensures.keeps

pub add_cases-requires-clause-cases : goal.add_cases-requires-clause-cases
add_cases-requires-clause-cases c =
    are-kept c.loop-state.diagrams c.state_turns.new.diagrams c.loop-state.turns.items c.state_turns.ensures.keeps c.loop-state.invariant.so_far.are

pub returns-in_err-add_cases-clause-keeps : goal.returns-in_err-add_cases-clause-keeps
returns-in_err-add_cases-clause-keeps c =
    keeps_trans c.args.diagrams.now c.state_turns.new.diagrams c.add_cases.new.diagrams
    (keeps_trans c.args.diagrams.now c.loop-state.diagrams c.state_turns.new.diagrams c.loop-state.invariant.so_far.keeps c.state_turns.ensures.keeps)
    c.add_cases.ensures.keeps

pub loop-state-preserved : goal.loop-state-preserved
loop-state-preserved c =
    let i = c.loop-state.state-index in
    let all = c.args.states.now in
    let d0 = c.args.diagrams.now in
    let p = table_program c.args.table.setting.network.now c.args.rule.table c.args.table.setting.names.now in
    record {
      so_far = turns_more p c.args.rule.chain c.args.rule.rule (map statement c.args.stmts.now) c.args.table.interfaces.now d0 c.loop-state.diagrams
          c.state_turns.new.diagrams c.add_cases.new.diagrams (get_or all i any_state) (drop (i + 1) all) all c.loop-state.turns.items
          c.in_ok-more.more.items c.add_cases.new.cases.items (sets_of c.args.visits.now) (sets_of c.loop-state.visits)
          (sets_of c.state_turns.new.visits)
          (turns_next p c.args.rule.chain c.args.rule.rule (map statement c.args.stmts.now) c.args.table.interfaces.now d0 c.loop-state.diagrams all
          c.loop-state.turns.items (sets_of c.args.visits.now) (sets_of c.loop-state.visits) i any_state c.loop-state-test.true
          c.loop-state.invariant.so_far) c.state_turns.ensures.keeps c.in_ok-more.ensures.turns c.add_cases.ensures.keeps
          (subst (λ ts. Adds c.state_turns.new.diagrams c.add_cases.new.diagrams ts c.loop-state.turns.items c.add_cases.new.cases.items)
          c.deref.ensures.value c.in_ok-add_cases.ensures.adds);
      packets = c.in_ok-add_cases.ensures.packets (packets-kept c.loop-state.diagrams c.state_turns.new.diagrams c.loop-state.turns.items
          c.state_turns.ensures.keeps c.loop-state.invariant.so_far.are c.loop-state.invariant.packets);
      extends = extends_trans c.args.lookups.now c.loop-state.lookups c.state_turns.new.lookups c.loop-state.invariant.extends
          c.in_ok-more.ensures.extends;
    }

pub returns-clause-turns : goal.returns-clause-turns
returns-clause-turns c =
    turns_all (table_program c.args.table.setting.network.now c.args.rule.table c.args.table.setting.names.now) c.args.rule.chain c.args.rule.rule
    (map statement c.args.stmts.now) c.args.table.interfaces.now c.args.diagrams.now c.loop-state.diagrams
    (drop c.loop-state.state-index c.args.states.now) c.args.states.now c.loop-state.turns.items (sets_of c.args.visits.now) (sets_of c.loop-state.visits)
    (drop_all c.loop-state.state-index c.args.states.now (omega arith)) c.loop-state.invariant.so_far

pub returns-clause-packets : goal.returns-clause-packets
returns-clause-packets c = c.loop-state.invariant.packets
