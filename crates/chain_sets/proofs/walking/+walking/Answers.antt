use Rattle.std.proofs.Common.{ap, arith, drop, false, get_or, length, map, subst, sym, ◌+◌, ◌<◌, ◌≤◌, ◌≡◌, ◌∙◌}
use Rattle.std.specs.List.{list_any}
use Rattle.std.proofs.lemmas.List.{drop_all}
use Rattle.std.proofs.lemmas.List.Elements.{Contains-get_or}
use Rattle.std.proofs.lemmas.Result.{IfErr-weaker, IfOk-weaker}
use Rattle.nft_tree.specs.TreeViews.{rule_tree, statement}
use Rattle.rule_types.specs.Types.{rule_mismatches, statement_mismatches}
use Rattle.rule_values.specs.Faults.{statement_out_of_range}
use Rattle.rule_meaning.specs.Runs.{table_program}
use Rattle.fact_sets.specs.Cases.{AreCases}
use Rattle.fact_sets.specs.Facts.{facts_of}
use Rattle.rule_sets.proofs.Deciding.{declared_kept, extends_trans}
use Rattle.rule_sets.proofs.Sorting.{are-kept, keeps_trans}
use Rattle.chain_sets.specs.RuleSets.{sets_of}
use Rattle.chain_sets.specs.steps.Merging.{Adds, with_outcome}
use Rattle.chain_sets.specs.steps.Outcomes.{end_without, exit_behind}
use Rattle.chain_sets.specs.steps.Nesting.{RuleNests, SomeTurnNests}
use Rattle.chain_sets.specs.steps.Turns.{GoThrough}
use Rattle.chain_sets.specs.steps.Walking.{Pass, statements_in}
use Rattle.chain_sets.proofs.Cases.{are-at, are-mapped}
use Rattle.chain_sets.proofs.Exits.{any_turn, ends-are, ends_in, states_in}
use Rattle.chain_sets.proofs.Levels.{exits_more, exits_next, leaves_through, passes, rules_all, rules_more}
use Rattle.chain_sets.proofs.Nesting.{call_nests, chain_nests, never, none_left, passed_on, rule_nests}
use Rattle.chain_sets.proofs.TableRules.{bounds-free, none-at, program-rules, rule_out_of_range, statements-at, statements-long, types-free}
use Rattle.chain_sets.proofs.walking.+walking.Goals as goal

-- ---- one rule

pub pass_rule-rule_exits-requires : goal.pass_rule-rule_exits-requires
pass_rule-rule_exits-requires t c =
    let went = c.in_ok-turns.ensures.turns in (
      omega arith,
      (
        declared_kept c.args.table.setting.network.now c.args.table.setting.names.now c.args.lookups.now c.rule_turns.new.lookups
            c.in_ok-turns.ensures.extends c.requires.declared,
        (
          c.requires.types,
          (
            c.requires.bounds,
            (subst (AreCases c.rule_turns.new.diagrams) (sym c.deref.ensures.value) went.are, went.rules_are),
          ),
        ),
      ),
    )

pub pass_rule-returns-clause-value : goal.pass_rule-returns-clause-value
pass_rule-returns-clause-value t c =
    let network = c.args.table.setting.network.now in
    let names = c.args.table.setting.names.now in
    let rule = c.args.rule in
    let ss = map statement c.args.stmts.now in
    let d0 = c.args.diagrams.now in
    let d1 = c.rule_turns.new.diagrams in
    let before = sets_of c.args.visits.now in
    let middle = sets_of c.rule_turns.new.visits in
    let inside = c.args.table.interfaces.now in
    let goes = subst (λ m. GoThrough (table_program network m names) inside rule.chain rule.rule ss d0 d1 c.args.states.now c.deref.result.now before middle)
    c.requires.here (subst (λ ts. GoThrough (table_program network rule.table names) inside rule.chain rule.rule ss d0 d1 c.args.states.now ts before middle)
    (sym c.deref.ensures.value) c.in_ok-turns.ensures.turns) in
    IfOk-weaker c.rule_exits.result _ _ (λ exits leave. passes (table_program network c.args.table.number names) inside c.args.levels rule.chain rule.rule ss
    d0 d1 c.rule_exits.new.diagrams c.args.states.now c.deref.result.now exits.items before middle (sets_of c.rule_exits.new.visits) goes leave)
    c.rule_exits.ensures.value

pub pass_rule-returns-in_err-turns-clause-too_deep : goal.pass_rule-returns-in_err-turns-clause-too_deep
pass_rule-returns-in_err-turns-clause-too_deep t c = never _ c.from_residual.result _ c.from_residual.ensures.1

pub pass_rule-returns-clause-too_deep : goal.pass_rule-returns-clause-too_deep
pass_rule-returns-clause-too_deep t c =
    let network = c.args.table.setting.network.now in
    let names = c.args.table.setting.names.now in
    let rule = c.args.rule in
    let ss = map statement c.args.stmts.now in
    let d0 = c.args.diagrams.now in
    let d1 = c.rule_turns.new.diagrams in
    let before = sets_of c.args.visits.now in
    let middle = sets_of c.rule_turns.new.visits in
    let inside = c.args.table.interfaces.now in
    let turns = c.in_ok-turns.turns.items in
    let goes = subst (λ m. GoThrough (table_program network m names) inside rule.chain rule.rule ss d0 d1 c.args.states.now turns before middle)
    c.requires.here c.in_ok-turns.ensures.turns in
    IfErr-weaker c.rule_exits.result _ _ (λ e why deep. rule_nests (table_program network c.args.table.number names) inside c.args.levels rule.chain
    rule.rule ss d0 d1 c.args.states.now turns before middle goes c.in_ok-turns.ensures.packets
    (subst (SomeTurnNests (table_program network c.args.table.number names) c.args.levels) c.deref.ensures.value (why deep)))
    c.rule_exits.ensures.too_deep

-- ---- turn after turn

pub rule_exits-turn_exits-requires : goal.rule_exits-turn_exits-requires
rule_exits-turn_exits-requires t c =
    let inv = c.loop-turn.invariant in (
      omega arith,
      (
        declared_kept c.args.table.setting.network.now c.args.table.setting.names.now c.args.lookups.now c.loop-turn.lookups inv.extends
            c.requires.declared,
        (
          c.requires.types,
          (
            c.requires.bounds,
            (
              inv.so_far.keeps.sets (get_or c.args.turns.now c.loop-turn.turn-index any_turn).set
                  (are-at c.args.diagrams.now c.args.turns.now c.loop-turn.turn-index any_turn c.requires.turns c.loop-turn-test.true),
              inv.so_far.rules_are,
            ),
          ),
        ),
      ),
    )

pub rule_exits-returns-in_err-more-clause-keeps : goal.rule_exits-returns-in_err-more-clause-keeps
rule_exits-returns-in_err-more-clause-keeps t c =
    keeps_trans c.args.diagrams.now c.loop-turn.diagrams c.turn_exits.new.diagrams c.loop-turn.invariant.so_far.keeps c.turn_exits.ensures.keeps

pub rule_exits-add_cases-requires-clause-cases : goal.rule_exits-add_cases-requires-clause-cases
rule_exits-add_cases-requires-clause-cases t c =
    are-kept c.loop-turn.diagrams c.turn_exits.new.diagrams c.loop-turn.exits.items c.turn_exits.ensures.keeps c.loop-turn.invariant.so_far.are

pub rule_exits-returns-in_err-add_cases-clause-keeps : goal.rule_exits-returns-in_err-add_cases-clause-keeps
rule_exits-returns-in_err-add_cases-clause-keeps t c =
    keeps_trans c.args.diagrams.now c.turn_exits.new.diagrams c.add_cases.new.diagrams
    (keeps_trans c.args.diagrams.now c.loop-turn.diagrams c.turn_exits.new.diagrams c.loop-turn.invariant.so_far.keeps c.turn_exits.ensures.keeps)
    c.add_cases.ensures.keeps

pub rule_exits-loop-turn-preserved : goal.rule_exits-loop-turn-preserved
rule_exits-loop-turn-preserved t c =
    let i = c.loop-turn.turn-index in
    let all = c.args.turns.now in
    let d0 = c.args.diagrams.now in
    let p = table_program c.args.table.setting.network.now c.args.table.number c.args.table.setting.names.now in
    record {
      so_far = exits_more p c.args.table.interfaces.now c.args.levels d0 c.loop-turn.diagrams c.turn_exits.new.diagrams c.add_cases.new.diagrams
          (get_or all i any_turn) (drop (i + 1) all) all c.loop-turn.exits.items c.in_ok-more.more.items c.add_cases.new.cases.items
          (sets_of c.args.visits.now) (sets_of c.loop-turn.visits) (sets_of c.turn_exits.new.visits)
          (exits_next p c.args.table.interfaces.now c.args.levels d0 c.loop-turn.diagrams all c.loop-turn.exits.items (sets_of c.args.visits.now)
          (sets_of c.loop-turn.visits) i any_turn c.loop-turn-test.true c.loop-turn.invariant.so_far) c.turn_exits.ensures.keeps
          c.in_ok-more.ensures.value c.add_cases.ensures.keeps
          (subst (λ ts. Adds c.turn_exits.new.diagrams c.add_cases.new.diagrams ts c.loop-turn.exits.items c.add_cases.new.cases.items)
          c.deref.ensures.value c.in_ok-add_cases.ensures.adds);
      extends = extends_trans c.args.lookups.now c.loop-turn.lookups c.turn_exits.new.lookups c.loop-turn.invariant.extends
          c.in_ok-more.ensures.extends;
    }

pub rule_exits-returns-in_err-more-clause-too_deep : goal.rule_exits-returns-in_err-more-clause-too_deep
rule_exits-returns-in_err-more-clause-too_deep t c = passed_on c.from_residual.result _ (λ e same deep. record {
  turn = get_or c.args.turns.now c.loop-turn.turn-index any_turn;
  among = Contains-get_or c.args.turns.now c.loop-turn.turn-index any_turn c.loop-turn-test.true;
  nests = c.in_err-more.ensures.too_deep (sym same ∙ deep);
}) c.from_residual.ensures.1

pub rule_exits-returns-in_err-add_cases-clause-too_deep : goal.rule_exits-returns-in_err-add_cases-clause-too_deep
rule_exits-returns-in_err-add_cases-clause-too_deep t c = never _ c.from_residual-in_err-add_cases.result _ c.from_residual-in_err-add_cases.ensures.1

-- ---- one turn

pub turn_exits-returns-in_ok-behind-in-Through-clause-value : goal.turn_exits-returns-in_ok-behind-in-Through-clause-value
turn_exits-returns-in_ok-behind-in-Through-clause-value t c =
    leaves_through (table_program c.args.table.setting.network.now c.args.table.number c.args.table.setting.names.now) c.args.table.interfaces.now
    c.in-Through.is_jump c.args.levels c.in-Through.chain c.args.diagrams.now c.walk_chain.new.diagrams c.args.turn c.in_ok-ends-in-Through.ends.items
    c.in_ok-behind-in-Through.field-0.items (sets_of c.args.visits.now) (sets_of c.walk_chain.new.visits)
    (record { rule = c.args.rule; exit = c.rule_exit.result; by_verdict = c.rule_exit.ensures; is = sym c.in-Through.is ∙ c.course_of.ensures })
    c.in_ok-ends-in-Through.ensures.value (c.in_ok-behind-in-Through.ensures ∙ ap (map (with_outcome (exit_behind c.in-Through.is_jump))) c.deref.ensures.value)

pub turn_exits-returns-in_err-ends-in-Through-clause-too_deep : goal.turn_exits-returns-in_err-ends-in-Through-clause-too_deep
turn_exits-returns-in_err-ends-in-Through-clause-too_deep t c = passed_on c.from_residual-in_err-ends-in-Through.result _ (λ e same deep.
    call_nests (table_program c.args.table.setting.network.now c.args.table.number c.args.table.setting.names.now) c.args.levels c.in-Through.chain
    c.in-Through.is_jump c.args.turn.outcome (facts_of c.args.table.interfaces.now c.args.turn.outcome.written (λ n. false))
    (record { rule = c.args.rule; exit = c.rule_exit.result; by_verdict = c.rule_exit.ensures; is = sym c.in-Through.is ∙ c.course_of.ensures })
    (c.in_err-ends-in-Through.ensures.too_deep (sym same ∙ deep))) c.from_residual-in_err-ends-in-Through.ensures.1

-- ---- a chain

pub walk_chain-pass_rule-requires : goal.walk_chain-pass_rule-requires
walk_chain-pass_rule-requires t c =
    let inv = c.loop-index.invariant in
    let names = c.args.table.setting.names.now in
    let rules = c.rules_of-rules.result.now in
    let i = c.loop-index.index in
    let item = c.index-rules-index.result in
    let types : list_any (rule_mismatches names) (map rule_tree rules) ≡ false =
    ap (list_any (rule_mismatches names)) c.rules_of-rules.ensures ∙ types-free names c.args.chain c.requires.types in
    let bounds : list_any rule_out_of_range (map rule_tree rules) ≡ false =
    ap (list_any rule_out_of_range) c.rules_of-rules.ensures ∙ bounds-free names c.args.chain c.requires.bounds in (
      omega (arith, c.in-Some.ensures),
      (
        declared_kept c.args.table.setting.network.now names c.args.lookups.now c.loop-index.lookups inv.extends c.requires.declared,
        (
          c.requires.types,
          (
            c.requires.bounds,
            (
              ap (λ r. r.table) c.in_ok-number.ensures,
              (
                ap (λ ss. list_any (statement_mismatches names) (map statement ss)) c.deref.ensures.value
                    ∙ ap (λ r. rule_mismatches names (rule_tree r)) c.index-rules-index.is
                    ∙ none-at (rule_mismatches names) rule_tree rules i item c.loop-index-test.true types,
                (
                  ap (λ ss. list_any statement_out_of_range (map statement ss)) c.deref.ensures.value
                      ∙ ap (λ r. rule_out_of_range (rule_tree r)) c.index-rules-index.is
                      ∙ none-at rule_out_of_range rule_tree rules i item c.loop-index-test.true bounds,
                  (subst (AreCases c.loop-index.diagrams) (sym c.deref-in-loop-index.ensures.value) inv.so_far.are, inv.so_far.rules_are),
                ),
              ),
            ),
          ),
        ),
      ),
    )

pub walk_chain-returns-in_err-exits-clause-keeps : goal.walk_chain-returns-in_err-exits-clause-keeps
walk_chain-returns-in_err-exits-clause-keeps t c =
    keeps_trans c.args.diagrams.now c.loop-index.diagrams c.pass_rule.new.diagrams c.loop-index.invariant.so_far.keeps c.pass_rule.ensures.keeps

pub walk_chain-returns-in_err-chain_ends-clause-keeps : goal.walk_chain-returns-in_err-chain_ends-clause-keeps
walk_chain-returns-in_err-chain_ends-clause-keeps t c =
    keeps_trans c.args.diagrams.now c.loop-index.diagrams c.pass_rule.new.diagrams c.loop-index.invariant.so_far.keeps c.pass_rule.ensures.keeps

pub walk_chain-add_cases-requires-clause-more : goal.walk_chain-add_cases-requires-clause-more
walk_chain-add_cases-requires-clause-more t c =
    subst (AreCases c.pass_rule.new.diagrams)
    (sym (c.deref-in-loop-index-3.ensures.value ∙ c.in_ok-chain_ends.ensures ∙ ap ends_in c.deref-in-loop-index-2.ensures.value))
    (ends-are c.pass_rule.new.diagrams c.in_ok-exits.exits.items c.in_ok-exits.ensures.value.are)

pub walk_chain-add_cases-requires-clause-cases : goal.walk_chain-add_cases-requires-clause-cases
walk_chain-add_cases-requires-clause-cases t c =
    are-kept c.loop-index.diagrams c.pass_rule.new.diagrams c.loop-index.ends.items c.pass_rule.ensures.keeps c.loop-index.invariant.so_far.ends_are

pub walk_chain-returns-in_err-add_cases-clause-keeps : goal.walk_chain-returns-in_err-add_cases-clause-keeps
walk_chain-returns-in_err-add_cases-clause-keeps t c =
    keeps_trans c.args.diagrams.now c.pass_rule.new.diagrams c.add_cases.new.diagrams
    (keeps_trans c.args.diagrams.now c.loop-index.diagrams c.pass_rule.new.diagrams c.loop-index.invariant.so_far.keeps c.pass_rule.ensures.keeps)
    c.add_cases.ensures.keeps

pub walk_chain-returns-in_err-states-2-clause-keeps : goal.walk_chain-returns-in_err-states-2-clause-keeps
walk_chain-returns-in_err-states-2-clause-keeps t c =
    keeps_trans c.args.diagrams.now c.pass_rule.new.diagrams c.add_cases.new.diagrams
    (keeps_trans c.args.diagrams.now c.loop-index.diagrams c.pass_rule.new.diagrams c.loop-index.invariant.so_far.keeps c.pass_rule.ensures.keeps)
    c.add_cases.ensures.keeps

pub walk_chain-loop-index-preserved : goal.walk_chain-loop-index-preserved
walk_chain-loop-index-preserved t c =
    let p = table_program c.args.table.setting.network.now c.args.table.number c.args.table.setting.names.now in
    let inside = c.args.table.interfaces.now in
    let deeper = c.in-Some.deeper in
    let rules = c.rules_of-rules.result.now in
    let i = c.loop-index.index in
    let item = c.index-rules-index.result in
    let number = c.in_ok-number.number in
    let ss = map statement c.deref.result.now in
    let d = c.loop-index.diagrams in
    let d1 = c.pass_rule.new.diagrams in
    let now = sets_of c.loop-index.visits in
    let after = sets_of c.pass_rule.new.visits in
    let exits = c.in_ok-exits.exits.items in
    let long : length (statements_in (map rule_tree rules)) ≡ length rules = statements-long rule_tree rules in
    let within : i < length (statements_in (map rule_tree rules)) = omega (arith, long, c.loop-index-test.true) in
    record {
      so_far = rules_more p inside deeper c.args.chain c.args.diagrams.now d d1 c.add_cases.new.diagrams (statements_in (map rule_tree rules)) i
          number.rule ss c.args.states.now c.loop-index.states.items c.in_ok-states-2.states.items exits c.loop-index.ends.items
          c.deref-in-loop-index-3.result.now c.add_cases.new.cases.items (sets_of c.args.visits.now) now after c.loop-index.invariant.so_far within
          (statements-at rule_tree rules i item ss c.loop-index-test.true ∙ ap (λ r. (rule_tree r).statements) (sym c.index-rules-index.is)
          ∙ ap (map statement) (sym c.deref.ensures.value))
          (ap (λ r. r.rule) c.in_ok-number.ensures) c.pass_rule.ensures.keeps
          (subst (λ ch. Pass p inside deeper ch number.rule ss d d1 c.loop-index.states.items exits now after) (ap (λ r. r.chain) c.in_ok-number.ensures)
          (subst (λ sts. Pass p inside deeper number.chain number.rule ss d d1 sts exits now after) c.deref-in-loop-index.ensures.value
          c.in_ok-exits.ensures.value)) c.add_cases.ensures.keeps
          (c.deref-in-loop-index-3.ensures.value ∙ c.in_ok-chain_ends.ensures ∙ ap ends_in c.deref-in-loop-index-2.ensures.value)
          c.in_ok-add_cases.ensures.adds (c.in_ok-states-2.ensures ∙ ap states_in c.deref-in-loop-index-4.ensures.value);
      extends = extends_trans c.args.lookups.now c.loop-index.lookups c.pass_rule.new.lookups c.loop-index.invariant.extends
          c.in_ok-exits.ensures.extends;
    }

pub walk_chain-add_cases-requires-2-clause-more : goal.walk_chain-add_cases-requires-2-clause-more
walk_chain-add_cases-requires-2-clause-more t c =
    subst (AreCases c.loop-index.diagrams)
    (sym (c.deref-3.ensures.value ∙ c.in_ok-ended.ensures ∙ ap (map (with_outcome end_without)) c.deref-2.ensures.value))
    (are-mapped c.loop-index.diagrams end_without c.loop-index.states.items c.loop-index.invariant.so_far.are)

pub walk_chain-returns-in_err-add_cases-2-clause-keeps : goal.walk_chain-returns-in_err-add_cases-2-clause-keeps
walk_chain-returns-in_err-add_cases-2-clause-keeps t c =
    keeps_trans c.args.diagrams.now c.loop-index.diagrams c.add_cases-2.new.diagrams c.loop-index.invariant.so_far.keeps c.add_cases-2.ensures.keeps

pub walk_chain-returns-clause-keeps : goal.walk_chain-returns-clause-keeps
walk_chain-returns-clause-keeps t c =
    keeps_trans c.args.diagrams.now c.loop-index.diagrams c.add_cases-2.new.diagrams c.loop-index.invariant.so_far.keeps c.add_cases-2.ensures.keeps

pub walk_chain-returns-clause-value : goal.walk_chain-returns-clause-value
walk_chain-returns-clause-value t c =
    let network = c.args.table.setting.network.now in
    let names = c.args.table.setting.names.now in
    let rules = c.rules_of-rules.result.now in
    let i = c.loop-index.index in
    let rs = statements_in (map rule_tree rules) in
    let level : c.in-Some.deeper + 1 ≡ c.args.levels = omega (arith, c.in-Some.ensures) in
    let long : length rs ≡ length rules = statements-long rule_tree rules in
    let past : length rs ≤ i = omega (arith, long, c.loop-index-test.false) in
    rules_all (table_program network c.args.table.number names) c.args.table.interfaces.now c.args.levels c.in-Some.deeper c.args.chain
    c.args.diagrams.now c.loop-index.diagrams c.add_cases-2.new.diagrams rs i c.args.states.now c.loop-index.states.items c.loop-index.ends.items
    c.deref-3.result.now c.add_cases-2.new.cases.items (sets_of c.args.visits.now) (sets_of c.loop-index.visits) level
    (ap statements_in c.rules_of-rules.ensures ∙ program-rules network c.args.table.number names c.args.chain) (drop_all i rs past)
    c.loop-index.invariant.so_far c.add_cases-2.ensures.keeps
    (c.deref-3.ensures.value ∙ c.in_ok-ended.ensures ∙ ap (map (with_outcome end_without)) c.deref-2.ensures.value) c.in_ok-add_cases-2.ensures.adds

pub walk_chain-returns-in_err-exits-clause-too_deep : goal.walk_chain-returns-in_err-exits-clause-too_deep
walk_chain-returns-in_err-exits-clause-too_deep t c = passed_on c.from_residual-in_err-exits.result _ (λ e same deep.
    let network = c.args.table.setting.network.now in
    let names = c.args.table.setting.names.now in
    let p = table_program network c.args.table.number names in
    let rules = c.rules_of-rules.result.now in
    let rs = statements_in (map rule_tree rules) in
    let i = c.loop-index.index in
    let item = c.index-rules-index.result in
    let number = c.in_ok-number.number in
    let ss = map statement c.deref.result.now in
    let long : length rs ≡ length rules = statements-long rule_tree rules in
    let within : i < length rs = omega (arith, long, c.loop-index-test.true) in
    let level : c.in-Some.deeper + 1 ≡ c.args.levels = omega (arith, c.in-Some.ensures) in
    chain_nests p c.args.levels c.in-Some.deeper c.args.chain i number.rule rs ss level
    (ap statements_in c.rules_of-rules.ensures ∙ program-rules network c.args.table.number names c.args.chain) within
    (statements-at rule_tree rules i item ss c.loop-index-test.true ∙ ap (λ r. (rule_tree r).statements) (sym c.index-rules-index.is)
    ∙ ap (map statement) (sym c.deref.ensures.value))
    (ap (λ r. r.rule) c.in_ok-number.ensures)
    (subst (λ ch. RuleNests p c.in-Some.deeper ch number.rule ss) (ap (λ r. r.chain) c.in_ok-number.ensures)
    (c.in_err-exits.ensures.too_deep (sym same ∙ deep)))) c.from_residual-in_err-exits.ensures.1

pub walk_chain-returns-in_err-add_cases-clause-too_deep : goal.walk_chain-returns-in_err-add_cases-clause-too_deep
walk_chain-returns-in_err-add_cases-clause-too_deep t c = never _ c.from_residual-in_err-add_cases.result _ c.from_residual-in_err-add_cases.ensures.1

pub walk_chain-returns-in_err-add_cases-2-clause-too_deep : goal.walk_chain-returns-in_err-add_cases-2-clause-too_deep
walk_chain-returns-in_err-add_cases-2-clause-too_deep t c = never _ c.from_residual-in_err-add_cases-2.result _ c.from_residual-in_err-add_cases-2.ensures.1

pub walk_chain-returns-in_default-clause-too_deep : goal.walk_chain-returns-in_default-clause-too_deep
walk_chain-returns-in_default-clause-too_deep t c = λ deep. none_left _ c.args.levels c.args.chain c.in_default.ensures
