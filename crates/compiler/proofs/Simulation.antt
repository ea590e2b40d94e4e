-- The machine simulates the rules, by code without the rules that never match: it has their result, in at most as many
-- statements as the rules weigh.
use Rattle.compiler.proofs.Names.{AllZip-left, AreLeft, BaseChain, Code, Contains, Contains-tail, Continuation, Facts, FailsAt, HookResult, IsCode, IsRanking}
use Rattle.compiler.proofs.Names.{IsSomeAnd, IsStatementOf, IsTableCode, LeadsTo, LeavesOut, LeavesOutOf, List, MatchOption-at_some, None, Option, PlantTree}
use Rattle.compiler.proofs.Names.{RulesAt, RunsBaseChain, Some, Start, StartHead, Statement, StatementEffect, StatementsAt, Stop, TableCode, TableTree, []}
use Rattle.compiler.proofs.Names.{add-zero, ap, apply_effect, arith, base_chain_head, base_chain_result, chains_of, enter_chain, exec, fail, give, goes_on, inl}
use Rattle.compiler.proofs.Names.{inr, left_program, length, policy_of, refl, return_from, rules_in, run_table, slice_get, some_of_map, start_head, stop, subst}
use Rattle.compiler.proofs.Names.{suc, sum_by, sum_by-cons, sym, with_policy, zero, ℕ, ◌+◌, ◌-◌, ◌↔◌, ◌∙◌, ◌∷◌, ◌≡◌, ◌≤◌}
use Rattle.list_laws.specs.Lists.{Contains-head}
use Rattle.lowering.specs.Lowered.{scope_of}
use Rattle.rule_code.specs.Actions.{action_effect, statement_at}
use Rattle.rule_code.specs.declared.code.Instruction.{Instruction}
use Rattle.rule_meaning.specs.Runs.{IsTerminal, Program, Remainder, RunResult, Runs, accepts, at_end, at_rule, chain_ends, continues, drops, fails, goes}
use Rattle.rule_meaning.specs.Runs.{in_rule, jumps, jumps_away, next_rule, notes, over, passes, returns, rule_ends, rule_no, statement_position, table_program}
use Rattle.rule_meaning.specs.Runs.{translates, with_verdict}
use Rattle.rule_meaning.specs.declared.event.Event.{Event}
use Rattle.rule_meaning.specs.declared.event.RuleVerdict.TheVariants.{Goto, Jump}
use Rattle.compiler.proofs.LeftLaws.{leaves-of}

-- ---- what the machine does from an offset on: the end of a chain takes no tick, and a statement one

-- what follows: after the end of a chain execution returns
abbrev pub finish : Continuation → List ℕ → RunResult → ℕ → Stop
finish go stack (at_end f es) ticks = return_from go stack f es ticks
finish go stack (over verdict f es) ticks = stop (over verdict f es) ticks

-- without a return offset the code stops
pub finish-last : (go : Continuation) (o : RunResult) (ticks : ℕ) → (finish go [] o ticks).after ≡ o
finish-last go (at_end f es) ticks = refl
finish-last go (over verdict f es) ticks = refl

module _ (t : TableCode) where
  -- this has the result in at most so many statements: with enough fuel it goes on with what is left of that
  pub record Does (most : ℕ) (doing : Continuation → ℕ → Stop) (stack : List ℕ) (o : RunResult) : Type 0 where
    pub goes : (fuel before : ℕ) → most ≤ fuel
        → (left : ℕ) × (after : ℕ) × (fuel ≤ left + most) × (doing (exec t fuel) before ≡ finish (exec t left) stack o after)

  -- the same for an equal continuation and a higher limit
  does-as : {doing doing' : Continuation → ℕ → Stop} {stack : List ℕ} {o : RunResult} (less most : ℕ) → less ≤ most
      → ((go : Continuation) (before : ℕ) → doing' go before ≡ doing go before) → Does less doing stack o → Does most doing' stack o
  does-as less most fits is d = record {
    goes = λ fuel before enough. let x = d.goes fuel before (omega arith) in (x.0, x.1, omega (arith, x.2), is (exec t fuel) before ∙ x.3);
  }

  -- what needs no more statement
  does-now : {doing : Continuation → ℕ → Stop} {stack : List ℕ} {o : RunResult} (most : ℕ)
      → ((n before : ℕ) → doing (exec t n) before ≡ finish (exec t n) stack o before) → Does most doing stack o
  does-now most is = record { goes = λ fuel before enough. (fuel, before, omega arith, is fuel before) }

  -- a verdict in a called chain is one of the caller
  does-over : {doing : Continuation → ℕ → Stop} {stack stack' : List ℕ} (most : ℕ) (o : RunResult)
      → IsTerminal o → Does most doing stack o → Does most doing stack' o
  does-over most (at_end f es) is d = absurd is
  does-over most (over verdict f es) is d = record { goes = d.goes }

  -- after the end of a called chain execution returns
  does-then : {doing : Continuation → ℕ → Stop} {stack : List ℕ} {g : Facts} {later : List Event}
      {o : RunResult} (first second back : ℕ) → Does first doing (back ∷ stack) (at_end g later)
      → Does second (λ go. go back stack g later) stack o → Does (first + second) doing stack o
  does-then first second back a b = record {
    goes = λ fuel before enough.
        let x = a.goes fuel before (omega arith) in
        let y = b.goes x.0 x.1 (omega (arith, x.2)) in
        (y.0, y.1, omega (arith, x.2, y.2), x.3 ∙ y.3);
  }

  -- ---- steps

  -- the end of a chain takes no statement
  exec-end : (fuel at_step : ℕ) (stack : List ℕ) (f : Facts) (es : List Event) (ticks : ℕ) → statement_at (slice_get t.steps.items at_step) ≡ None
      → exec t fuel at_step stack f es ticks ≡ return_from (exec t fuel) stack f es ticks
  exec-end zero at_step [] f es ticks is = rw is
  exec-end (suc n) at_step [] f es ticks is = rw is
  exec-end zero at_step (q ∷ qs) f es ticks is = rw is
  exec-end (suc n) at_step (q ∷ qs) f es ticks is = rw is

  pub does-end : (at_step : ℕ) (stack : List ℕ) (f : Facts) (es : List Event)
      → statement_at (slice_get t.steps.items at_step) ≡ None → Does 0 (λ go. go at_step stack f es) stack (at_end f es)
  does-end at_step stack f es is = does-now 0 (λ n before. exec-end n at_step stack f es before is)

  pub exec-step : (n at_step : ℕ) (stack : List ℕ) (f : Facts) (es : List Event) (ticks : ℕ) (i : Instruction)
      → statement_at (slice_get t.steps.items at_step) ≡ Some i → exec t (suc n) at_step stack f es ticks ≡ apply_effect t.chain_offsets.items i.rule
      (action_effect t.lookups i.action f) at_step i.skip (exec t n) stack f es (ticks + 1)
  exec-step n at_step [] f es ticks i is = rw is
  exec-step n at_step (q ∷ qs) f es ticks i is = rw is

-- ---- the machine simulates the rules

module _ {S : Type 0} (p : Program S) (left_at : ℕ → Option (List (List S))) (t : TableCode) (weight : S → ℕ) (cost depth : ℕ → ℕ) where
  -- what is left of the program
  abbrev pub remains : Program S
  remains = record { table = p.table; rules_at = left_at; effect_of = p.effect_of }

  -- these statements, these rules belong to the chain
  abbrev pub AllIn : ℕ → List S → Type 0
  AllIn c ss = (s : S) → Contains ss s → IsStatementOf p c s

  -- what the statements of these rules weigh
  abbrev pub rules_weigh : List (List S) → ℕ
  rules_weigh = sum_by (sum_by weight)

  -- a packet gets to these rules of a chain, and the code of what is left of them begins at the offset
  pub record AtRules (c n : ℕ) (rs : List (List S)) (f : Facts) (at_step : ℕ) (stack : List ℕ) : Type 0 where
    pub left : List (List S)
    pub out : LeavesOut p f c n rs left
    pub code : RulesAt remains t at_step c n left
    pub inside : (r : List S) → Contains rs r → AllIn c r
    pub room : length stack + depth c ≤ 16

  -- it gets to these statements of a rule, which is left
  pub record AtStatements (c n k : ℕ) (ss : List S) (rs : List (List S)) (f : Facts) (at_step : ℕ) (stack : List ℕ) : Type 0 where
    pub to : (g : Facts) → LeadsTo p c n k ss f g → AtRules c (n + 1) rs g (at_step + length ss) stack
    pub statements : StatementsAt remains t at_step c n k ss
    pub own : AllIn c ss
    pub room : length stack + depth c ≤ 16

  -- the code of the rest of a chain has the result of the rest, also where the rule is left out
  abbrev pub Follows : ℕ → ℕ → Remainder S → Facts → List Event → RunResult → Type 0
  Follows c n (at_rule rs) f es o = (at_step : ℕ) (stack : List ℕ) → AtRules c n rs f at_step stack
      → Does t (rules_weigh rs) (λ go. go at_step stack f es) stack o
  Follows c n (in_rule k ss rs) f es o = ((at_step : ℕ) (stack : List ℕ) → AtStatements c n k ss rs f at_step stack
      → Does t (sum_by weight ss + rules_weigh rs) (λ go. go at_step stack f es) stack o)
      × (FailsAt p c n k ss f → (at_step : ℕ) (stack : List ℕ) → AtRules c (n + 1) rs f at_step stack
      → Does t (sum_by weight ss + rules_weigh rs) (λ go. go at_step stack f es) stack o)

  -- statement k, with this effect, after which so many follow
  abbrev Doing : ℕ → ℕ → StatementEffect → ℕ → ℕ → List ℕ → Facts → List Event → Continuation → ℕ → Stop
  Doing c n w at_step left stack f es go = apply_effect t.chain_offsets.items (rule_no p c n) w at_step left go stack f es

  -- a statement, by its effect, and what follows it
  first : {c n k : ℕ} {s : S} {w : StatementEffect} {stack : List ℕ} {f : Facts} {es : List Event} {o : RunResult} (ss : List S) (rs : List (List S))
      (less at_step : ℕ) → suc less ≤ weight s + sum_by weight ss + rules_weigh rs → AtStatements c n k (s ∷ ss) rs f at_step stack
      → p.effect_of (statement_position p c n k) s f ≡ w → Does t less (Doing c n w at_step (length ss) stack f es) stack o
      → Does t (sum_by weight (s ∷ ss) + rules_weigh rs) (λ go. go at_step stack f es) stack o
  first {c} {n} {s = s} {w = w} {stack = stack} {f = f} {es = es} ss rs less at_step fits h effect_of d = record {
    goes = λ fuel before enough.
        let i = h.statements.0.0 in
        let is = h.statements.0.2 in
        let both = sum_by-cons weight s ss in
        let m = fuel - 1 in
        let one : fuel ≡ suc m = omega arith in
        let x = d.goes m (before + 1) (omega arith) in
        let done : apply_effect t.chain_offsets.items i.rule (action_effect t.lookups i.action f) at_step i.skip (exec t m) stack f es (before + 1)
        ≡ Doing c n w at_step (length ss) stack f es (exec t m) (before + 1) = rw (is.rule, is.skip, is.effect f, effect_of) in
        let begun = ap (λ k. exec t k at_step stack f es before) one ∙ exec-step t m at_step stack f es before i h.statements.0.1 in
        (x.0, x.1, omega (arith, x.2), begun ∙ done ∙ x.3);
  }

  -- where the effect of a statement leads: behind it to the next rule, or to the next statement
  next-rule : {c n k : ℕ} {s : S} {w : StatementEffect} {f : Facts} {at_step : ℕ} {stack : List ℕ} (ss : List S) (rs : List (List S)) (g : Facts)
      → p.effect_of (statement_position p c n k) s f ≡ w → goes_on w (LeadsTo p c n (k + 1) ss) f g
      → AtStatements c n k (s ∷ ss) rs f at_step stack → AtRules c (n + 1) rs g (at_step + 1 + length ss) stack
  next-rule {s = s} {at_step = at_step} ss rs g is on h =
      let place : at_step + length (s ∷ ss) ≡ at_step + 1 + length ss = omega arith in rw (← place) (h.to g (rw is on))

  next-statement : {c n k : ℕ} {s : S} {w : StatementEffect} {f : Facts} {at_step : ℕ} {stack : List ℕ} (ss : List S) (rs : List (List S)) (g : Facts)
      → p.effect_of (statement_position p c n k) s f ≡ w → ((x : Facts) → LeadsTo p c n (k + 1) ss g x → goes_on w (LeadsTo p c n (k + 1) ss) f x)
      → AtStatements c n k (s ∷ ss) rs f at_step stack → AtStatements c n (k + 1) ss rs g (at_step + 1) stack
  next-statement {s = s} ss rs g is on h = record {
    to = λ x way. next-rule ss rs x is (on x way) h;
    statements = h.statements.1;
    own = λ x i. h.own x (Contains-tail s ss x i);
    room = h.room;
  }

  -- a statement that doesn't fail, so that its rule isn't left out
  by-first : {c n k : ℕ} {s : S} {w : StatementEffect} {f : Facts} {es : List Event} {o : RunResult} (ss : List S) (rs : List (List S)) (less : ℕ)
      → p.effect_of (statement_position p c n k) s f ≡ w → (w ≡ fail → ⊥) → ((at_step : ℕ) (stack : List ℕ)
      → AtStatements c n k (s ∷ ss) rs f at_step stack → (suc less ≤ weight s + sum_by weight ss + rules_weigh rs)
      × Does t less (Doing c n w at_step (length ss) stack f es) stack o) → Follows c n (in_rule k (s ∷ ss) rs) f es o
  by-first ss rs less is other does = (
    λ at_step stack h. let d = does at_step stack h in first ss rs less at_step d.0 h is d.1,
    λ failing at_step stack h. absurd (other (sym is ∙ failing)),
  )

  -- the end of a chain, of which nothing is left
  no-rules : (c n at_step : ℕ) (f : Facts) (left : List (List S)) → LeavesOut p f c n [] left
      → RulesAt remains t at_step c n left → statement_at (slice_get t.steps.items at_step) ≡ None
  no-rules c n at_step f [] out code = code
  no-rules c n at_step f (r ∷ left) out code = absurd out

  -- a rule that is left or left out
  by-rule : {c n at_step : ℕ} {stack : List ℕ} (r : List S) (rs : List (List S)) (f : Facts) {es : List Event} {o : RunResult}
      → Follows c n (in_rule 1 r rs) f es o → (left : List (List S)) → LeavesOut p f c n (r ∷ rs) left → RulesAt remains t at_step c n left
      → ((x : List S) → Contains (r ∷ rs) x → AllIn c x) → length stack + depth c ≤ 16
      → Does t (sum_by weight r + rules_weigh rs) (λ go. go at_step stack f es) stack o
  by-rule r rs f follows [] out code inside room = absurd out
  by-rule {c} {n} {at_step} {stack} r rs f follows (l ∷ left) (inl out) code inside room =
      let its = rw out.0 at code in
      follows.0 at_step stack (record {
        to = λ g way. record { left = left; out = out.1 g way; code = its.1; inside = λ x i. inside x (Contains-tail r rs x i); room = room };
        statements = its.0;
        own = inside r (Contains-head r rs);
        room = room;
      })
  by-rule {c} {n} {at_step} {stack} r rs f follows (l ∷ left) (inr out) code inside room =
      let its = rw (out.0, add-zero) at code.1 in
      follows.1 out.1 at_step stack
      (record { left = left; out = out.2; code = its; inside = λ x i. inside x (Contains-tail r rs x i); room = room })

  module _ (code : IsCode remains t) (costs_rank_chains : IsRanking p weight cost depth)
      (leaves : (c : ℕ) (rules : List (List S)) → p.rules_at c ≡ Some rules → LeavesOutOf p c rules (left_at c)) where
    -- a statement that is the last
    last : {c n k : ℕ} {s : S} {w : StatementEffect} {f : Facts} {es : List Event} {o : RunResult} (ss : List S) (rs : List (List S))
        → p.effect_of (statement_position p c n k) s f ≡ w → (w ≡ fail → ⊥)
        → ((at_step : ℕ) (stack : List ℕ) (m ticks : ℕ) → Doing c n w at_step (length ss) stack f es (exec t m) ticks ≡ finish (exec t m) stack o ticks)
        → Follows c n (in_rule k (s ∷ ss) rs) f es o
    last {s = s} ss rs is other same =
        by-first ss rs 0 is other (λ at_step stack h. (omega (arith, costs_rank_chains.some s), does-now t 0 (same at_step stack)))

    -- a chain that is entered, up to its end
    pub entered : {stack : List ℕ} {o : RunResult} (d : ℕ) (chain : List (List S)) (f : Facts) (es : List Event)
        → p.rules_at d ≡ Some chain → length stack + depth d ≤ 16 → Follows d 1 (at_rule chain) f es o
        → Does t (rules_weigh chain) (λ go. enter_chain go (slice_get t.chain_offsets.items d) stack f es) stack o
    entered {stack} d chain f es has room follows =
        let rest = leaves d chain has in
        let there = code.chains d rest.0 rest.1 in
        rw there.1 (follows there.0 stack (record {
          left = rest.0;
          out = rest.2 f;
          code = there.2;
          inside = λ r in_chain s in_rule. record { rules = chain; has = has; rule = r; in_chain = in_chain; in_rule = in_rule };
          room = room;
        }))

    -- a jump, up to the end of its chain, which weighs less than the statement
    jumped : {c n k d : ℕ} {s : S} {stack : List ℕ} {f : Facts} {o : RunResult} (es : List Event) (chain : List (List S)) (at_step left : ℕ)
        → IsStatementOf p c s → p.effect_of (statement_position p c n k) s f ≡ give (Jump d) → p.rules_at d ≡ Some chain
        → length stack + depth c ≤ 16 → Follows d 1 (at_rule chain) f (with_verdict p es c n (Jump d)) o
        → (suc (rules_weigh chain) ≤ weight s) × Does t (rules_weigh chain)
        (Doing c n (give (Jump d)) at_step left stack f es) ((at_step + 1 + left) ∷ stack) o
    jumped {c} {n} {k} {d} {s} {stack} {f} es chain at_step left inside effect_of has room follows =
        let falls = costs_rank_chains.jumps c d s (statement_position p c n k) f inside effect_of in
        let deep = falls.1 in (
          omega (arith, falls.0, costs_rank_chains.sums d chain has),
          does-as t (rules_weigh chain) (rules_weigh chain) (omega arith)
              (λ go ticks. grind (arith, deep, room)) (entered d chain f (with_verdict p es c n (Jump d)) has (omega arith) follows),
        )

    -- what the rules behind a rule do, where its own statements weigh as well
    skipped : (c n : ℕ) (ss : List S) (rs : List (List S)) {f : Facts} {es : List Event} {o : RunResult} → Follows c n (at_rule rs) f es o
        → (at_step : ℕ) (stack : List ℕ) → AtRules c n rs f at_step stack
        → Does t (sum_by weight ss + rules_weigh rs) (λ go. go at_step stack f es) stack o
    skipped c n ss rs follows at_step stack h =
        does-as t (rules_weigh rs) (sum_by weight ss + rules_weigh rs) (omega arith) (λ go ticks. refl) (follows at_step stack h)

    pub simulates : {c n : ℕ} {left : Remainder S} {f : Facts} {es : List Event} {o : RunResult} → Runs p c n left f es o → Follows c n left f es o
    simulates {c} {n} (chain_ends {f = f} {es = es}) = λ at_step stack h.
        does-end t at_step stack f es (no-rules c n at_step f h.left h.out h.code)
    simulates (next_rule {r = r} {rs = rs} {f = f} run) = λ at_step stack h.
        does-as t (sum_by weight r + rules_weigh rs) (rules_weigh (r ∷ rs)) (omega (arith, sum_by-cons (sum_by weight) r rs)) (λ go ticks. refl)
        (by-rule r rs f (simulates run) h.left h.out h.code h.inside h.room)
    simulates {c} {n} (rule_ends {rs = rs} {f = f} run) = (
      λ at_step stack h.
          let place : at_step + 0 ≡ at_step = omega arith in
          skipped c (n + 1) [] rs (simulates run) at_step stack (subst (λ a. AtRules c (n + 1) rs f a stack) place (h.to f refl)),
      λ failing. skipped c (n + 1) [] rs (simulates run),
    )
    simulates (passes {s = s} {ss = ss} {rs = rs} {f = f} is run) = by-first ss rs (sum_by weight ss + rules_weigh rs) is (λ e. cc) (λ at_step stack h.
        (omega (arith, costs_rank_chains.some s), (simulates run).0 (at_step + 1) stack (next-statement ss rs f is (λ x way. way) h)))
    simulates (notes {s = s} {ss = ss} {rs = rs} e g is run) = by-first ss rs (sum_by weight ss + rules_weigh rs) is (λ e. cc) (λ at_step stack h.
        (omega (arith, costs_rank_chains.some s), (simulates run).0 (at_step + 1) stack (next-statement ss rs g is (λ x way. way) h)))
    simulates {c} {n} (fails {s = s} {ss = ss} {rs = rs} {f = f} is run) = (
      λ at_step stack h. first ss rs (rules_weigh rs) at_step (omega (arith, costs_rank_chains.some s)) h is
          (simulates run (at_step + 1 + length ss) stack (next-rule ss rs f is refl h)),
      λ failing. skipped c (n + 1) (s ∷ ss) rs (simulates run),
    )
    simulates (continues {s = s} {ss = ss} {rs = rs} {f = f} is run) = by-first ss rs (rules_weigh rs) is (λ e. cc) (λ at_step stack h.
        (omega (arith, costs_rank_chains.some s), simulates run (at_step + 1 + length ss) stack (next-rule ss rs f is refl h)))
    simulates (accepts {ss = ss} {rs = rs} is) = last ss rs is (λ e. cc) (λ at_step stack m ticks. refl)
    simulates (drops {ss = ss} {rs = rs} is) = last ss rs is (λ e. cc) (λ at_step stack m ticks. refl)
    simulates (translates to {ss = ss} {rs = rs} is) = last ss rs is (λ e. cc) (λ at_step stack m ticks. refl)
    simulates (returns {ss = ss} {rs = rs} is) = last ss rs is (λ e. cc) (λ at_step stack m ticks. refl)
    simulates (jumps d {s = s} {ss = ss} {rs = rs} g {es = es} later chain is has inner run) =
        by-first ss rs (rules_weigh chain + rules_weigh rs) is (λ e. cc) (λ at_step stack h.
        let call = jumped es chain at_step (length ss) (h.own s (Contains-head s ss)) is has h.room (simulates inner) in (
          omega (arith, call.0),
          does-then t (rules_weigh chain) (rules_weigh rs) (at_step + 1 + length ss) call.1
              (simulates run (at_step + 1 + length ss) stack (next-rule ss rs g is tt h)),
        ))
    simulates (jumps_away d {s = s} {ss = ss} {rs = rs} {es = es} chain {o = o} is has inner away) =
        by-first ss rs (rules_weigh chain) is (λ e. cc) (λ at_step stack h.
        let call = jumped es chain at_step (length ss) (h.own s (Contains-head s ss)) is has h.room (simulates inner) in
        (omega (arith, call.0), does-over t (rules_weigh chain) o away call.1))
    simulates {c} {n} (goes {k = k} d {s = s} {ss = ss} {rs = rs} {f = f} {es = es} chain is has inner) =
        by-first ss rs (rules_weigh chain) is (λ e. cc) (λ at_step stack h.
        let falls = costs_rank_chains.gotos c d s (statement_position p c n k) f (h.own s (Contains-head s ss)) is in (
          omega (arith, falls.0, costs_rank_chains.sums d chain has),
          entered d chain f (with_verdict p es c n (Goto d)) has (omega (arith, falls.1, h.room)) (simulates inner),
        ))

-- ---- a base chain: the machine's result is the one that its rules have

module _ (network : PlantTree) (tables : List TableTree) (b : BaseChain) (code : Code) (start : Start) where
  -- a result of the rules is that of the machine, by the code of their table
  pub runs-there : start_head start ≡ base_chain_head b → (t : TableCode) (weight : Statement → ℕ) (cost depth : ℕ → ℕ)
      → (f : Facts) (es : List Event) (end : HookResult) (r : RunsBaseChain network tables b f es end)
      → slice_get code.tables.items b.number.table ≡ Some t → IsTableCode network b.number.table r.table t
      → IsRanking (table_program network b.number.table r.table) weight cost depth → cost b.number.chain + 1 ≤ start.cost → depth b.number.chain ≤ 16
      → end ≡ base_chain_result code start f es
  runs-there same_head t weight cost depth f es end r coded is costs_rank_chains enough shallow =
      let c = b.number.chain in
      let p = table_program network b.number.table r.table in
      let q = left_program network b.number.table r.table is.left in
      let leaves : (c : ℕ) (rules : List (List Statement)) → p.rules_at c ≡ Some rules → LeavesOutOf p c rules (q.rules_at c) =
      λ c rules has. let found = some_of_map rules_in (slice_get (chains_of r.table) c) rules has in
      leaves-of network b.number.table r.table c rules (slice_get is.left c)
      (subst (λ rs. IsSomeAnd (slice_get is.left c) (AreLeft rs (scope_of network r.table))) found.2
      (MatchOption-at_some (Unit {0}) (λ x. IsSomeAnd (slice_get is.left c) (AreLeft (rules_in x) (scope_of network r.table))) found.0 found.1
      (AllZip-left (λ x. AreLeft (rules_in x) (scope_of network r.table)) (chains_of r.table) is.left is.are_left c))) in
      let sum = costs_rank_chains.sums c r.rules r.has in
      let d : Does t (rules_weigh p q.rules_at t weight cost depth r.rules) (λ go. enter_chain go (slice_get t.chain_offsets.items c) [] f es) [] r.after =
      entered p q.rules_at t weight cost depth is.laid_out costs_rank_chains leaves c r.rules f es r.has (omega arith)
      (simulates p q.rules_at t weight cost depth is.laid_out costs_rank_chains leaves r.runs) in
      let x = d.goes (start.cost - 1) 0 (omega arith) in
      let after : (enter_chain (exec t (start.cost - 1)) (slice_get t.chain_offsets.items c) [] f es 0).after ≡ r.after =
      ap (λ (s : Stop). s.after) x.3 ∙ finish-last (exec t x.0) r.after x.1 in
      r.is ∙ ap (with_policy b.number (policy_of b.head)) (sym after)
      ∙ ap (λ x. with_policy b.number (policy_of b.head) (run_table x c (start.cost - 1) f es 0).after) (sym coded)
      ∙ ap (λ (h : StartHead). with_policy h.chain h.policy
      (run_table (slice_get code.tables.items h.chain.table) h.chain.chain (start.cost - 1) f es 0).after) (sym same_head)

  -- then the machine's is one of the rules, since they have one
  pub agrees : ((f : Facts) (es : List Event) (end : HookResult) → RunsBaseChain network tables b f es end → end ≡ base_chain_result code start f es)
      → ((f : Facts) (es : List Event) → (end : HookResult) × RunsBaseChain network tables b f es end)
      → (f : Facts) (es : List Event) (end : HookResult) → RunsBaseChain network tables b f es end ↔ (end ≡ base_chain_result code start f es)
  agrees there ends f es end =
      let e = ends f es in
      (there f es end, λ is_end. subst (RunsBaseChain network tables b f es) (there f es e.0 e.1 ∙ sym is_end) e.1)
