-- Runs are along ways, and ways are runs, where each chain costs more than those that its rules jump or go to.
use Rattle.std.proofs.Common.{◌≡◌, ℕ, zero, suc, ◌+◌, ◌<◌, ◌==◌, length, List, [], ◌∷◌, ◌++◌, Contains, Option, Some, None, unwrap_or}
use Rattle.std.proofs.Common.{refl, sym, ap, ◌∙◌, subst, arith}
use Rattle.std.proofs.lemmas.List.{append-nil}
use Rattle.list_laws.specs.Lists.{Contains-head}
use Rattle.list_laws.specs.Decisions.{Contains-there}
use Rattle.rule_meaning.specs.declared.facts.Facts.{Facts}
use Rattle.rule_meaning.specs.declared.event.Event.{Event}
use Rattle.rule_meaning.specs.declared.event.HookVerdict.{HookVerdict}
use Rattle.rule_meaning.specs.declared.event.StatementPosition.{StatementPosition}
use Rattle.rule_meaning.specs.declared.event.RuleVerdict.{RuleVerdict}
use Rattle.rule_meaning.specs.declared.event.RuleVerdict.TheVariants.{Accept, Drop, Continue, Return, Jump, Goto, Translate}
use Rattle.rule_meaning.specs.Statements.{StatementEffect, pass, fail, note, give}
use Rattle.rule_meaning.specs.Runs as runs
use Rattle.rule_meaning.specs.Runs.{Program, Remainder, RunResult, Runs, IsTerminal, at_end, at_rule, in_rule, statement_position}
use Rattle.rule_sets.specs.Ends as ends
use Rattle.rule_sets.specs.Ends.{Follows, Jumps, RunsToItsEnd, end_behind, rule_end, rule_events}
use Rattle.rule_laws.specs.Ranking.{IsStatementOf}
use Rattle.chain_ways.specs.Laws.{HasTargets}
use Rattle.chain_ways.specs.Ways.{WayEnd, ended, over, Visit, Way, then_back, after_verdict, way_by, way}
use Rattle.chain_ways.specs.Ways.{events_of_visits, result_with, run_result}

module _ {S : Type 0} (p : Program S) where
  -- a chain costs more than those that its rules jump or go to
  pub record Falls (cost : ℕ → ℕ) : Type 0 where
    pub jumps : (c d : ℕ) (s : S) (at_place : StatementPosition) (f : Facts) → IsStatementOf p c s
        → p.effect_of at_place s f ≡ give (Jump d) → cost d < cost c
    pub gotos : (c d : ℕ) (s : S) (at_place : StatementPosition) (f : Facts) → IsStatementOf p c s
        → p.effect_of at_place s f ≡ give (Goto d) → cost d < cost c

  -- ---- the statement that gives a rule's verdict

  record Given (ss : List S) (d : RuleVerdict) : Type 0 where
    statement : S
    in_rule : Contains ss statement
    at_place : StatementPosition
    facts : Facts
    gives : p.effect_of at_place statement facts ≡ give d

  later : (s : S) (ss : List S) (d : RuleVerdict) → Given ss d → Given (s ∷ ss) d
  later s ss d h = record {
    statement = h.statement;
    in_rule = Contains-there s h.statement ss h.in_rule;
    at_place = h.at_place;
    facts = h.facts;
    gives = h.gives;
  }

  given_by : (c n k : ℕ) (s : S) (ss : List S) (f : Facts) (d : RuleVerdict) (w : StatementEffect)
      → p.effect_of (statement_position p c n k) s f ≡ w
      → (end_behind (length ss == 0) (rule_end p c n (k + 1) ss) f w).verdict ≡ Some d
      → ((g : Facts) → (rule_end p c n (k + 1) ss g).verdict ≡ Some d → Given ss d) → Given (s ∷ ss) d
  given_by c n k s ss f d pass at is next = later s ss d (next f is)
  given_by c n k s ss f d (note e g) at is next = later s ss d (next g is)
  given_by c n k s ss f d fail at is next = absurd cc
  given_by c n k s ss f d (give x) at is next = record {
    statement = s;
    in_rule = Contains-head s ss;
    at_place = statement_position p c n k;
    facts = f;
    gives = subst (λ y. p.effect_of (statement_position p c n k) s f ≡ give y) (ap (λ o. unwrap_or o x) is) at;
  }

  given : (c n k : ℕ) (ss : List S) (f : Facts) (d : RuleVerdict) → (rule_end p c n k ss f).verdict ≡ Some d → Given ss d
  given c n k [] f d is = absurd cc
  given c n k (s ∷ ss) f d is =
      given_by c n k s ss f d (p.effect_of (statement_position p c n k) s f) refl is (λ g. given c n (k + 1) ss g d)

  -- ---- runs of rules

  abbrev Opened : ℕ → ℕ → Remainder S → Facts → List Event → RunResult → Type 0
  Opened c n (at_rule []) f es o = o ≡ at_end f es
  Opened c n (at_rule (r ∷ rs)) f es o = Runs p c n (in_rule 1 r rs) f es o
  Opened c n (in_rule k ss rs) f es o = Unit {0}

  open_run : {c n : ℕ} {l : Remainder S} {f : Facts} {es : List Event} {o : RunResult} → Runs p c n l f es o → Opened c n l f es o
  open_run runs.chain_ends = refl
  open_run (runs.next_rule r) = r
  open_run _ = tt

  -- ---- results of ways

  events_append : (xs ys : List (Visit S)) (es : List Event)
      → events_of_visits p (xs ++ ys) es ≡ events_of_visits p ys (events_of_visits p xs es)
  events_append [] ys es = refl
  events_append (v ∷ vs) ys es = events_append vs ys (rule_events p v.chain v.rule 1 v.statements v.facts es)

  -- behind a chain that has ended
  back_result : (rest : Facts → Way S) (visits : List (Visit S)) (f : Facts) (es : List Event)
      → run_result p (then_back rest (record { visits = visits; end = ended f })) es
      ≡ run_result p (rest f) (events_of_visits p visits es)
  back_result rest visits f es = ap (λ after. result_with after (rest f).end) (events_append visits (rest f).visits es)

  -- after a verdict for the base chain
  over_result : (rest : Facts → Way S) (visits : List (Visit S)) (verdict : HookVerdict) (f : Facts) (es : List Event)
      → run_result p (then_back rest (record { visits = visits; end = over verdict f })) es
      ≡ runs.over verdict f (events_of_visits p visits es)
  over_result rest visits verdict f es = ap (λ vs. runs.over verdict f (events_of_visits p vs es)) (append-nil visits)

  back : (rest : Facts → Way S) (visits : List (Visit S)) (end : WayEnd) (es : List Event) (g : Facts) (after : List Event)
      (o : RunResult) → at_end g after ≡ run_result p (record { visits = visits; end = end }) es
      → o ≡ run_result p (rest g) after → o ≡ run_result p (then_back rest (record { visits = visits; end = end })) es
  back rest visits (ended f) es g after o first is =
      let same_facts : g ≡ f = cc in
      let same_events : after ≡ events_of_visits p visits es = cc in
      is ∙ ap (λ x. run_result p (rest x) after) same_facts ∙ ap (run_result p (rest f)) same_events
      ∙ sym (back_result rest visits f es)
  back rest visits (over verdict f) es g after o first is = absurd cc

  away : (rest : Facts → Way S) (visits : List (Visit S)) (end : WayEnd) (es : List Event) (o : RunResult)
      → o ≡ run_result p (record { visits = visits; end = end }) es → IsTerminal o
      → o ≡ run_result p (then_back rest (record { visits = visits; end = end })) es
  away rest visits (ended f) es o is terminal = absurd (subst IsTerminal is terminal)
  away rest visits (over verdict f) es o is terminal = is ∙ sym (over_result rest visits verdict f es)

  module _ (to_end : RunsToItsEnd p) (cost : ℕ → ℕ) (falls : Falls cost) where
    -- ---- runs are along ways

    abbrev pub RunsAlong : ℕ → Type 0
    RunsAlong levels =
        (t : ℕ) (rules : List (List S)) → p.rules_at t ≡ Some rules → cost t < levels → (f : Facts) (es : List Event)
        (o : RunResult) → Runs p t 1 (at_rule rules) f es o → o ≡ run_result p (way p levels t f) es

    module _ (levels : ℕ) (called : RunsAlong levels) (c : ℕ) (rules : List (List S)) (has : p.rules_at c ≡ Some rules)
        (few : cost c < suc levels) where
      -- a chain that a rule jumps or goes to costs less
      less : (d : ℕ) (r : List S) → Contains rules r → Given r (Jump d) → cost d < levels
      less d r within h =
          let falling = falls.jumps c d h.statement h.at_place h.facts
          (record { rules = rules; has = has; rule = r; in_chain = within; in_rule = h.in_rule }) h.gives in
          omega (arith, falling)

      less_gone : (d : ℕ) (r : List S) → Contains rules r → Given r (Goto d) → cost d < levels
      less_gone d r within h =
          let falling = falls.gotos c d h.statement h.at_place h.facts
          (record { rules = rules; has = has; rule = r; in_chain = within; in_rule = h.in_rule }) h.gives in
          omega (arith, falling)

      module _ (n : ℕ) (rs : List (List S)) (next : (f : Facts) (es : List Event) (o : RunResult)
          → Runs p c (n + 1) (at_rule rs) f es o → o ≡ run_result p (way_by p (way p levels) c (n + 1) rs f) es) where
        jumped : (t : ℕ) (f : Facts) (es : List Event) (o : RunResult) → cost t < levels → Jumps p c n t rs f es o
            → o ≡ run_result p (then_back (way_by p (way p levels) c (n + 1) rs) (way p levels t f)) es
        jumped t f es o cheap (ends.comes_back chain g after at a b) =
            back (way_by p (way p levels) c (n + 1) rs) (way p levels t f).visits (way p levels t f).end es g after o
            (called t chain at cheap f es (at_end g after) a) (next g after o b)
        jumped t f es o cheap (ends.is_over chain at a terminal) =
            away (way_by p (way p levels) c (n + 1) rs) (way p levels t f).visits (way p levels t f).end es o
            (called t chain at cheap f es o a) terminal

        followed : (r : List S) → Contains rules r → (f g : Facts) (es : List Event) (o : RunResult) (d : Option RuleVerdict)
            → (rule_end p c n 1 r f).verdict ≡ d → Follows p c n d rs g es o
            → o ≡ run_result p (after_verdict (way p levels) (way_by p (way p levels) c (n + 1) rs) d g) es
        followed r within f g es o None is h = next g es o h
        followed r within f g es o (Some Accept) is h = h
        followed r within f g es o (Some Drop) is h = h
        followed r within f g es o (Some (Translate t)) is h = h
        followed r within f g es o (Some Continue) is h = next g es o h
        followed r within f g es o (Some Return) is h = h
        followed r within f g es o (Some (Jump t)) is h = jumped t g es o (less t r within (given c n 1 r f (Jump t) is)) h
        followed r within f g es o (Some (Goto t)) is h =
            called t h.0 h.1 (less_gone t r within (given c n 1 r f (Goto t) is)) g es o h.2

      along_rules : (n : ℕ) (rs : List (List S)) → ((r : List S) → Contains rs r → Contains rules r) → (f : Facts) (es : List Event)
          (o : RunResult) → Runs p c n (at_rule rs) f es o → o ≡ run_result p (way_by p (way p levels) c n rs f) es
      along_rules n [] within f es o r = open_run r
      along_rules n (x ∷ rs) within f es o r =
          followed n rs (along_rules (n + 1) rs (λ y h. within y (Contains-there x y rs h))) x (within x (Contains-head x rs)) f
          (rule_end p c n 1 x f).facts (rule_events p c n 1 x f es) o (rule_end p c n 1 x f).verdict refl
          ((to_end c n 1 x rs f es o).0 (open_run r))

    pub along : (levels : ℕ) → RunsAlong levels
    along zero t rules at less f es o r = absurd (omega (arith, less))
    along (suc levels) t rules at less f es o r =
        subst (λ x. o ≡ run_result p (way_by p (way p levels) t 1 (unwrap_or x []) f) es) (sym at)
        (along_rules levels (along levels) t rules at less 1 rules (λ y h. h) f es o r)

    -- ---- ways are runs

    module _ (targets : HasTargets p) where
      abbrev pub Ran : ℕ → Type 0
      Ran levels =
          (t : ℕ) (rules : List (List S)) → p.rules_at t ≡ Some rules → cost t < levels → (f : Facts) (es : List Event)
          → Runs p t 1 (at_rule rules) f es (run_result p (way p levels t f) es)

      module _ (levels : ℕ) (called : Ran levels) (c : ℕ) (rules : List (List S)) (has : p.rules_at c ≡ Some rules)
          (few : cost c < suc levels) where
        module _ (n : ℕ) (rs : List (List S)) (next : (f : Facts) (es : List Event)
            → Runs p c (n + 1) (at_rule rs) f es (run_result p (way_by p (way p levels) c (n + 1) rs f) es)) where
          jumping : (t : ℕ) (chain : List (List S)) → p.rules_at t ≡ Some chain → (f : Facts) (es : List Event)
              (visits : List (Visit S)) (end : WayEnd)
              → Runs p t 1 (at_rule chain) f es (run_result p (record { visits = visits; end = end }) es)
              → Jumps p c n t rs f es (run_result p
              (then_back (way_by p (way p levels) c (n + 1) rs) (record { visits = visits; end = end })) es)
          jumping t chain at f es visits (ended g) r = ends.comes_back chain g (events_of_visits p visits es) at r
              (subst (Runs p c (n + 1) (at_rule rs) g (events_of_visits p visits es))
              (sym (back_result (way_by p (way p levels) c (n + 1) rs) visits g es)) (next g (events_of_visits p visits es)))
          jumping t chain at f es visits (over verdict g) r = ends.is_over chain at
              (subst (Runs p t 1 (at_rule chain) f es) (sym (over_result (way_by p (way p levels) c (n + 1) rs) visits verdict g es)) r) tt

          following : (r : List S) → Contains rules r → (f g : Facts) (es : List Event) (d : Option RuleVerdict)
              → (rule_end p c n 1 r f).verdict ≡ d → Follows p c n d rs g es
              (run_result p (after_verdict (way p levels) (way_by p (way p levels) c (n + 1) rs) d g) es)
          following r within f g es None is = next g es
          following r within f g es (Some Accept) is = refl
          following r within f g es (Some Drop) is = refl
          following r within f g es (Some (Translate t)) is = refl
          following r within f g es (Some Continue) is = next g es
          following r within f g es (Some Return) is = refl
          following r within f g es (Some (Jump t)) is =
              let h = given c n 1 r f (Jump t) is in
              let to = targets.jumps c t h.statement h.at_place h.facts
              (record { rules = rules; has = has; rule = r; in_chain = within; in_rule = h.in_rule }) h.gives in
              jumping t to.0 to.1 g es (way p levels t g).visits (way p levels t g).end
              (called t to.0 to.1 (less levels (along levels) c rules has few t r within h) g es)
          following r within f g es (Some (Goto t)) is =
              let h = given c n 1 r f (Goto t) is in
              let to = targets.gotos c t h.statement h.at_place h.facts
              (record { rules = rules; has = has; rule = r; in_chain = within; in_rule = h.in_rule }) h.gives in
              (to.0, to.1, called t to.0 to.1 (less_gone levels (along levels) c rules has few t r within h) g es)

        ran_rules : (n : ℕ) (rs : List (List S)) → ((r : List S) → Contains rs r → Contains rules r) → (f : Facts) (es : List Event)
            → Runs p c n (at_rule rs) f es (run_result p (way_by p (way p levels) c n rs f) es)
        ran_rules n [] within f es = runs.chain_ends
        ran_rules n (x ∷ rs) within f es =
            runs.next_rule ((to_end c n 1 x rs f es _).1
            (following n rs (ran_rules (n + 1) rs (λ y h. within y (Contains-there x y rs h))) x (within x (Contains-head x rs)) f
            (rule_end p c n 1 x f).facts (rule_events p c n 1 x f es) (rule_end p c n 1 x f).verdict refl))

      pub ran : (levels : ℕ) → Ran levels
      ran zero t rules at less f es = absurd (omega (arith, less))
      ran (suc levels) t rules at less f es =
          subst (λ x. Runs p t 1 (at_rule rules) f es (run_result p (way_by p (way p levels) t 1 (unwrap_or x []) f) es)) (sym at)
          (ran_rules levels (ran levels) t rules at less 1 rules (λ y h. h) f es)
