-- A program whose jumps and gotos go to lighter chains terminates from every position.
use Rattle.std.proofs.Common.{◌≡◌, ℕ, zero, suc, ◌+◌, ◌<◌, ◌≤◌, List, [], ◌∷◌, ◌++◌, Some, refl, arith}
use Rattle.rule_meaning.specs.declared.facts.Facts.{Facts}
use Rattle.rule_meaning.specs.declared.event.StatementPosition.{StatementPosition}
use Rattle.rule_meaning.specs.declared.event.RuleVerdict.{RuleVerdict}
use Rattle.rule_meaning.specs.declared.event.RuleVerdict.TheVariants.{Accept, Drop, Continue, Return, Jump, Goto, Translate}
use Rattle.rule_meaning.specs.declared.event.Event.{Event}
use Rattle.rule_meaning.specs.declared.event.HookVerdict.TheVariants.{Accepted, Dropped, Translated}
use Rattle.rule_meaning.specs.Statements.{StatementEffect, pass, fail, note, give}
use Rattle.rule_meaning.specs.Runs as runs
use Rattle.rule_meaning.specs.Runs.{Program, Remainder, at_rule, in_rule, RunResult, at_end, over, Runs, statement_position, with_verdict}

module _ {S : Type 0} (p : Program S) (weight : S → ℕ) (Good : S → Type 0) where
  abbrev pub rule_weight : List S → ℕ
  rule_weight [] = 0
  rule_weight (s ∷ ss) = weight s + rule_weight ss

  abbrev pub rules_weight : List (List S) → ℕ
  rules_weight [] = 0
  rules_weight (r ∷ rs) = rule_weight r + rules_weight rs

  abbrev pub GoodRule : List S → Type 0
  GoodRule [] = Unit {0}
  GoodRule (s ∷ ss) = Good s × GoodRule ss

  abbrev pub GoodRules : List (List S) → Type 0
  GoodRules [] = Unit {0}
  GoodRules (r ∷ rs) = GoodRule r × GoodRules rs

  -- the chain with this index is lighter than the statement
  pub record Lighter (s : S) (i : ℕ) : Type 0 where
    pub chain : List (List S)
    pub stands : p.rules_at i ≡ Some chain
    pub good : GoodRules chain
    pub less : rules_weight chain < weight s

  abbrev pub Leads : S → RuleVerdict → Type 0
  Leads s (Jump i) = Lighter s i
  Leads s (Goto i) = Lighter s i
  Leads s Accept = Unit {0}
  Leads s Drop = Unit {0}
  Leads s Continue = Unit {0}
  Leads s Return = Unit {0}
  Leads s (Translate t) = Unit {0}

  abbrev pub Falls : Type 0
  Falls = (s : S) → Good s → (at : StatementPosition) (f : Facts) (d : RuleVerdict) → p.effect_of at s f ≡ give d → Leads s d

  -- it terminates
  abbrev Comes : ℕ → ℕ → Remainder S → Facts → List Event → Type 0
  Comes c n l f es = (o : RunResult) × Runs p c n l f es o

  abbrev Next : ℕ → ℕ → List (List S) → Type 0
  Next c n rs = (f : Facts) (es : List Event) → Comes c (n + 1) (at_rule rs) f es

  -- all chains lighter than this terminate
  abbrev Calls : ℕ → Type 0
  Calls most = (i : ℕ) (chain : List (List S)) → p.rules_at i ≡ Some chain → GoodRules chain
      → rules_weight chain < most → (f : Facts) (es : List Event) → Comes i 1 (at_rule chain) f es

  module _ (falls : Falls) where
    module _ (c n k : ℕ) (s : S) (ss : List S) (rs : List (List S)) (f : Facts) (es : List Event) where
      after_jump : (i : ℕ) (chain : List (List S)) → p.effect_of (statement_position p c n k) s f ≡ give (Jump i)
          → p.rules_at i ≡ Some chain → (o : RunResult) → Runs p i 1 (at_rule chain) f
          (with_verdict p es c n (Jump i)) o → Next c n rs → Comes c n (in_rule k (s ∷ ss) rs) f es
      after_jump i chain is at (at_end g later) r next = let q = next g later in (q.0, runs.jumps i g later chain is at r q.1)
      after_jump i chain is at (over e g later) r next = (over e g later, runs.jumps_away i chain is at r tt)

      decided : (most : ℕ) → Calls most → weight s ≤ most → (d : RuleVerdict)
          → p.effect_of (statement_position p c n k) s f ≡ give d → Leads s d → Next c n rs
          → Comes c n (in_rule k (s ∷ ss) rs) f es
      decided most call le Accept is leads next = (over Accepted f (with_verdict p es c n Accept), runs.accepts is)
      decided most call le Drop is leads next = (over Dropped f (with_verdict p es c n Drop), runs.drops is)
      decided most call le (Translate t) is leads next = (over (Translated t) f (with_verdict p es c n (Translate t)), runs.translates t is)
      decided most call le Continue is leads next = let q = next f (with_verdict p es c n Continue) in (q.0, runs.continues is q.1)
      decided most call le Return is leads next = (at_end f (with_verdict p es c n Return), runs.returns is)
      decided most call le (Jump i) is leads next =
          let q = call i leads.chain leads.stands leads.good (omega (arith, le, leads.less)) f (with_verdict p es c n (Jump i)) in
          after_jump i leads.chain is leads.stands q.0 q.1 next
      decided most call le (Goto i) is leads next =
          let q = call i leads.chain leads.stands leads.good (omega (arith, le, leads.less)) f (with_verdict p es c n (Goto i)) in
          (q.0, runs.goes i leads.chain is leads.stands q.1)

      effect_of : (most : ℕ) → Calls most → weight s ≤ most → Good s → (w : StatementEffect)
          → p.effect_of (statement_position p c n k) s f ≡ w
          → ((g : Facts) (later : List Event) → Comes c n (in_rule (k + 1) ss rs) g later) → Next c n rs
          → Comes c n (in_rule k (s ∷ ss) rs) f es
      effect_of most call le good pass is rest next = let q = rest f es in (q.0, runs.passes is q.1)
      effect_of most call le good fail is rest next = let q = next f es in (q.0, runs.fails is q.1)
      effect_of most call le good (note e g) is rest next = let q = rest g (es ++ e ∷ []) in (q.0, runs.notes e g is q.1)
      effect_of most call le good (give d) is rest next = decided most call le d is (falls s good (statement_position p c n k) f d is) next

    module _ (most : ℕ) (call : Calls most) where
      in_turn : (c n k : ℕ) (ss : List S) (rs : List (List S)) → GoodRule ss → rule_weight ss ≤ most → Next c n rs
          → (f : Facts) (es : List Event) → Comes c n (in_rule k ss rs) f es
      in_turn c n k [] rs good le next f es = let q = next f es in (q.0, runs.rule_ends q.1)
      in_turn c n k (s ∷ ss) rs good le next f es =
          effect_of c n k s ss rs f es most call (omega (arith, le)) good.0
          (p.effect_of (statement_position p c n k) s f) refl
          (in_turn c n (k + 1) ss rs good.1 (omega (arith, le)) next) next

      from_rule : (c n : ℕ) (rs : List (List S)) → GoodRules rs → rules_weight rs ≤ most → (f : Facts) (es : List Event) → Comes c n (at_rule rs) f es
      from_rule c n [] good le f es = (at_end f es, runs.chain_ends)
      from_rule c n (r ∷ rs) good le f es =
          let q = in_turn c n 1 r rs good.0 (omega (arith, le)) (from_rule c (n + 1) rs good.1 (omega (arith, le))) f es in
          (q.0, runs.next_rule q.1)

    calls : (most : ℕ) → Calls most
    calls zero i chain at good less f es = absurd (omega (arith, less))
    calls (suc m) i chain at good less f es = from_rule m (calls m) i 1 chain good (omega (arith, less)) f es

    pub some_run : (c : ℕ) (rules : List (List S)) → GoodRules rules → (f : Facts) (es : List Event) → Comes c 1 (at_rule rules) f es
    some_run c rules good f es = from_rule (rules_weight rules) (calls (rules_weight rules)) c 1 rules good (omega arith) f es
