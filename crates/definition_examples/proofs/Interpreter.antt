-- An interpreter of chains with a bound on the call depth.
use Rattle.std.proofs.Common.{◌≡◌, ℕ, zero, suc, ◌+◌, List, [], ◌∷◌, ◌++◌, Option, Some, None, refl, subst}
use Rattle.std.proofs.lemmas.Option.{same_Some, none-some}
use Rattle.nft_tree.specs.Tree.{Statement}
use Rattle.rule_meaning.specs.declared.facts.Facts.{Facts}
use Rattle.rule_meaning.specs.declared.event.RuleVerdict.{RuleVerdict}
use Rattle.rule_meaning.specs.declared.event.RuleVerdict.TheVariants.{Accept, Drop, Continue, Return, Jump, Goto, Translate}
use Rattle.rule_meaning.specs.declared.event.Event.{Event}
use Rattle.rule_meaning.specs.declared.event.HookVerdict.TheVariants.{Accepted, Dropped, Translated}
use Rattle.rule_meaning.specs.Statements.{StatementEffect, pass, fail, note, give}
use Rattle.rule_meaning.specs.Runs as runs
use Rattle.rule_meaning.specs.Runs.{Program, Remainder, at_rule, in_rule, RunResult, at_end, over, Runs, statement_position, with_verdict}

-- a continuation
abbrev pub Next : Type 0
Next = Facts → List Event → Option RunResult

abbrev pub then_do : Option RunResult → Next → Option RunResult
then_do None next = None
then_do (Some (at_end f es)) next = next f es
then_do (Some (over e f es)) next = Some (over e f es)

-- `call` runs a chain, `next` the following rules; the events include the verdict
abbrev pub decides : (ℕ → Next) → RuleVerdict → Next → Next
decides call Accept next f es = Some (over Accepted f es)
decides call Drop next f es = Some (over Dropped f es)
decides call (Translate t) next f es = Some (over (Translated t) f es)
decides call Continue next f es = next f es
decides call Return next f es = Some (at_end f es)
decides call (Jump i) next f es = then_do (call i f es) next
decides call (Goto i) next f es = call i f es

module _ (p : Program Statement) where
  abbrev pub after : (ℕ → Next) → ℕ → ℕ → StatementEffect → Next → Next → Next
  after call c n pass rest next f es = rest f es
  after call c n fail rest next f es = next f es
  after call c n (note e g) rest next f es = rest g (es ++ e ∷ [])
  after call c n (give d) rest next f es = decides call d next f (with_verdict p es c n d)

  abbrev pub statements_run : (ℕ → Next) → ℕ → ℕ → ℕ → List Statement → Next → Next
  statements_run call c n k [] next f es = next f es
  statements_run call c n k (s ∷ ss) next f es = after call c n (p.effect_of (statement_position p c n k) s f)
      (statements_run call c n (k + 1) ss next) next f es

  abbrev pub rules_run : (ℕ → Next) → ℕ → ℕ → List (List Statement) → Next
  rules_run call c n [] f es = Some (at_end f es)
  rules_run call c n (r ∷ rs) f es = statements_run call c n 1 r (rules_run call c (n + 1) rs) f es

  abbrev pub chain_run : (ℕ → Next) → ℕ → Option (List (List Statement)) → Next
  chain_run call c None f es = None
  chain_run call c (Some rules) f es = rules_run call c 1 rules f es

  abbrev pub run : ℕ → ℕ → Next
  run zero c f es = None
  run (suc d) c f es = chain_run (run d) c (p.rules_at c) f es

  -- ---- soundness

  pub record RunsChain (i : ℕ) (f : Facts) (es : List Event) (o : RunResult) : Type 0 where
    pub chain : List (List Statement)
    pub stands : p.rules_at i ≡ Some chain
    pub runs : Runs p i 1 (at_rule chain) f es o

  abbrev Sound : (ℕ → Next) → Type 0
  Sound call = (i : ℕ) (f : Facts) (es : List Event) (o : RunResult) → call i f es ≡ Some o → RunsChain i f es o

  abbrev Holds : ℕ → ℕ → Remainder Statement → Next → Type 0
  Holds c n l next = (f : Facts) (es : List Event) (o : RunResult) → next f es ≡ Some o → Runs p c n l f es o

  module _ (call : ℕ → Next) (sound : Sound call) (c n k : ℕ) (s : Statement) (ss : List Statement)
      (rs : List (List Statement)) (f : Facts) (es : List Event) (o : RunResult) where
    abbrev Done : RunResult → Type 0
    Done x = Runs p c n (in_rule k (s ∷ ss) rs) f es x

    jumped : (i : ℕ) (next : Next) → p.effect_of (statement_position p c n k) s f ≡ give (Jump i)
        → Holds c (n + 1) (at_rule rs) next → (x : Option RunResult) → call i f (with_verdict p es c n (Jump i)) ≡ x
        → then_do x next ≡ Some o → Done o
    jumped i next is on None called e = absurd (none-some o e)
    jumped i next is on (Some (at_end g later)) called e = let q =
        sound i f (with_verdict p es c n (Jump i)) (at_end g later) called in runs.jumps i g later q.chain is q.stands
        q.runs (on g later o e)
    jumped i next is on (Some (over x g later)) called e =
        let q = sound i f (with_verdict p es c n (Jump i)) (over x g later) called in
        subst Done (same_Some (over x g later) o e) (runs.jumps_away i q.chain is q.stands q.runs tt)

    decided : (d : RuleVerdict) (next : Next) → p.effect_of (statement_position p c n k) s f ≡ give d
        → Holds c (n + 1) (at_rule rs) next → decides call d next f (with_verdict p es c n d) ≡ Some o → Done o
    decided Accept next is on e = subst Done (same_Some _ o e) (runs.accepts is)
    decided Drop next is on e = subst Done (same_Some _ o e) (runs.drops is)
    decided (Translate t) next is on e = subst Done (same_Some _ o e) (runs.translates t is)
    decided Continue next is on e = runs.continues is (on f (with_verdict p es c n Continue) o e)
    decided Return next is on e = subst Done (same_Some _ o e) (runs.returns is)
    decided (Jump i) next is on e = jumped i next is on (call i f (with_verdict p es c n (Jump i))) refl e
    decided (Goto i) next is on e = let q = sound i f (with_verdict p es c n (Goto i)) o e in runs.goes i q.chain is q.stands q.runs

    effect_of : (w : StatementEffect) (rest next : Next) → p.effect_of (statement_position p c n k) s f ≡ w
        → Holds c n (in_rule (k + 1) ss rs) rest → Holds c (n + 1) (at_rule rs) next → after call c n w rest next f es
        ≡ Some o → Done o
    effect_of pass rest next is on later e = runs.passes is (on f es o e)
    effect_of fail rest next is on later e = runs.fails is (later f es o e)
    effect_of (note x g) rest next is on later e = runs.notes x g is (on g (es ++ x ∷ []) o e)
    effect_of (give d) rest next is on later e = decided d next is later e

  module _ (call : ℕ → Next) (sound : Sound call) where
    statements_sound : (c n k : ℕ) (ss : List Statement) (rs : List (List Statement)) (next : Next)
        → Holds c (n + 1) (at_rule rs) next → Holds c n (in_rule k ss rs) (statements_run call c n k ss next)
    statements_sound c n k [] rs next later f es o e = runs.rule_ends (later f es o e)
    statements_sound c n k (s ∷ ss) rs next later f es o e =
        effect_of call sound c n k s ss rs f es o (p.effect_of (statement_position p c n k) s f)
        (statements_run call c n (k + 1) ss next) next refl (statements_sound c n (k + 1) ss rs next later) later e

    rules_sound : (c n : ℕ) (rs : List (List Statement)) → Holds c n (at_rule rs) (rules_run call c n rs)
    rules_sound c n [] f es o e = subst (λ x. Runs p c n (at_rule []) f es x) (same_Some (at_end f es) o e) runs.chain_ends
    rules_sound c n (r ∷ rs) f es o e = runs.next_rule (statements_sound c n 1 r rs (rules_run call c (n + 1) rs) (rules_sound c (n + 1) rs) f es o e)

    chain_sound : (i : ℕ) (x : Option (List (List Statement))) → p.rules_at i ≡ x
        → (f : Facts) (es : List Event) (o : RunResult) → chain_run call i x f es ≡ Some o → RunsChain i f es o
    chain_sound i None at f es o e = absurd (none-some o e)
    chain_sound i (Some rules) at f es o e = record { chain = rules; stands = at; runs = rules_sound i 1 rules f es o e }

  pub run_sound : (d : ℕ) → Sound (run d)
  run_sound zero i f es o e = absurd (none-some o e)
  run_sound (suc d) i f es o e = chain_sound (run d) (run_sound d) i (p.rules_at i) refl f es o e
