-- A packet runs through a rule to its end, and then as the rule's verdict says.
use Rattle.std.proofs.Common.{◌≡◌, ◌↔◌, ℕ, ◌+◌, ◌==◌, length, List, [], ◌∷◌, ◌++◌, Some, refl, sym, subst}
use Rattle.rule_meaning.specs.declared.facts.Facts.{Facts}
use Rattle.rule_meaning.specs.declared.event.Event.{Event}
use Rattle.rule_meaning.specs.declared.event.HookVerdict.TheVariants.{Accepted, Dropped, Translated}
use Rattle.rule_meaning.specs.declared.event.RuleVerdict.{RuleVerdict}
use Rattle.rule_meaning.specs.declared.event.RuleVerdict.TheVariants.{Accept, Drop, Continue, Return, Jump, Goto, Translate}
use Rattle.rule_meaning.specs.Statements.{StatementEffect, pass, fail, note, give}
use Rattle.rule_meaning.specs.Runs as runs
use Rattle.rule_meaning.specs.Runs.{Program, Remainder, RunResult, Runs, at_end, at_rule, in_rule, over, statement_position, with_verdict}
use Rattle.rule_sets.specs.Ends as ends
use Rattle.rule_sets.specs.Ends.{Follows, Jumps, RunsToItsEnd, end_behind, events_behind, rule_end, rule_events}

module _ {S : Type 0} (p : Program S) where
  -- after a statement with this effect
  abbrev Said : StatementEffect → ℕ → ℕ → ℕ → List S → List (List S) → Facts → List Event → RunResult → Type 0
  Said pass c n k ss rs f es o = Runs p c n (in_rule (k + 1) ss rs) f es o
  Said fail c n k ss rs f es o = Runs p c (n + 1) (at_rule rs) f es o
  Said (note e g) c n k ss rs f es o = Runs p c n (in_rule (k + 1) ss rs) g (es ++ e ∷ []) o
  Said (give d) c n k ss rs f es o = Follows p c n (Some d) rs f (with_verdict p es c n d) o

  -- from a place in a rule
  abbrev Opened : ℕ → ℕ → Remainder S → Facts → List Event → RunResult → Type 0
  Opened c n (at_rule rs) f es o = Unit {0}
  Opened c n (in_rule k [] rs) f es o = Runs p c (n + 1) (at_rule rs) f es o
  Opened c n (in_rule k (s ∷ ss) rs) f es o = Said (p.effect_of (statement_position p c n k) s f) c n k ss rs f es o

  by_effect : (w v : StatementEffect) (c n k : ℕ) (ss : List S) (rs : List (List S)) (f : Facts) (es : List Event)
      (o : RunResult) → w ≡ v → Said v c n k ss rs f es o → Said w c n k ss rs f es o
  by_effect w v c n k ss rs f es o is = subst (λ x. Said x c n k ss rs f es o) (sym is)

  open_run : {c n : ℕ} {l : Remainder S} {f : Facts} {es : List Event} {o : RunResult} → Runs p c n l f es o → Opened c n l f es o
  open_run runs.chain_ends = tt
  open_run (runs.next_rule r) = tt
  open_run (runs.rule_ends r) = r
  open_run (runs.passes w r) = by_effect _ _ _ _ _ _ _ _ _ _ w r
  open_run (runs.fails {k = k} {ss = ss} w r) = by_effect _ fail _ _ k ss _ _ _ _ w r
  open_run (runs.notes e g w r) = by_effect _ (note e g) _ _ _ _ _ _ _ _ w r
  open_run (runs.accepts {k = k} {ss = ss} {rs = rs} w) = by_effect _ (give Accept) _ _ k ss rs _ _ _ w refl
  open_run (runs.drops {k = k} {ss = ss} {rs = rs} w) = by_effect _ (give Drop) _ _ k ss rs _ _ _ w refl
  open_run (runs.translates {k = k} t {ss = ss} {rs = rs} w) = by_effect _ (give (Translate t)) _ _ k ss rs _ _ _ w refl
  open_run (runs.continues {k = k} {ss = ss} w r) = by_effect _ (give Continue) _ _ k ss _ _ _ _ w r
  open_run (runs.returns {k = k} {ss = ss} {rs = rs} w) = by_effect _ (give Return) _ _ k ss rs _ _ _ w refl
  open_run (runs.jumps {k = k} t {ss = ss} {rs = rs} g later chain w at first then) =
      by_effect _ (give (Jump t)) _ _ k ss rs _ _ _ w (ends.comes_back chain g later at first then)
  open_run (runs.jumps_away {k = k} t {ss = ss} {rs = rs} chain w at first terminal) =
      by_effect _ (give (Jump t)) _ _ k ss rs _ _ _ w (ends.is_over chain at first terminal)
  open_run (runs.goes {k = k} t {ss = ss} {rs = rs} chain w at first) = by_effect _ (give (Goto t)) _ _ k ss rs _ _ _ w (chain, at, first)

  -- where the next statement's effect is known
  saying : {c n k : ℕ} {s : S} {ss : List S} {rs : List (List S)} {f : Facts} {es : List Event} {o : RunResult}
      (w : StatementEffect) → p.effect_of (statement_position p c n k) s f ≡ w
      → Runs p c n (in_rule k (s ∷ ss) rs) f es o → Said w c n k ss rs f es o
  saying {c} {n} {k} {s} {ss} {rs} {f} {es} {o} w is r = subst (λ x. Said x c n k ss rs f es o) is (open_run r)

module _ {S : Type 0} (p : Program S) (c n : ℕ) (rs : List (List S)) (o : RunResult) where
  module _ (k : ℕ) (s : S) (ss : List S) (f : Facts) (es : List Event) where
    result : (x : RunResult) → o ≡ x → Runs p c n (in_rule k (s ∷ ss) rs) f es x → Runs p c n (in_rule k (s ∷ ss) rs) f es o
    result x is = subst (λ y. Runs p c n (in_rule k (s ∷ ss) rs) f es y) (sym is)

    jumped : (t : ℕ) → p.effect_of (statement_position p c n k) s f ≡ give (Jump t)
        → Jumps p c n t rs f (with_verdict p es c n (Jump t)) o → Runs p c n (in_rule k (s ∷ ss) rs) f es o
    jumped t is (ends.comes_back chain g later at a b) = runs.jumps t g later chain is at a b
    jumped t is (ends.is_over chain at a terminal) = runs.jumps_away t chain is at a terminal

    given : (d : RuleVerdict) → p.effect_of (statement_position p c n k) s f ≡ give d
        → Follows p c n (Some d) rs f (with_verdict p es c n d) o → Runs p c n (in_rule k (s ∷ ss) rs) f es o
    given Accept is h = result (over Accepted f (with_verdict p es c n Accept)) h (runs.accepts is)
    given Drop is h = result (over Dropped f (with_verdict p es c n Drop)) h (runs.drops is)
    given (Translate t) is h = result (over (Translated t) f (with_verdict p es c n (Translate t))) h (runs.translates t is)
    given Continue is h = runs.continues is h
    given Return is h = result (at_end f (with_verdict p es c n Return)) h (runs.returns is)
    given (Jump t) is h = jumped t is h
    given (Goto t) is h = runs.goes t h.0 is h.1 h.2

  abbrev Both : ℕ → List S → Facts → List Event → Type 0
  Both k ss f es =
      Runs p c n (in_rule k ss rs) f es o
      ↔ Follows p c n (rule_end p c n k ss f).verdict rs (rule_end p c n k ss f).facts (rule_events p c n k ss f es) o

  behind : (k : ℕ) (s : S) (ss : List S) (f : Facts) (es : List Event) (w : StatementEffect) → p.effect_of (statement_position p c n k) s f ≡ w
      → ((g : Facts) (later : List Event) → Both (k + 1) ss g later)
      → Runs p c n (in_rule k (s ∷ ss) rs) f es o
      ↔ Follows p c n (end_behind (length ss == 0) (rule_end p c n (k + 1) ss) f w).verdict rs
      (end_behind (length ss == 0) (rule_end p c n (k + 1) ss) f w).facts
      (events_behind p c n (rule_events p c n (k + 1) ss) f es w) o
  behind k s ss f es pass is next = (λ r. (next f es).0 (saying p pass is r), λ h. runs.passes is ((next f es).1 h))
  behind k s ss f es (note e g) is next =
      (λ r. (next g (es ++ e ∷ [])).0 (saying p (note e g) is r), λ h. runs.notes e g is ((next g (es ++ e ∷ [])).1 h))
  behind k s ss f es fail is next = (λ r. saying p fail is r, λ h. runs.fails is h)
  behind k s ss f es (give d) is next =
      (λ r. saying p (give d) is r, λ h. given k s ss f es d is h)

  both : (ss : List S) (k : ℕ) (f : Facts) (es : List Event) → Both k ss f es
  both [] k f es = (λ r. open_run p r, λ h. runs.rule_ends h)
  both (s ∷ ss) k f es = behind k s ss f es (p.effect_of (statement_position p c n k) s f) refl (λ g later. both ss (k + 1) g later)

pub runs_to_its_end : {S : Type 0} (p : Program S) → RunsToItsEnd p
runs_to_its_end p c n k ss rs f es o = both p c n rs o ss k f es
