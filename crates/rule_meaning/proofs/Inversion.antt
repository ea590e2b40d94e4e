-- Inversion of runs, by the remainder and the next statement's effect.
use Rattle.std.proofs.Common.{◌≡◌, ℕ, ◌+◌, List, [], ◌∷◌, ◌++◌, Some, refl, sym, subst}
use Rattle.rule_meaning.specs.declared.facts.Facts.{Facts}
use Rattle.rule_meaning.specs.declared.event.RuleVerdict.{RuleVerdict}
use Rattle.rule_meaning.specs.declared.event.RuleVerdict.TheVariants.{Accept, Drop, Continue, Return, Jump, Goto, Translate}
use Rattle.rule_meaning.specs.declared.event.Event.{Event}
use Rattle.rule_meaning.specs.declared.event.HookVerdict.TheVariants.{Accepted, Dropped, Translated}
use Rattle.rule_meaning.specs.Statements.{StatementEffect, pass, fail, note, give}
use Rattle.rule_meaning.specs.Runs as runs
use Rattle.rule_meaning.specs.Runs.{Program, Remainder, at_rule, in_rule, RunResult, at_end, over, IsTerminal, Runs, statement_position, with_verdict}

module _ {S : Type 0} (p : Program S) where
  -- a jump: the chain runs to its end and the next rule follows, or it gives a verdict for the base chain
  pub data Jumped (c n t : ℕ) (rs : List (List S)) (f : Facts) (es : List Event) (o : RunResult) : Type 0 where
    back : (chain : List (List S)) (g : Facts) (later : List Event) → p.rules_at t ≡ Some chain
        → Runs p t 1 (at_rule chain) f es (at_end g later) → Runs p c (n + 1) (at_rule rs) g later o → Jumped c n t rs f es o
    away : (chain : List (List S)) → p.rules_at t ≡ Some chain → Runs p t 1 (at_rule chain) f es o → IsTerminal o → Jumped c n t rs f es o

  pub record Gone (t : ℕ) (f : Facts) (es : List Event) (o : RunResult) : Type 0 where
    pub chain : List (List S)
    pub stands : p.rules_at t ≡ Some chain
    pub runs : Runs p t 1 (at_rule chain) f es o

  -- after a verdict; the events include it
  abbrev pub Decided : RuleVerdict → ℕ → ℕ → List (List S) → Facts → List Event → RunResult → Type 0
  Decided Accept c n rs f es o = o ≡ over Accepted f es
  Decided Drop c n rs f es o = o ≡ over Dropped f es
  Decided (Translate t) c n rs f es o = o ≡ over (Translated t) f es
  Decided Continue c n rs f es o = Runs p c (n + 1) (at_rule rs) f es o
  Decided Return c n rs f es o = o ≡ at_end f es
  Decided (Jump t) c n rs f es o = Jumped c n t rs f es o
  Decided (Goto t) c n rs f es o = Gone t f es o

  -- after a statement with this effect
  abbrev pub Said : StatementEffect → ℕ → ℕ → ℕ → List S → List (List S) → Facts → List Event → RunResult → Type 0
  Said pass c n k ss rs f es o = Runs p c n (in_rule (k + 1) ss rs) f es o
  Said fail c n k ss rs f es o = Runs p c (n + 1) (at_rule rs) f es o
  Said (note e g) c n k ss rs f es o = Runs p c n (in_rule (k + 1) ss rs) g (es ++ e ∷ []) o
  Said (give d) c n k ss rs f es o = Decided d c n rs f (with_verdict p es c n d) o

  abbrev pub Opened : ℕ → ℕ → Remainder S → Facts → List Event → RunResult → Type 0
  Opened c n (at_rule []) f es o = o ≡ at_end f es
  Opened c n (at_rule (r ∷ rs)) f es o = Runs p c n (in_rule 1 r rs) f es o
  Opened c n (in_rule k [] rs) f es o = Runs p c (n + 1) (at_rule rs) f es o
  Opened c n (in_rule k (s ∷ ss) rs) f es o = Said (p.effect_of (statement_position p c n k) s f) c n k ss rs f es o

  by_effect : (w v : StatementEffect) (c n k : ℕ) (ss : List S) (rs : List (List S)) (f : Facts) (es : List Event)
      (o : RunResult) → w ≡ v → Said v c n k ss rs f es o → Said w c n k ss rs f es o
  by_effect w v c n k ss rs f es o is = subst (λ x. Said x c n k ss rs f es o) (sym is)

  pub open_run : {c n : ℕ} {l : Remainder S} {f : Facts} {es : List Event} {o : RunResult} → Runs p c n l f es o → Opened c n l f es o
  open_run runs.chain_ends = refl
  open_run (runs.next_rule r) = r
  open_run (runs.rule_ends r) = r
  open_run (runs.passes w r) = by_effect _ _ _ _ _ _ _ _ _ _ w r
  open_run (runs.fails {k = k} {ss = ss} w r) = by_effect _ fail _ _ k ss _ _ _ _ w r
  open_run (runs.notes e g w r) = by_effect _ (note e g) _ _ _ _ _ _ _ _ w r
  open_run (runs.accepts {ss = ss} {rs = rs} w) = by_effect _ (give Accept) _ _ _ ss rs _ _ _ w refl
  open_run (runs.drops {ss = ss} {rs = rs} w) = by_effect _ (give Drop) _ _ _ ss rs _ _ _ w refl
  open_run (runs.translates t {ss = ss} {rs = rs} w) = by_effect _ (give (Translate t)) _ _ _ ss rs _ _ _ w refl
  open_run (runs.continues {ss = ss} w r) = by_effect _ (give Continue) _ _ _ ss _ _ _ _ w r
  open_run (runs.returns {ss = ss} {rs = rs} w) = by_effect _ (give Return) _ _ _ ss rs _ _ _ w refl
  open_run (runs.jumps t {ss = ss} {rs = rs} g later chain w at first then) = by_effect _ (give (Jump t)) _ _ _ ss rs _ _ _ w (back chain g later at first then)
  open_run (runs.jumps_away t {ss = ss} {rs = rs} chain w at first ends) = by_effect _ (give (Jump t)) _ _ _ ss rs _ _ _ w (away chain at first ends)
  open_run (runs.goes t {ss = ss} {rs = rs} chain w at first) =
      by_effect _ (give (Goto t)) _ _ _ ss rs _ _ _ w (record { chain = chain; stands = at; runs = first })

  -- inversion for a statement with a known effect
  pub saying : {c n k : ℕ} {s : S} {ss : List S} {rs : List (List S)} {f : Facts} {es : List Event} {o : RunResult}
      (w : StatementEffect) → p.effect_of (statement_position p c n k) s f ≡ w
      → Runs p c n (in_rule k (s ∷ ss) rs) f es o → Said w c n k ss rs f es o
  saying {c} {n} {k} {s} {ss} {rs} {f} {es} {o} w is r = subst (λ x. Said x c n k ss rs f es o) is (open_run r)
