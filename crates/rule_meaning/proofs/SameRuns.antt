-- Remainders of chains with the same results.
use Rattle.std.proofs.Common.{◌≡◌, ◌↔◌, ℕ, ◌+◌, List, [], ◌∷◌, ◌++◌, length, Some, None, append-nil, refl, sym, subst, arith}
use Rattle.std.proofs.lemmas.Option.{none-some}
use Rattle.nft_tree.specs.Tree as tree
use Rattle.nft_tree.specs.Tree.{Statement, TableTree}
use Rattle.box_file.specs.Box.{PlantTree}
use Rattle.rule_meaning.specs.declared.facts.Facts.{Facts}
use Rattle.rule_meaning.specs.declared.event.Event.{Event}
use Rattle.rule_meaning.specs.declared.event.Event.TheVariants.{Counted}
use Rattle.rule_meaning.specs.declared.event.RuleVerdict.{RuleVerdict}
use Rattle.rule_meaning.specs.declared.event.RuleVerdict.TheVariants.{Accept, Drop, Continue, Return, Jump, Goto, Translate}
use Rattle.rule_meaning.specs.declared.event.HookVerdict.TheVariants.{Accepted, Dropped, Translated}
use Rattle.rule_meaning.specs.Statements.{StatementEffect, pass, fail, note, give}
use Rattle.rule_meaning.specs.Runs as runs
use Rattle.rule_meaning.specs.Runs.{Program, table_program, Remainder, at_rule, in_rule, RunResult, at_end, over}
use Rattle.rule_meaning.specs.Runs.{IsTerminal, Runs, statement_position, with_verdict}
use Rattle.rule_meaning.specs.Laws.{state_after, state_behind, EmptyJump, CounterCounts, UnreachedHasNoEffect}
use Rattle.rule_meaning.proofs.Inversion as inversion
use Rattle.rule_meaning.proofs.Inversion.{Jumped, Decided, saying}

module _ {S : Type 0} (p : Program S) where
  -- ---- from a statement's effect to the run

  module _ (c n k : ℕ) (s : S) (ss : List S) (rs : List (List S)) (f : Facts) (es : List Event) (o : RunResult) where
    jumped : (t : ℕ) → p.effect_of (statement_position p c n k) s f ≡ give (Jump t)
        → Jumped p c n t rs f (with_verdict p es c n (Jump t)) o → Runs p c n (in_rule k (s ∷ ss) rs) f es o
    jumped t is (inversion.back chain g later at a b) = runs.jumps t g later chain is at a b
    jumped t is (inversion.away chain at a ends) = runs.jumps_away t chain is at a ends

    end_in : (x : RunResult) → o ≡ x → Runs p c n (in_rule k (s ∷ ss) rs) f es x → Runs p c n (in_rule k (s ∷ ss) rs) f es o
    end_in x is = subst (λ y. Runs p c n (in_rule k (s ∷ ss) rs) f es y) (sym is)

    decided : (d : RuleVerdict) → p.effect_of (statement_position p c n k) s f ≡ give d
        → Decided p d c n rs f (with_verdict p es c n d) o → Runs p c n (in_rule k (s ∷ ss) rs) f es o
    decided Accept is h = end_in (over Accepted f (with_verdict p es c n Accept)) h (runs.accepts is)
    decided Drop is h = end_in (over Dropped f (with_verdict p es c n Drop)) h (runs.drops is)
    decided (Translate t) is h = end_in (over (Translated t) f (with_verdict p es c n (Translate t))) h (runs.translates t is)
    decided Continue is h = runs.continues is h
    decided Return is h = end_in (at_end f (with_verdict p es c n Return)) h (runs.returns is)
    decided (Jump t) is h = jumped t is h
    decided (Goto t) is h = runs.goes t h.chain is h.stands h.runs

  -- ---- an empty chain

  follows : (c n : ℕ) (rs : List (List S)) (f : Facts) (es : List Event) (o : RunResult) (g : Facts)
      (later : List Event) → at_end g later ≡ at_end f es → Runs p c (n + 1) (at_rule rs) g later o
      → Runs p c (n + 1) (at_rule rs) f es o
  follows c n rs f es o g later same = grind arith

  empty_run : (t : ℕ) (chain : List (List S)) (f : Facts) (es : List Event) (o : RunResult) → p.rules_at t ≡ Some []
      → p.rules_at t ≡ Some chain → Runs p t 1 (at_rule chain) f es o → o ≡ at_end f es
  empty_run t chain f es o none at r = grind arith

  empty_jumped : (c n t : ℕ) (rs : List (List S)) (f : Facts) (es : List Event) (o : RunResult) → p.rules_at t
      ≡ Some [] → Jumped p c n t rs f es o → Runs p c (n + 1) (at_rule rs) f es o
  empty_jumped c n t rs f es o none (inversion.back chain g later at a b) = follows c n rs f es o g later (empty_run t chain f es _ none at a) b
  empty_jumped c n t rs f es o none (inversion.away chain at a ends) = absurd (subst IsTerminal (empty_run t chain f es o none at a) ends)

  -- ---- statements that a packet passes

  -- the two remainders have the same results
  abbrev Alike : ℕ → ℕ → Remainder S → Facts → List Event → Remainder S → Facts → List Event → RunResult → Type 0
  Alike c n l f es k g later o = Runs p c n l f es o ↔ Runs p c n k g later o

  abbrev Comes : ℕ → ℕ → ℕ → List S → List S → List (List S) → Facts → List Event → Facts → List Event → RunResult → Type 0
  Comes c n k before rest rs f es g later o = state_after p c n k before f es ≡ Some (g, later)
      → Alike c n (in_rule k (before ++ rest) rs) f es (in_rule (k + length before) rest rs) g later o

  module _ (c n : ℕ) (rest : List S) (rs : List (List S)) (g : Facts) (later : List Event) (o : RunResult) where
    renumbered : (k m : ℕ) → k ≡ m → Runs p c n (in_rule k rest rs) g later o → Runs p c n (in_rule m rest rs) g later o
    renumbered k m e = subst (λ x. Runs p c n (in_rule x rest rs) g later o) e

    behind : (k : ℕ) (s : S) (ss : List S) (f : Facts) (es : List Event) (w : StatementEffect)
        → p.effect_of (statement_position p c n k) s f ≡ w
        → ((h : Facts) (e : List Event) → Comes c n (k + 1) ss rest rs h e g later o)
        → state_behind (state_after p c n (k + 1) ss) f es w ≡ Some (g, later)
        → Alike c n (in_rule k (s ∷ (ss ++ rest)) rs) f es (in_rule (k + length (s ∷ ss)) rest rs) g later o
    behind k s ss f es pass is next e =
        let q = next f es e in
        let on : k + 1 + length ss ≡ k + length (s ∷ ss) = omega arith in
        (λ r. renumbered _ _ on (q.0 (saying p pass is r)), λ r. runs.passes is (q.1 (renumbered _ _ (sym on) r)))
    behind k s ss f es (note x h) is next e =
        let q = next h (es ++ x ∷ []) e in
        let on : k + 1 + length ss ≡ k + length (s ∷ ss) = omega arith in
        (λ r. renumbered _ _ on (q.0 (saying p (note x h) is r)), λ r. runs.notes x h is (q.1 (renumbered _ _ (sym on) r)))
    behind k s ss f es fail is next e = absurd (none-some _ e)
    behind k s ss f es (give d) is next e = absurd (none-some _ e)

    pub comes_through : (before : List S) (k : ℕ) (f : Facts) (es : List Event) → Comes c n k before rest rs f es g later o
    comes_through [] k f es e = grind arith
    comes_through (s ∷ ss) k f es e = behind k s ss f es (p.effect_of (statement_position p c n k) s f) refl (λ h x. comes_through ss (k + 1) h x) e

  -- ---- statements that it doesn't pass

  module _ (c n : ℕ) (rest other : List S) (rs : List (List S)) (o : RunResult) where
    stopped : (k : ℕ) (s : S) (ss : List S) (f : Facts) (es : List Event) (w : StatementEffect)
        → p.effect_of (statement_position p c n k) s f ≡ w
        → ((h : Facts) (e : List Event) → state_after p c n (k + 1) ss h e ≡ None
        → Runs p c n (in_rule (k + 1) (ss ++ rest) rs) h e o → Runs p c n (in_rule (k + 1) (ss ++ other) rs) h e o)
        → state_behind (state_after p c n (k + 1) ss) f es w ≡ None → Runs p c n (in_rule k (s ∷ (ss ++ rest)) rs) f
        es o → Runs p c n (in_rule k (s ∷ (ss ++ other)) rs) f es o
    stopped k s ss f es pass is next e r = runs.passes is (next f es e (saying p pass is r))
    stopped k s ss f es (note x h) is next e r = runs.notes x h is (next h (es ++ x ∷ []) e (saying p (note x h) is r))
    stopped k s ss f es fail is next e r = runs.fails is (saying p fail is r)
    stopped k s ss f es (give d) is next e r = decided c n k s (ss ++ other) rs f es o d is (saying p (give d) is r)

    pub stops_within : (before : List S) (k : ℕ) (f : Facts) (es : List Event) → state_after p c n k before f es
        ≡ None → Runs p c n (in_rule k (before ++ rest) rs) f es o → Runs p c n (in_rule k (before ++ other) rs) f es o
    stops_within [] k f es e r = absurd (none-some _ (sym e))
    stops_within (s ∷ ss) k f es e r = stopped k s ss f es (p.effect_of (statement_position p c n k) s f) refl (λ h x. stops_within ss (k + 1) h x) e r

-- ---- the properties

pub empty_jumps : (p : Program Statement) → EmptyJump p
empty_jumps p c n k t s ss rs f es is none o = (
  λ r. empty_jumped p c n t rs f (with_verdict p es c n (Jump t)) o none (saying p (give (Jump t)) is r),
  λ r. runs.jumps t f (with_verdict p es c n (Jump t)) [] is none runs.chain_ends r,
)

pub counter_sees : (network : PlantTree) (number : ℕ) (t : TableTree) → CounterCounts network number t
counter_sees network number t c n k before after start rs f g es later e o =
    let p = table_program network number t in
    let q = comes_through p c n (tree.counter start ∷ after) rs g later o before k f es e in (
      λ r. saying p (note (Counted (statement_position p c n (k + length before))) g) refl (q.0 r),
      λ r. q.1 (runs.notes (Counted (statement_position p c n (k + length before))) g refl r),
    )

pub nothing_behind : (network : PlantTree) (number : ℕ) (t : TableTree) → UnreachedHasNoEffect network number t
nothing_behind network number t c n k before after rs f es e o =
    let p = table_program network number t in
    let whole : before ++ [] ≡ before = append-nil before in (
      λ r. subst (λ l. Runs p c n (in_rule k l rs) f es o) whole (stops_within p c n after [] rs o before k f es e r),
      λ r. stops_within p c n [] after rs o before k f es e (subst (λ l. Runs p c n (in_rule k l rs) f es o) (sym whole) r),
    )
