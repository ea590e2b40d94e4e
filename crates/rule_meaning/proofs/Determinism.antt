-- Running the remainder of a chain is deterministic.
use Rattle.std.proofs.Common.{arith}
use Rattle.std.proofs.Common.{◌≡◌, ℕ, ◌+◌, List, Some, unwrap_or, sym, ap, ◌∙◌, subst}
use Rattle.rule_meaning.specs.declared.facts.Facts.{Facts}
use Rattle.rule_meaning.specs.declared.event.RuleVerdict.TheVariants.{Accept, Drop, Continue, Return, Jump, Goto, Translate}
use Rattle.rule_meaning.specs.declared.event.Event.{Event}
use Rattle.rule_meaning.specs.Statements.{pass, fail, note, give}
use Rattle.rule_meaning.specs.Runs as runs
use Rattle.rule_meaning.specs.Runs.{Program, Remainder, at_rule, RunResult, at_end, over, IsTerminal, Runs}
use Rattle.rule_meaning.proofs.Inversion as inversion
use Rattle.rule_meaning.proofs.Inversion.{Jumped, Gone, open_run, saying}

module _ {S : Type 0} (p : Program S) where
  -- what follows the end of a chain
  abbrev Next : ℕ → ℕ → List (List S) → RunResult → RunResult → Type 0
  Next c n rs o (at_end g later) = Runs p c (n + 1) (at_rule rs) g later o
  Next c n rs o (over e g later) = ⊥

  -- the chain with an index is unique
  same_chain : (t : ℕ) (a b : List (List S)) → p.rules_at t ≡ Some a → p.rules_at t ≡ Some b → a ≡ b
  same_chain t a b first second = ap (λ x. unwrap_or x a) (sym first ∙ second)

  one_back : (c n t : ℕ) (rs : List (List S)) (f : Facts) (es : List Event) (chain : List (List S)) (g : Facts)
      (later : List Event) (o o' : RunResult) → p.rules_at t ≡ Some chain
      → ((x : RunResult) → Runs p t 1 (at_rule chain) f es x → at_end g later ≡ x)
      → ((x : RunResult) → Runs p c (n + 1) (at_rule rs) g later x → o ≡ x) → Jumped p c n t rs f es o' → o ≡ o'
  one_back c n t rs f es chain g later o o' at first then (inversion.back other h last stands a b) = grind arith
  one_back c n t rs f es chain g later o o' at first then (inversion.away other stands a ends) = grind arith

  one_away : (c n t : ℕ) (rs : List (List S)) (f : Facts) (es : List Event) (chain : List (List S)) (o o' : RunResult)
      → p.rules_at t ≡ Some chain → ((x : RunResult) → Runs p t 1 (at_rule chain) f es x → o ≡ x) → IsTerminal o
      → Jumped p c n t rs f es o' → o ≡ o'
  one_away c n t rs f es chain o o' at first ends (inversion.back other h last stands a b) = grind arith
  one_away c n t rs f es chain o o' at first ends (inversion.away other stands a _) =
      first o' (subst (λ x. Runs p t 1 (at_rule x) f es o') (same_chain t other chain stands at) a)

  one_gone : (t : ℕ) (f : Facts) (es : List Event) (chain : List (List S)) (o o' : RunResult) → p.rules_at t
      ≡ Some chain → ((x : RunResult) → Runs p t 1 (at_rule chain) f es x → o ≡ x) → Gone p t f es o' → o ≡ o'
  one_gone t f es chain o o' at first q = first o' (subst (λ x. Runs p t 1 (at_rule x) f es o') (same_chain t q.chain chain q.stands at) q.runs)

  pub one_after : {c n : ℕ} {l : Remainder S} {f : Facts} {es : List Event} {o : RunResult} → Runs p c n l f es o
      → (o' : RunResult) → Runs p c n l f es o' → o ≡ o'
  one_after runs.chain_ends o' r = sym (open_run p r)
  one_after (runs.next_rule g) o' r = one_after g o' (open_run p r)
  one_after (runs.rule_ends g) o' r = one_after g o' (open_run p r)
  one_after (runs.passes w g) o' r = one_after g o' (saying p pass w r)
  one_after (runs.fails w g) o' r = one_after g o' (saying p fail w r)
  one_after (runs.notes e h w g) o' r = one_after g o' (saying p (note e h) w r)
  one_after (runs.accepts w) o' r = sym (saying p (give Accept) w r)
  one_after (runs.drops w) o' r = sym (saying p (give Drop) w r)
  one_after (runs.translates t w) o' r = sym (saying p (give (Translate t)) w r)
  one_after (runs.continues w g) o' r = one_after g o' (saying p (give Continue) w r)
  one_after (runs.returns w) o' r = sym (saying p (give Return) w r)
  one_after (runs.jumps t {rs = rs} h later chain w at first then) o' r =
      one_back _ _ t rs _ _ chain h later _ o' at (one_after first) (one_after then) (saying p (give (Jump t)) w r)
  one_after (runs.jumps_away t {rs = rs} chain w at first ends) o' r = one_away _ _ t rs _ _ chain _ o' at (one_after first) ends (saying p (give (Jump t)) w r)
  one_after (runs.goes t chain w at first) o' r = one_gone t _ _ chain _ o' at (one_after first) (saying p (give (Goto t)) w r)
