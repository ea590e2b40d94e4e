-- The sets of a rule, with more packets.
use Rattle.std.proofs.Common.{◌≡◌, ◌∙◌, ◌&&◌, ◌||◌, ◌==◌, ℕ, Bool, true, false, cond, refl, ap, sym, subst, Option, Some, unwrap_or}
use Rattle.std.proofs.lemmas.Bool.{and_parts, eqb-true}
use Rattle.packet_sets.specs.Sets.{DiagramsView, IsSet, Keeps, Means, holds}
use Rattle.rule_sets.proofs.Sorting.{keeps_trans}
use Rattle.chain_sets.specs.declared.visits.RuleSets.{RuleSets}
use Rattle.chain_sets.specs.steps.Looks.{AddsRule, AreRuleSets, Look, ends_so, in_rule, in_rules, meets_last, reaches}
use Rattle.chain_sets.proofs.Cases.{or-none}

-- what a map has then
pub put-at : {A : Type 0} (b : Bool) (s d : A) (x o : Option A) → x ≡ cond b (Some s) o → unwrap_or x d ≡ cond b s (unwrap_or o d)
put-at true s d x o is = ap (λ y. unwrap_or y d) is
put-at false s d x o is = ap (λ y. unwrap_or y d) is

module _ (d0 d1 d2 : DiagramsView) (c n : ℕ) (more new : RuleSets) (before after : ℕ → ℕ → RuleSets)
    (puts : (c' n' : ℕ) → after c' n' ≡ cond (c == c' && n == n') new (before c' n'))
    (are : AreRuleSets d0 before) (met_is : IsSet d0 more.met) (k1 : Keeps d0 d1) (k2 : Keeps d1 d2)
    (reached : Means d1 new.reached (λ f. holds d0 (before c n).reached f || holds d0 more.reached f))
    (met : Means d2 new.met (λ f. holds d1 (before c n).met f || holds d1 more.met f)) where
  k : Keeps d0 d2
  k = keeps_trans d0 d1 d2 k1 k2

  same_place : (c' n' : ℕ) → true ≡ (c == c' && n == n') → before c n ≡ before c' n'
  same_place c' n' is =
      let both = and_parts (c == c') (n == n') (sym is) in
      ap (λ x. before x n) (eqb-true c c' both.0) ∙ ap (before c') (eqb-true n n' both.1)

  sets-at : (c' n' : ℕ) (b : Bool) → IsSet d2 (cond b new (before c' n')).reached × IsSet d2 (cond b new (before c' n')).met
  sets-at c' n' true = (k2.sets new.reached reached.is_set, met.is_set)
  sets-at c' n' false = (k.sets (before c' n').reached (are c' n').0, k.sets (before c' n').met (are c' n').1)

  reached-at : (c' n' : ℕ) (f : ℕ → Bool) (b : Bool) → b ≡ (c == c' && n == n')
      → holds d2 (cond b new (before c' n')).reached f ≡ (holds d0 (before c' n').reached f || (b && holds d0 more.reached f))
  reached-at c' n' f true is =
      k2.same new.reached f reached.is_set ∙ reached.same f
      ∙ ap (λ s. holds d0 s.reached f || holds d0 more.reached f) (same_place c' n' is)
  reached-at c' n' f false is = k.same (before c' n').reached f (are c' n').0 ∙ sym (or-none (holds d0 (before c' n').reached f))

  met-at : (c' n' : ℕ) (f : ℕ → Bool) (b : Bool) → b ≡ (c == c' && n == n')
      → holds d2 (cond b new (before c' n')).met f ≡ (holds d0 (before c' n').met f || (b && holds d0 more.met f))
  met-at c' n' f true is =
      met.same f ∙ ap (λ h. h || holds d1 more.met f) (k1.same (before c n).met f (are c n).1)
      ∙ ap (λ h. holds d0 (before c n).met f || h) (k1.same more.met f met_is)
      ∙ ap (λ s. holds d0 s.met f || holds d0 more.met f) (same_place c' n' is)
  met-at c' n' f false is = k.same (before c' n').met f (are c' n').1 ∙ sym (or-none (holds d0 (before c' n').met f))

  found : (look : Look) (f : ℕ → Bool) → in_rules d2 after look f ≡ (in_rules d0 before look f || in_rule d0 c n more look f)
  found (reaches c' n') f = ap (λ s. holds d2 s.reached f) (puts c' n') ∙ reached-at c' n' f (c == c' && n == n') refl
  found (meets_last c' n') f = ap (λ s. holds d2 s.met f) (puts c' n') ∙ met-at c' n' f (c == c' && n == n') refl
  found (ends_so test) f = refl

  pub visits-added : AddsRule d0 d2 c n more before after
  visits-added = record {
    are = λ c' n'. subst (λ s. IsSet d2 s.reached × IsSet d2 s.met) (sym (puts c' n')) (sets-at c' n' (c == c' && n == n'));
    same = found;
  }
