-- A way comes to a rule of a chain only behind the rule before it there.
use Rattle.std.proofs.Common.{◌≡◌, ◌∙◌, ◌+◌, ◌≤◌, ◌==◌, ◌&&◌, ◌||◌, ℕ, zero, suc, Bool, true, false, List, [], ◌∷◌, sym, refl, arith, inl, inr}
use Rattle.std.proofs.Common.{◌⊎◌, ◌-◌, Option, Some, None, unwrap_or, eq-eqb, add-zero, subst}
use Rattle.std.proofs.lemmas.Bool.{and_parts, eqb-true, or_cases}
use Rattle.std.proofs.lemmas.List.Folds.{list_any-append}
use Rattle.rule_meaning.specs.declared.event.RuleVerdict.{RuleVerdict}
use Rattle.rule_meaning.specs.declared.event.RuleVerdict.TheVariants as verdicts
use Rattle.rule_meaning.specs.declared.facts.Facts.{Facts}
use Rattle.rule_meaning.specs.Runs.{Program}
use Rattle.rule_sets.specs.Ends.{rule_end}
use Rattle.chain_ways.specs.Ways.{Way, WayEnd, after_verdict, comes_to, end_behind_chain, ended, is_of_rule, over, then_back, way, way_by}

-- the left or the right is so
or_left : (x y : Bool) → x ≡ true → (x || y) ≡ true
or_left true y e = refl
or_left false y e = cc

or_right : (x y : Bool) → y ≡ true → (x || y) ≡ true
or_right true y e = refl
or_right false y e = e

pub both_so : (x y : Bool) → x ≡ true → y ≡ true → (x && y) ≡ true
both_so true y e h = h
both_so false y e h = cc

module _ {S : Type 0} where
  abbrev Behind : Way S → Type 0
  Behind w = (c k : ℕ) → 1 ≤ k → comes_to c (k + 1) w ≡ true → comes_to c k w ≡ true

  -- the same of a way through the rules of chain t from number n on, but for that rule
  abbrev BehindFrom : ℕ → ℕ → Way S → Type 0
  BehindFrom t n w = (c k : ℕ) → 1 ≤ k → comes_to c (k + 1) w ≡ true → (comes_to c k w ≡ true) ⊎ ((t ≡ c) × (n ≡ k + 1))

  behind_end : (t n : ℕ) (rest : Facts → Way S) → ((f : Facts) → BehindFrom t n (rest f)) → (e : WayEnd) → BehindFrom t n (end_behind_chain rest e)
  behind_end t n rest is (ended f) = is f
  behind_end t n rest is (over v f) = λ c k low comes. absurd (cc)

  behind_back : (t n : ℕ) (rest : Facts → Way S) (w : Way S) → ((f : Facts) → BehindFrom t n (rest f)) → Behind w → BehindFrom t n (then_back rest w)
  behind_back t n rest w is first = λ c k low comes.
      let later = end_behind_chain rest w.end in
      let both = list_any-append (is_of_rule c k) w.visits later.visits in
      let either = or_cases (comes_to c (k + 1) w) (comes_to c (k + 1) later)
      (sym (list_any-append (is_of_rule c (k + 1)) w.visits later.visits) ∙ comes) in
      elim either [
        | inl here ↦ inl (both ∙ or_left _ _ (first c k low here))
        | inr there ↦ elim (behind_end t n rest is w.end c k low there) [
          | inl found ↦ inl (both ∙ or_right (comes_to c k w) _ found)
          | inr start ↦ inr start
        ]
      ]

  behind_verdict : (t n : ℕ) (into : ℕ → Facts → Way S) (rest : Facts → Way S) → ((s : ℕ) (f : Facts) → Behind (into s f))
      → ((f : Facts) → BehindFrom t n (rest f)) → (v : Option RuleVerdict) (f : Facts) → BehindFrom t n (after_verdict into rest v f)
  behind_verdict t n into rest first is None f = is f
  behind_verdict t n into rest first is (Some verdicts.Continue) f = is f
  behind_verdict t n into rest first is (Some verdicts.Accept) f = λ c k low comes. absurd (cc)
  behind_verdict t n into rest first is (Some verdicts.Drop) f = λ c k low comes. absurd (cc)
  behind_verdict t n into rest first is (Some (verdicts.Translate a)) f = λ c k low comes. absurd (cc)
  behind_verdict t n into rest first is (Some verdicts.Return) f = λ c k low comes. absurd (cc)
  behind_verdict t n into rest first is (Some (verdicts.Jump s)) f = behind_back t n rest (into s f) is (first s f)
  behind_verdict t n into rest first is (Some (verdicts.Goto s)) f = λ c k low comes. inl (first s f c k low comes)

  module _ (p : Program S) where
    behind_rules : (into : ℕ → Facts → Way S) → ((s : ℕ) (f : Facts) → Behind (into s f)) → (t n : ℕ) (rules : List (List S)) (f : Facts)
        → BehindFrom t n (way_by p into t n rules f)
    behind_rules into first t n [] f = λ c k low comes. absurd (cc)
    behind_rules into first t n (r ∷ rs) f = λ c k low comes.
        let e = rule_end p t n 1 r f in
        let later = after_verdict into (way_by p into t (n + 1) rs) e.verdict e.facts in
        elim (or_cases ((t == c) && (n == k + 1)) (comes_to c (k + 1) later) comes) [
          | inl here ↦ let parts = and_parts (t == c) (n == k + 1) here in inr (eqb-true t c parts.0, eqb-true n (k + 1) parts.1)
          | inr there ↦ elim (behind_verdict t (n + 1) into (way_by p into t (n + 1) rs) first
              (λ g. behind_rules into first t (n + 1) rs g) e.verdict e.facts c k low there) [
                | inl found ↦ inl (or_right ((t == c) && (n == k)) _ found)
                | inr start ↦ let same : n ≡ k = omega (arith, start.1) in
                    inl (or_left ((t == c) && (n == k)) (comes_to c k later) (both_so (t == c) (n == k) (eq-eqb t c start.0) (eq-eqb n k same)))
              ]
        ]

    behind : (levels t : ℕ) (f : Facts) → Behind (way p levels t f)
    behind zero t f = λ c k low comes. absurd (cc)
    behind (suc levels) t f = λ c k low comes.
        elim (behind_rules (way p levels) (behind levels) t 1 (unwrap_or (p.rules_at t) []) f c k low comes) [
          | inl found ↦ found
          | inr start ↦ absurd (omega (arith, start.1, low))
        ]

    later_by : (levels t : ℕ) (f : Facts) (c k d : ℕ) → 1 ≤ k → comes_to c (k + d) (way p levels t f) ≡ true → comes_to c k (way p levels t f) ≡ true
    later_by levels t f c k zero low comes = rw add-zero at comes
    later_by levels t f c k (suc d) low comes =
        let next : k + suc d ≡ (k + d) + 1 = omega arith in
        later_by levels t f c k d low (behind levels t f c (k + d) (omega (arith, low))
        (subst (λ n. comes_to c n (way p levels t f) ≡ true) next comes))

    -- who comes to a rule came to each before it
    pub comes_earlier : (levels t : ℕ) (f : Facts) (c k j : ℕ) → 1 ≤ k → k ≤ j → comes_to c j (way p levels t f) ≡ true
        → comes_to c k (way p levels t f) ≡ true
    comes_earlier levels t f c k j low under comes =
        let is : j ≡ k + (j - k) = omega (arith, under) in
        later_by levels t f c k (j - k) low (subst (λ n. comes_to c n (way p levels t f) ≡ true) is comes)
