-- The visits of a way are of rules of the program.
use Rattle.std.proofs.Common.{◌≡◌, inl, inr, ℕ, zero, suc, ◌+◌, List, [], ◌∷◌, ◌++◌, slice_get, Contains, Option, Some, None, unwrap_or}
use Rattle.std.proofs.Common.{refl, subst, arith}
use Rattle.std.proofs.lemmas.List.Elements.{Contains-append_cases}
use Rattle.list_laws.specs.Decisions.{Contains-cases, Contains-none}
use Rattle.rule_meaning.specs.declared.facts.Facts.{Facts}
use Rattle.rule_meaning.specs.declared.event.RuleVerdict.{RuleVerdict}
use Rattle.rule_meaning.specs.declared.event.RuleVerdict.TheVariants.{Accept, Drop, Continue, Return, Jump, Goto, Translate}
use Rattle.rule_meaning.specs.Runs.{Program}
use Rattle.rule_sets.specs.Ends.{rule_end}
use Rattle.chain_ways.specs.Ways.{WayEnd, ended, over, Visit, Way, after_verdict, end_behind_chain, way_by, way}
use Rattle.chain_ways.specs.Laws.{statements_at}

module _ {S : Type 0} (P : Visit S → Type 0) where
  -- each visit of the way has the property
  abbrev pub AllVisits : Way S → Type 0
  AllVisits w = (v : Visit S) → Contains w.visits v → P v

  behind : (rest : Facts → Way S) → ((f : Facts) → AllVisits (rest f)) → (end : WayEnd) → AllVisits (end_behind_chain rest end)
  behind rest all (ended f) = all f
  behind rest all (over verdict f) = λ v has. absurd (Contains-none v has)

  both : (xs ys : List (Visit S)) → ((v : Visit S) → Contains xs v → P v) → ((v : Visit S) → Contains ys v → P v)
      → (v : Visit S) → Contains (xs ++ ys) v → P v
  both xs ys first later v has = elim (Contains-append_cases xs ys v has) [ inl h ↦ first v h | inr h ↦ later v h ]

  after : (into : ℕ → Facts → Way S) → ((t : ℕ) (f : Facts) → AllVisits (into t f)) → (rest : Facts → Way S)
      → ((f : Facts) → AllVisits (rest f)) → (d : Option RuleVerdict) (f : Facts) → AllVisits (after_verdict into rest d f)
  after into called rest all None f = all f
  after into called rest all (Some Continue) f = all f
  after into called rest all (Some Accept) f = λ v has. absurd (Contains-none v has)
  after into called rest all (Some Drop) f = λ v has. absurd (Contains-none v has)
  after into called rest all (Some (Translate t)) f = λ v has. absurd (Contains-none v has)
  after into called rest all (Some Return) f = λ v has. absurd (Contains-none v has)
  after into called rest all (Some (Jump t)) f =
      both (into t f).visits (end_behind_chain rest (into t f).end).visits (called t f) (behind rest all (into t f).end)
  after into called rest all (Some (Goto t)) f = called t f

module _ {S : Type 0} (p : Program S) where
  abbrev pub IsOfRule : Visit S → Type 0
  IsOfRule v = statements_at p v.chain v.rule ≡ Some v.statements

  module _ (into : ℕ → Facts → Way S) (called : (t : ℕ) (f : Facts) → AllVisits IsOfRule (into t f)) (c : ℕ) where
    through : (n : ℕ) (rs : List (List S)) → ((i : ℕ) (r : List S) → slice_get rs i ≡ Some r → statements_at p c (n + i) ≡ Some r)
        → (f : Facts) → AllVisits IsOfRule (way_by p into c n rs f)
    through n [] here f = λ v has. absurd (Contains-none v has)
    through n (r ∷ rs) here f =
        let first : n + 0 ≡ n = omega arith in
        let visit : Visit S = record { chain = c; rule = n; statements = r; facts = f } in
        let of_rule : IsOfRule visit = subst (λ i. statements_at p c i ≡ Some r) first (here 0 r refl) in
        let rest : (g : Facts) → AllVisits IsOfRule (way_by p into c (n + 1) rs g) =
        through (n + 1) rs (λ i x at. let on : n + suc i ≡ n + 1 + i = omega arith in
        subst (λ j. statements_at p c j ≡ Some x) on (here (suc i) x at)) in
        both IsOfRule (visit ∷ []) (after_verdict into (way_by p into c (n + 1) rs) (rule_end p c n 1 r f).verdict (rule_end p c n 1 r f).facts).visits
        (λ v has. elim (Contains-cases visit v [] has) [ inl same ↦ subst IsOfRule same of_rule | inr none ↦ absurd (Contains-none v none) ])
        (after IsOfRule into called (way_by p into c (n + 1) rs) rest (rule_end p c n 1 r f).verdict (rule_end p c n 1 r f).facts)

    through_chain : (o : Option (List (List S))) → p.rules_at c ≡ o → (f : Facts) → AllVisits IsOfRule (way_by p into c 1 (unwrap_or o []) f)
    through_chain None at f = λ v has. absurd (Contains-none v has)
    through_chain (Some rules) at f = through 1 rules (λ i r here. by_rule i r here) f
      where
        by_rule : (i : ℕ) (r : List S) → slice_get rules i ≡ Some r → statements_at p c (1 + i) ≡ Some r
        by_rule i r here =
            let next : suc i ≡ 1 + i = omega arith in
            subst (λ j. statements_at p c j ≡ Some r) next (rw at here)

  pub visits_are_of_rules : (levels t : ℕ) (f : Facts) → AllVisits IsOfRule (way p levels t f)
  visits_are_of_rules zero t f = λ v has. absurd (Contains-none v has)
  visits_are_of_rules (suc levels) t f = through_chain (way p levels) (visits_are_of_rules levels) t (p.rules_at t) refl f
