-- The events of a way show which rules it comes to, and which it meets.
use Rattle.std.proofs.Common.{◌≡◌, ◌⊎◌, inl, inr, ℕ, zero, suc, ◌==◌, ◌&&◌, true, false, List, [], ◌∷◌, ◌++◌, map}
use Rattle.std.proofs.Common.{slice_get, Contains, Option, Some, None, option_map, option_and_then, unwrap_or, refl, sym, ap, ap₂, ◌∙◌, subst}
use Rattle.std.proofs.Common.{eq-eqb, eqb-true}
use Rattle.std.specs.List.{list_any, filter_map}
use Rattle.std.proofs.lemmas.Bool.{and_from, and_parts, false_from_ne_true}
use Rattle.std.proofs.lemmas.List.Elements.{Contains-append_left, Contains-append_right, Contains-push_cases}
use Rattle.list_laws.specs.Lists.{Contains-head}
use Rattle.list_laws.specs.Decisions.{Contains-cases, Contains-none, Contains-there}
use Rattle.list_laws.specs.Elements.{Contains-unmap}
use Rattle.nft_tree.specs.declared.ruleset.RuleNo.{RuleNo}
use Rattle.nft_tree.specs.declared.chain.Policy.{Policy}
use Rattle.nft_tree.specs.declared.statement.CounterStart.{CounterStart}
use Rattle.nft_tree.specs.Tree as tree
use Rattle.nft_tree.specs.Tree.{Statement, RuleTree, ChainTree, ItemTree, TableTree}
use Rattle.nft_tree.specs.TableItems.{chain_in, chains_of, numbered_from_one}
use Rattle.box_file.specs.Box.{PlantTree}
use Rattle.rule_check.specs.Chains.{is_terminal, has_statement_after_terminal, rule_has_unreachable, item_has_unreachable, has_unreachable_statement}
use Rattle.rule_check.specs.declared.fault.CheckFault.TheVariants as faults
use Rattle.rule_check.specs.WellFormed.{WellFormed}
use Rattle.rule_meaning.specs.declared.facts.Facts.{Facts}
use Rattle.rule_meaning.specs.declared.event.ChainNo.{ChainNo}
use Rattle.rule_meaning.specs.declared.event.Event.{Event}
use Rattle.rule_meaning.specs.declared.event.Event.TheVariants.{Counted, Logged, Untracked, Marked, TookVerdict, TookPolicy}
use Rattle.rule_meaning.specs.declared.event.RuleVerdict.{RuleVerdict}
use Rattle.rule_meaning.specs.Runs.{Program, table_program, rule_no, statement_position}
use Rattle.rule_meaning.specs.Hooks.{BaseChain, HookResult, policy_of, with_policy}
use Rattle.rule_sets.specs.Ends.{RuleEnd, rule_end, rule_events}
use Rattle.chain_ways.specs.Ways.{WayEnd, ended, over, Visit, Way, is_of_rule, way, comes_to, meets, events_of_visits, result_with, run_result}
use Rattle.chain_ways.specs.Laws.{rule_of_event, statements_at, EventsFitWay, BaseChainRunsAreWays, BaseChainEventsFitWays}
use Rattle.chain_ways.proofs.Events.{IsOwn, own, kept, gave, met, ends_given}
use Rattle.chain_ways.proofs.Lists.{any_of, one_of, got}
use Rattle.chain_ways.proofs.Visits.{AllVisits, IsOfRule, visits_are_of_rules}

-- ---- visits by rule

module _ {S : Type 0} (c n : ℕ) (v : Visit S) where
  of_rule : v.chain ≡ c → v.rule ≡ n → is_of_rule c n v ≡ true
  of_rule chain rule = and_from (v.chain == c) (v.rule == n) (eq-eqb v.chain c chain) (eq-eqb v.rule n rule)

  rule_of : is_of_rule c n v ≡ true → (v.chain ≡ c) × (v.rule ≡ n)
  rule_of is = let q = and_parts (v.chain == c) (v.rule == n) is in (eqb-true v.chain c q.0, eqb-true v.rule n q.1)

-- ---- no statement stands behind a terminal one

-- the item of a chain has what its rules have
in_items : (items : List ItemTree) (chain : ChainTree) → Contains (filter_map chain_in items) chain
    → list_any rule_has_unreachable chain.rules ≡ true → (item : ItemTree) × Contains items item × (item_has_unreachable item ≡ true)
in_items [] chain has is = absurd (Contains-none chain has)
in_items (tree.chain x ∷ items) chain has is =
    elim (Contains-cases x chain (filter_map chain_in items) has) [
      | inl same ↦ (tree.chain x, Contains-head (tree.chain x) items, ap (λ (y : ChainTree). list_any rule_has_unreachable y.rules) same ∙ is)
      | inr later ↦ (let q = in_items items chain later is in (q.0, Contains-there (tree.chain x) q.0 items q.1, q.2))
    ]
in_items (tree.comment x ∷ items) chain has is = let q = in_items items chain has is in (q.0, Contains-there (tree.comment x) q.0 items q.1, q.2)
in_items (tree.set x ∷ items) chain has is = let q = in_items items chain has is in (q.0, Contains-there (tree.set x) q.0 items q.1, q.2)
in_items (tree.map_item x ∷ items) chain has is = let q = in_items items chain has is in (q.0, Contains-there (tree.map_item x) q.0 items q.1, q.2)

module _ (network : PlantTree) (number : ℕ) (t : TableTree) where
  abbrev p : Program Statement
  p = table_program network number t

  -- rules of the table, where no rule of the tables has a statement behind a terminal one
  module _ (tables : List TableTree) (at : slice_get tables number ≡ Some t) (tidy : list_any has_unreachable_statement tables ≡ true → ⊥) where
    ends_in_chain : (n : ℕ) (ss : List Statement) (o : Option ChainTree) → slice_get (chains_of t) n ≡ o → (m : ℕ)
        → option_and_then (λ rules. numbered_from_one rules m) (option_map (λ (x : ChainTree). map (λ r. r.statements) x.rules) o) ≡ Some ss
        → has_statement_after_terminal ss ≡ true → ⊥
    ends_in_chain n ss None here m is bad = absurd cc
    ends_in_chain n ss (Some x) here zero is bad = absurd cc
    ends_in_chain n ss (Some x) here (suc i) is bad =
        let rule = Contains-unmap (λ (r : RuleTree). r.statements) x.rules ss (got (map (λ r. r.statements) x.rules) i ss is) in
        let unreachable : rule_has_unreachable rule.0 ≡ true = ap has_statement_after_terminal rule.2 ∙ bad in
        let item = in_items t.items x (got (chains_of t) n x here) (any_of rule_has_unreachable x.rules rule.0 rule.1 unreachable) in
        tidy (any_of has_unreachable_statement tables t (got tables number t at) (any_of item_has_unreachable t.items item.0 item.1 item.2))

    pub ends_last : (c n : ℕ) (ss : List Statement) → statements_at p c n ≡ Some ss → has_statement_after_terminal ss ≡ false
    ends_last c n ss is = false_from_ne_true (has_statement_after_terminal ss) (ends_in_chain c ss (slice_get (chains_of t) c) refl n is)

  -- ---- the events of visits

  module _ (vs : List (Visit Statement)) where
    record OwnVisit (e : Event) : Type 0 where
      visit : Visit Statement
      member : Contains vs visit
      is_own : IsOwn network number t visit.chain visit.rule (rule_end p visit.chain visit.rule 1 visit.statements visit.facts) e

  own_visits : (vs : List (Visit Statement)) (es : List Event) (e : Event) → Contains (events_of_visits p vs es) e → Contains es e ⊎ OwnVisit vs e
  own_visits [] es e has = inl has
  own_visits (v ∷ vs) es e has =
      elim (own_visits vs (rule_events p v.chain v.rule 1 v.statements v.facts es) e has) [
        | inl before ↦ elim (own network number t v.chain v.rule 1 v.statements v.facts es e before) [
          | inl h ↦ inl h
          | inr here ↦ inr (record { visit = v; member = Contains-head v vs; is_own = here })
        ]
        | inr q ↦ inr (record { visit = q.visit; member = Contains-there v q.visit vs q.member; is_own = q.is_own })
      ]

  kept_visits : (vs : List (Visit Statement)) (es : List Event) (e : Event) → Contains es e → Contains (events_of_visits p vs es) e
  kept_visits [] es e has = has
  kept_visits (v ∷ vs) es e has =
      kept_visits vs (rule_events p v.chain v.rule 1 v.statements v.facts es) e (kept network number t v.chain v.rule 1 v.statements v.facts es e has)

  visit_event : (vs : List (Visit Statement)) (v : Visit Statement) → Contains vs v → (e : Event)
      → ((es : List Event) → Contains (rule_events p v.chain v.rule 1 v.statements v.facts es) e) → (es : List Event)
      → Contains (events_of_visits p vs es) e
  visit_event [] v has e given es = absurd (Contains-none v has)
  visit_event (x ∷ xs) v has e given es =
      elim (Contains-cases x v xs has) [
        | inl same ↦ kept_visits xs (rule_events p x.chain x.rule 1 x.statements x.facts es) e
            (subst (λ (y : Visit Statement). Contains (rule_events p y.chain y.rule 1 y.statements y.facts es) e) (sym same) (given es))
        | inr later ↦ visit_event xs v later e given (rule_events p x.chain x.rule 1 x.statements x.facts es)
      ]

  rule_is : (c n : ℕ) (end : RuleEnd) (e : Event) (r : RuleNo) → IsOwn network number t c n end e → rule_of_event e ≡ Some r → r ≡ rule_no p c n
  rule_is c n end (Counted place) r is_own is = ap (λ o. unwrap_or o r) (sym is) ∙ is_own
  rule_is c n end (Logged place) r is_own is = ap (λ o. unwrap_or o r) (sym is) ∙ is_own
  rule_is c n end (TookVerdict rule d) r is_own is = ap (λ o. unwrap_or o r) (sym is) ∙ is_own.0
  rule_is c n end Untracked r is_own is = absurd cc
  rule_is c n end (Marked field m) r is_own is = absurd cc
  rule_is c n end (TookPolicy chain policy) r is_own is = absurd cc

  -- ---- a way

  module _ (w : Way Statement) (of_rules : AllVisits (IsOfRule p) w)
      (tidy : (c n : ℕ) (ss : List Statement) → statements_at p c n ≡ Some ss → has_statement_after_terminal ss ≡ false) (es : List Event)
      (only : (e : Event) → Contains es e → Contains (events_of_visits p w.visits []) e ⊎ (rule_of_event e ≡ None))
      (all : (e : Event) → Contains (events_of_visits p w.visits []) e → Contains es e) where
    -- the visit of an event
    its_visit : (c n : ℕ) (e : Event) → Contains es e → rule_of_event e ≡ Some (rule_no p c n) → OwnVisit w.visits e
    its_visit c n e has is =
        elim (only e has) [
          | inl h ↦ elim (own_visits w.visits [] e h) [ inl none ↦ absurd (Contains-none e none) | inr q ↦ q ]
          | inr none ↦ absurd (let clash : None ≡ Some (rule_no p c n) = sym none ∙ is in cc)
        ]

    module _ (c n : ℕ) (e : Event) (has : Contains es e) (is : rule_of_event e ≡ Some (rule_no p c n)) where
      abbrev visit : Visit Statement
      visit = (its_visit c n e has is).visit

      same_rule : rule_no p c n ≡ rule_no p visit.chain visit.rule
      same_rule =
          let q = its_visit c n e has is in
          rule_is q.visit.chain q.visit.rule (rule_end p q.visit.chain q.visit.rule 1 q.visit.statements q.visit.facts) e (rule_no p c n) q.is_own is

      same_chain : visit.chain ≡ c
      same_chain = ap (λ (r : RuleNo). r.chain) (sym same_rule)

      same_number : visit.rule ≡ n
      same_number = ap (λ (r : RuleNo). r.rule) (sym same_rule)

    active : (c n : ℕ) (e : Event) → Contains es e → rule_of_event e ≡ Some (rule_no p c n) → comes_to c n w ≡ true
    active c n e has is =
        let q = its_visit c n e has is in
        any_of (is_of_rule c n) w.visits q.visit q.member (of_rule c n q.visit (same_chain c n e has is) (same_number c n e has is))

    verdicts : (c n : ℕ) (d : RuleVerdict) → Contains es (TookVerdict (rule_no p c n) d) → meets p c n w ≡ true
    verdicts c n d has =
        let e = TookVerdict (rule_no p c n) d in
        let q = its_visit c n e has refl in
        let v = q.visit in
        let is_met = met network number t v.chain v.rule 1 v.statements v.facts d (tidy v.chain v.rule v.statements (of_rules v q.member)) q.is_own.1 in
        let chain : v.chain ≡ c = same_chain c n e has refl in
        let rule : v.rule ≡ n = same_number c n e has refl in
        any_of (λ x. is_of_rule c n x && (rule_end p c n 1 x.statements x.facts).met) w.visits v q.member
        (and_from (is_of_rule c n v) (rule_end p c n 1 v.statements v.facts).met (of_rule c n v chain rule)
        (sym (ap₂ (λ i j. (rule_end p i j 1 v.statements v.facts).met) chain rule) ∙ is_met))

    -- a visit has the statements of its rule
    statements : (c n : ℕ) (ss : List Statement) → statements_at p c n ≡ Some ss → (v : Visit Statement) → Contains w.visits v → v.chain ≡ c
        → v.rule ≡ n → v.statements ≡ ss
    statements c n ss at v member chain rule =
        ap (λ o. unwrap_or o ss) (sym (of_rules v member) ∙ ap₂ (statements_at p) chain rule ∙ at)

    counted : (c n : ℕ) (start : Option CounterStart) (rest : List Statement) → statements_at p c n ≡ Some (tree.counter start ∷ rest)
        → comes_to c n w ≡ true → Contains es (Counted (statement_position p c n 1))
    counted c n start rest at reached =
        let q = one_of (is_of_rule c n) w.visits reached in
        let v = q.0 in
        let numbers = rule_of c n v q.2 in
        let same = statements c n (tree.counter start ∷ rest) at v q.1 numbers.0 numbers.1 in
        let counting = λ (before : List Event). subst
        (λ ss. Contains (rule_events p v.chain v.rule 1 ss v.facts before) (Counted (statement_position p v.chain v.rule 1))) (sym same)
        (counts v.chain v.rule start rest v.facts before) in
        all (Counted (statement_position p c n 1)) (subst (λ r. Contains (events_of_visits p w.visits []) (Counted r))
        (ap₂ (λ i j. statement_position p i j 1) numbers.0 numbers.1)
        (visit_event w.visits v q.1 (Counted (statement_position p v.chain v.rule 1)) counting []))
      where
        counts : (i j : ℕ) (start : Option CounterStart) (rest : List Statement) (f : Facts) (before : List Event)
            → Contains (rule_events p i j 1 (tree.counter start ∷ rest) f before) (Counted (statement_position p i j 1))
        counts i j start rest f before =
            kept network number t i j 2 rest f (before ++ Counted (statement_position p i j 1) ∷ []) (Counted (statement_position p i j 1))
            (Contains-append_right before (Counted (statement_position p i j 1) ∷ []) (Counted (statement_position p i j 1))
            (Contains-head (Counted (statement_position p i j 1)) []))

    given : (c n : ℕ) (before : List Statement) (s : Statement) → statements_at p c n ≡ Some (before ++ s ∷ []) → is_terminal s ≡ true
        → meets p c n w ≡ true → (d : RuleVerdict) × Contains es (TookVerdict (rule_no p c n) d)
    given c n before s at terminal is_met =
        let q = one_of (λ x. is_of_rule c n x && (rule_end p c n 1 x.statements x.facts).met) w.visits is_met in
        let v = q.0 in
        let parts = and_parts (is_of_rule c n v) (rule_end p c n 1 v.statements v.facts).met q.2 in
        let numbers = rule_of c n v parts.0 in
        let same = statements c n (before ++ s ∷ []) at v q.1 numbers.0 numbers.1 in
        let gives = ends_given network number t v.chain v.rule 1 before s v.facts terminal
        (ap₂ (λ i j. (rule_end p i j 1 (before ++ s ∷ []) v.facts).met) numbers.0 numbers.1
        ∙ ap (λ ss. (rule_end p c n 1 ss v.facts).met) (sym same) ∙ parts.1) in
        let giving = λ (later : List Event). subst
        (λ ss. Contains (rule_events p v.chain v.rule 1 ss v.facts later) (TookVerdict (rule_no p v.chain v.rule) gives.0)) (sym same)
        (gave network number t v.chain v.rule 1 (before ++ s ∷ []) v.facts later gives.0 gives.1) in (
          gives.0,
          all (TookVerdict (rule_no p c n) gives.0) (subst (λ r. Contains (events_of_visits p w.visits []) (TookVerdict r gives.0))
              (ap₂ (rule_no p) numbers.0 numbers.1)
              (visit_event w.visits v q.1 (TookVerdict (rule_no p v.chain v.rule) gives.0) giving [])),
        )

    pub fits : EventsFitWay p w es
    fits = record { active = active; counted = counted; verdicts = verdicts; given = given }

  -- ---- with the policy

  pub only_policy : (chain : ChainNo) (policy : Policy) (es : List Event) (end : WayEnd) (e : Event)
      → Contains (with_policy chain policy (result_with es end)).events e → Contains es e ⊎ (rule_of_event e ≡ None)
  only_policy chain policy es (ended f) e has =
      elim (Contains-push_cases es (TookPolicy chain policy) e has) [ inl h ↦ inl h | inr same ↦ inr (ap rule_of_event (sym same)) ]
  only_policy chain policy es (over verdict f) e has = inl has

  pub with_all : (chain : ChainNo) (policy : Policy) (es : List Event) (end : WayEnd) (e : Event)
      → Contains es e → Contains (with_policy chain policy (result_with es end)).events e
  with_all chain policy es (ended f) e has = Contains-append_left es (TookPolicy chain policy ∷ []) e has
  with_all chain policy es (over verdict f) e has = has

module _ (tables : List TableTree) (network : PlantTree) (well : WellFormed tables network) (b : BaseChain) (t : TableTree)
    (at : slice_get tables b.number.table ≡ Some t) (agree : BaseChainRunsAreWays network tables b t) where
  pub base_chain_events_fit_ways : BaseChainEventsFitWays network tables b t
  base_chain_events_fit_ways levels many f r run =
      let chain_program = table_program network b.number.table t in
      let w = way chain_program levels b.number.chain f in
      let own_events = events_of_visits chain_program w.visits [] in
      subst (EventsFitWay chain_program w) (sym (ap (λ (x : HookResult). x.events) ((agree levels many f [] r).0 run)))
      (fits network b.number.table t w (visits_are_of_rules chain_program levels b.number.chain f)
      (ends_last network b.number.table t tables at (well faults.StatementAfterVerdict))
      (with_policy b.number (policy_of b.head) (run_result chain_program w [])).events
      (only_policy network b.number.table t b.number (policy_of b.head) own_events w.end)
      (with_all network b.number.table t b.number (policy_of b.head) own_events w.end))
