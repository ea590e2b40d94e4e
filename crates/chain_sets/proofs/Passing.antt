-- The packets of states through one rule, one state after another.
use Rattle.std.proofs.Common.{◌≡◌, ◌∙◌, ◌&&◌, ◌||◌, ◌==◌, ◌+◌, ◌<◌, ℕ, List, [], ◌∷◌, ◌++◌, length, map, drop, get_or, Bool, true, false, cond}
use Rattle.std.proofs.Common.{refl, ap, sym, subst, Option}
use Rattle.std.specs.List.{list_any}
use Rattle.std.proofs.lemmas.Bool.{and_parts, eqb-true}
use Rattle.std.proofs.lemmas.List.{drop_more}
use Rattle.nft_tree.specs.Tree.{Statement}
use Rattle.packet_sets.specs.declared.packet_set.PacketSet.{PacketSet}
use Rattle.packet_sets.specs.Sets.{DiagramsView, IsSet, Keeps, Means, holds}
use Rattle.rule_meaning.specs.declared.event.RuleVerdict.{RuleVerdict}
use Rattle.rule_meaning.specs.declared.facts.Facts.{Facts}
use Rattle.rule_meaning.specs.declared.facts.Interface.{Interface}
use Rattle.rule_meaning.specs.Runs.{Program}
use Rattle.fact_sets.specs.declared.cases.Case.{Case}
use Rattle.fact_sets.specs.declared.readings.Reader.{Reader}
use Rattle.fact_sets.specs.declared.written.Written.{Written}
use Rattle.fact_sets.specs.Cases.{AreCases, seen}
use Rattle.fact_sets.specs.Facts.{facts_of}
use Rattle.rule_sets.specs.declared.ends.End.{End}
use Rattle.rule_sets.specs.Ends.{AddsEnds, RuleEnd, end_for, outcomes_for, rule_end}
use Rattle.rule_sets.proofs.Sorting.{are-kept, keeps_same, keeps_trans}
use Rattle.chain_sets.specs.declared.outcomes.Turn.{Turn}
use Rattle.chain_sets.specs.declared.visits.RuleSets.{RuleSets}
use Rattle.chain_sets.specs.steps.Looks.{AddsRule, AreRuleSets, Look, ends_so, in_rule, in_rules, is_seen, meets_last, reaches, some_state}
use Rattle.chain_sets.specs.steps.Merging.{Adds, some_outcome, with_outcome}
use Rattle.chain_sets.specs.steps.Outcomes.{turn_at}
use Rattle.chain_sets.specs.steps.Turns.{GoThrough, some_turn, visit_of}
use Rattle.chain_sets.proofs.Cases.{are-mapped, or-more, or-none, some-first, some-kept, some-mapped, some-one}

-- ---- sets of rules are kept

pub rules-are-kept : (a b : DiagramsView) (rules : ℕ → ℕ → RuleSets) → Keeps a b → AreRuleSets a rules → AreRuleSets b rules
rules-are-kept a b rules k are = λ c n. (k.sets (rules c n).reached (are c n).0, k.sets (rules c n).met (are c n).1)

pub in-rules-kept : (a b : DiagramsView) (rules : ℕ → ℕ → RuleSets) (look : Look) (f : ℕ → Bool) → Keeps a b → AreRuleSets a rules
    → in_rules b rules look f ≡ in_rules a rules look f
in-rules-kept a b rules (reaches c n) f k are = k.same (rules c n).reached f (are c n).0
in-rules-kept a b rules (meets_last c n) f k are = k.same (rules c n).met f (are c n).1
in-rules-kept a b rules (ends_so test) f k are = refl

-- ---- one state

pub any-map : {A B : Type 0} (h : A → B) (test : B → Bool) (xs : List A) → list_any test (map h xs) ≡ list_any (λ x. test (h x)) xs
any-map h test [] = refl
any-map h test (x ∷ xs) = ap (λ r. test (h x) || r) (any-map h test xs)

any-one : {A : Type 0} (b : Bool) (x : A) (test : A → Bool) → list_any test ([] ++ cond b (x ∷ []) []) ≡ (b && test x)
any-one true x test = or-none (test x)
any-one false x test = refl

and-swap : (a b : Bool) → (a && b) ≡ (b && a)
and-swap true true = refl
and-swap true false = refl
and-swap false true = refl
and-swap false false = refl

and-behind : (a b c : Bool) → (a && (b && c)) ≡ (b && (a && c))
and-behind true true c = refl
and-behind true false c = refl
and-behind false true c = refl
and-behind false false c = refl

-- what is so of a rule
its_own : (c n c' n' : ℕ) (is : ℕ → ℕ → Bool) (b : Bool) → b ≡ ((c == c') && (n == n')) → (b && is c n) ≡ (b && is c' n')
its_own c n c' n' is true here =
    let both = and_parts (c == c') (n == n') (sym here) in
    ap (λ x. is x n) (eqb-true c c' both.0) ∙ ap (is c') (eqb-true n n' both.1)
its_own c n c' n' is false here = refl

module _ (p : Program Statement) (c n : ℕ) (ss : List Statement) where
  -- a test of ends, by the end of each packet
  pub end-passes : (d0 d : DiagramsView) (r : Reader) (set : PacketSet) (ends : List (Case End)) (f : ℕ → Bool) (test : RuleEnd → Bool)
      → AddsEnds d0 d r set (rule_end p c n 1 ss) [] ends
      → some_outcome d ends f (λ e. test (end_for r f e)) ≡ (holds d0 set f && test (rule_end p c n 1 ss (seen r f)))
  end-passes d0 d r set ends f test adds =
      sym (any-map (end_for r f) test (outcomes_for d ends f)) ∙ ap (list_any test) (adds.same f)
      ∙ any-one (holds d0 set f) (rule_end p c n 1 ss (seen r f)) test

  -- which of the added packets come to a rule, and meet its last statement
  in-rule-seen : (d0 d1 d2 : DiagramsView) (r : Reader) (state : Case Written) (met : PacketSet) (ends : List (Case End)) (look : Look) (f : ℕ → Bool)
      → r.written ≡ state.outcome → Keeps d0 d2 → IsSet d0 state.set → AddsEnds d0 d1 r state.set (rule_end p c n 1 ss) [] ends
      → Means d2 met (λ g. list_any (λ e. e.met) (outcomes_for d1 ends g))
      → in_rule d2 c n (record { reached = state.set; met = met }) look f
      ≡ some_state r.interfaces.now d0 (state ∷ []) f (λ g. is_seen p look (visit_of c n ss g))
  in-rule-seen d0 d1 d2 r state met ends (reaches c' n') f same k is adds means =
      ap (λ h. ((c == c') && (n == n')) && h) (k.same state.set f is) ∙ and-swap ((c == c') && (n == n')) (holds d0 state.set f)
      ∙ sym (some-one d0 state f (λ w. is_seen p (reaches c' n') (visit_of c n ss (facts_of r.interfaces.now w f))))
  in-rule-seen d0 d1 d2 r state met ends (meets_last c' n') f same k is adds means =
      ap (λ h. ((c == c') && (n == n')) && h) (means.same f ∙ end-passes d0 d1 r state.set ends f (λ e. e.met) adds)
      ∙ and-behind ((c == c') && (n == n')) (holds d0 state.set f) (rule_end p c n 1 ss (seen r f)).met
      ∙ ap (λ b. holds d0 state.set f && b) (its_own c n c' n' (λ x y. (rule_end p x y 1 ss (seen r f)).met) ((c == c') && (n == n')) refl)
      ∙ ap (λ w. holds d0 state.set f && (((c == c') && (n == n')) && (rule_end p c' n' 1 ss (facts_of r.interfaces.now w f)).met)) same
      ∙ sym (some-one d0 state f (λ w. is_seen p (meets_last c' n') (visit_of c n ss (facts_of r.interfaces.now w f))))
  in-rule-seen d0 d1 d2 r state met ends (ends_so test) f same k is adds means =
      sym (some-one d0 state f (λ w. false) ∙ and-swap (holds d0 state.set f) false)

  pub state_goes : (d0 d1 d2 d3 : DiagramsView) (r : Reader) (state : Case Written) (met : PacketSet) (ends : List (Case End))
      (turns : List (Case Turn)) (before after : ℕ → ℕ → RuleSets)
      → r.written ≡ state.outcome → IsSet d0 state.set → AreRuleSets d0 before
      → Keeps d0 d1 → AddsEnds d0 d1 r state.set (rule_end p c n 1 ss) [] ends
      → Keeps d1 d2 → Means d2 met (λ g. list_any (λ e. e.met) (outcomes_for d1 ends g))
      → Keeps d2 d3 → AddsRule d2 d3 c n (record { reached = state.set; met = met }) before after
      → turns ≡ map (with_outcome turn_at) ends
      → GoThrough p r.interfaces.now c n ss d0 d3 (state ∷ []) turns before after
  state_goes d0 d1 d2 d3 r state met ends turns before after same is rules_are k1 adds k2 means k3 puts turned =
      let k12 = keeps_trans d0 d1 d2 k1 k2 in
      let k23 = keeps_trans d1 d2 d3 k2 k3 in
      record {
        are = subst (AreCases d3) (sym turned) (are-mapped d3 turn_at ends (are-kept d1 d3 ends k23 adds.are));
        rules_are = puts.are;
        they_end = λ f test.
            ap (λ ts. some_turn r.interfaces.now d3 ts f test) turned
            ∙ some-mapped d3 turn_at ends f (λ t. test t.verdict (facts_of r.interfaces.now t.written f))
            ∙ some-kept d1 d3 ends f (λ e. test e.verdict (facts_of r.interfaces.now e.written f)) k23 adds.are
            ∙ end-passes d0 d1 r state.set ends f (λ e. test e.verdict e.facts) adds
            ∙ ap (λ w. holds d0 state.set f && test (rule_end p c n 1 ss (facts_of r.interfaces.now w f)).verdict
            (rule_end p c n 1 ss (facts_of r.interfaces.now w f)).facts) same
            ∙ sym (some-one d0 state f (λ w. test (rule_end p c n 1 ss (facts_of r.interfaces.now w f)).verdict
            (rule_end p c n 1 ss (facts_of r.interfaces.now w f)).facts));
        visits = λ look f.
            puts.same look f ∙ ap (λ b. b || in_rule d2 c n (record { reached = state.set; met = met }) look f)
            (in-rules-kept d0 d2 before look f k12 rules_are)
            ∙ ap (λ b. in_rules d0 before look f || b) (in-rule-seen d0 d1 d2 r state met ends look f same k12 is adds means);
      }

  -- ---- what holds after some of the states

  module _ (interfaces : List Interface) where
    -- what a test of ends is of facts
    abbrev pub passes : (Option RuleVerdict → Facts → Bool) → Facts → Bool
    passes test f = test (rule_end p c n 1 ss f).verdict (rule_end p c n 1 ss f).facts

    abbrev pub visited : Look → Facts → Bool
    visited look f = is_seen p look (visit_of c n ss f)

    pub record TurnsSoFar (d0 d : DiagramsView) (left all : List (Case Written)) (turns : List (Case Turn)) (before now : ℕ → ℕ → RuleSets)
        : Type 0 where
      pub keeps : Keeps d0 d
      pub left_are : AreCases d0 left
      pub are : AreCases d turns
      pub rules_are : AreRuleSets d now
      pub turns_same : (f : ℕ → Bool) (test : Option RuleVerdict → Facts → Bool)
          → (some_turn interfaces d turns f test || some_state interfaces d0 left f (passes test)) ≡ some_state interfaces d0 all f (passes test)
      pub visits_same : (look : Look) (f : ℕ → Bool)
          → (in_rules d now look f || some_state interfaces d0 left f (visited look))
          ≡ (in_rules d0 before look f || some_state interfaces d0 all f (visited look))

    pub turns_none : (d : DiagramsView) (all : List (Case Written)) (turns : List (Case Turn)) (before : ℕ → ℕ → RuleSets) → AreCases d all
        → AreRuleSets d before → turns ≡ [] → TurnsSoFar d d all all turns before before
    turns_none d all turns before are rules_are none = subst (λ ts. TurnsSoFar d d all all ts before before) (sym none) (record {
      keeps = keeps_same d;
      left_are = are;
      are = tt;
      rules_are = rules_are;
      turns_same = λ f test. refl;
      visits_same = λ look f. refl;
    })

    pub turns_more : (d0 d d1 d2 : DiagramsView) (state : Case Written) (left all : List (Case Written)) (turns more after_turns : List (Case Turn))
        (before now after : ℕ → ℕ → RuleSets)
        → TurnsSoFar d0 d (state ∷ left) all turns before now → Keeps d d1 → GoThrough p interfaces c n ss d d1 (state ∷ []) more now after
        → Keeps d1 d2 → Adds d1 d2 more turns after_turns → TurnsSoFar d0 d2 left all after_turns before after
    turns_more d0 d d1 d2 state left all turns more after_turns before now after s k1 goes k2 adds =
        let one = λ (f : ℕ → Bool) (test : Facts → Bool).
        some-one d state f (λ w. test (facts_of interfaces w f))
        ∙ ap (λ h. h && test (facts_of interfaces state.outcome f)) (s.keeps.same state.set f s.left_are.0) in
        let first = λ (f : ℕ → Bool) (test : Facts → Bool). some-first d0 state left f (λ w. test (facts_of interfaces w f)) in
        record {
          keeps = keeps_trans d0 d d2 s.keeps (keeps_trans d d1 d2 k1 k2);
          left_are = s.left_are.1;
          are = adds.are;
          rules_are = rules-are-kept d1 d2 after k2 goes.rules_are;
          turns_same = λ f test.
              ap (λ b. b || some_state interfaces d0 left f (passes test))
              (adds.same f (λ t. test t.verdict (facts_of interfaces t.written f))
              ∙ ap (λ b. b || some_turn interfaces d1 more f test)
              (some-kept d d1 turns f (λ t. test t.verdict (facts_of interfaces t.written f)) k1 s.are)
              ∙ ap (λ b. some_turn interfaces d turns f test || b) (goes.they_end f test ∙ one f (passes test)))
              ∙ or-more (some_turn interfaces d turns f test) (holds d0 state.set f && passes test (facts_of interfaces state.outcome f))
              (some_state interfaces d0 left f (passes test))
              ∙ ap (λ b. some_turn interfaces d turns f test || b) (sym (first f (passes test))) ∙ s.turns_same f test;
          visits_same = λ look f.
              ap (λ b. b || some_state interfaces d0 left f (visited look))
              (in-rules-kept d1 d2 after look f k2 goes.rules_are ∙ goes.visits look f
              ∙ ap (λ b. in_rules d now look f || b) (one f (visited look)))
              ∙ or-more (in_rules d now look f) (holds d0 state.set f && visited look (facts_of interfaces state.outcome f))
              (some_state interfaces d0 left f (visited look))
              ∙ ap (λ b. in_rules d now look f || b) (sym (first f (visited look))) ∙ s.visits_same look f;
        }

    pub turns_all : (d0 d : DiagramsView) (left all : List (Case Written)) (turns : List (Case Turn)) (before now : ℕ → ℕ → RuleSets)
        → left ≡ [] → TurnsSoFar d0 d left all turns before now → GoThrough p interfaces c n ss d0 d all turns before now
    turns_all d0 d left all turns before now e given =
        let s = subst (λ l. TurnsSoFar d0 d l all turns before now) e given in
        record {
          are = s.are;
          rules_are = s.rules_are;
          they_end = λ f test. sym (or-none (some_turn interfaces d turns f test)) ∙ s.turns_same f test;
          visits = λ look f. sym (or-none (in_rules d now look f)) ∙ s.visits_same look f;
        }

    pub turns_next : (d0 d : DiagramsView) (all : List (Case Written)) (turns : List (Case Turn)) (before now : ℕ → ℕ → RuleSets) (i : ℕ)
        (x : Case Written) → i < length all → TurnsSoFar d0 d (drop i all) all turns before now
        → TurnsSoFar d0 d (get_or all i x ∷ drop (i + 1) all) all turns before now
    turns_next d0 d all turns before now i x inside s = subst (λ l. TurnsSoFar d0 d l all turns before now) (drop_more all i x inside) s
