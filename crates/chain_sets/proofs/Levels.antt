-- The packets of states through the rules of a chain, and of those that it leads to.
use Rattle.std.proofs.Common.{◌≡◌, ◌∙◌, ◌&&◌, ◌||◌, ◌+◌, ◌<◌, ◌≤◌, ℕ, suc, List, [], ◌∷◌, length, map, drop, get_or, Bool, true, false, refl, ap, sym, subst}
use Rattle.std.proofs.Common.{Option, Some, None, arith, unwrap_or, zero}
use Rattle.std.proofs.lemmas.List.{drop_more}
use Rattle.std.proofs.lemmas.List.Folds.{list_any-append}
use Rattle.nft_tree.specs.Tree.{Statement}
use Rattle.nft_tree.specs.declared.ruleset.RuleNo.{RuleNo}
use Rattle.packet_sets.specs.Sets.{DiagramsView, IsSet, Keeps, holds}
use Rattle.rule_meaning.specs.declared.event.HookVerdict.{HookVerdict}
use Rattle.rule_meaning.specs.declared.event.RuleVerdict.{RuleVerdict}
use Rattle.rule_meaning.specs.declared.facts.Facts.{Facts}
use Rattle.rule_meaning.specs.declared.facts.Interface.{Interface}
use Rattle.rule_meaning.specs.Runs.{Program}
use Rattle.fact_sets.specs.declared.cases.Case.{Case}
use Rattle.fact_sets.specs.declared.written.Written.{Written}
use Rattle.fact_sets.specs.Cases.{AreCases}
use Rattle.fact_sets.specs.Facts.{facts_of}
use Rattle.rule_sets.specs.Ends.{rule_end}
use Rattle.rule_sets.proofs.Sorting.{are-kept, keeps_same, keeps_trans}
use Rattle.chain_ways.specs.declared.exits.RuleExit.{RuleExit}
use Rattle.chain_ways.specs.declared.exits.RuleExit.TheVariants as exits
use Rattle.chain_ways.specs.Exits.{IsExit, after_exit}
use Rattle.chain_ways.specs.Ways.{Visit, Way, WayEnd, after_verdict, comes_to, end_behind_chain, ends_here, is_of_rule, meets, then_back}
use Rattle.chain_ways.specs.Ways.{visits_before, way, way_by}
use Rattle.chain_sets.specs.declared.outcomes.ChainEnd.{ChainEnd}
use Rattle.chain_sets.specs.declared.outcomes.Exit.{Exit}
use Rattle.chain_sets.specs.declared.outcomes.Course.{Course}
use Rattle.chain_sets.specs.declared.outcomes.Course.TheVariants.{To, Through}
use Rattle.chain_sets.specs.declared.outcomes.Turn.{Turn}
use Rattle.chain_sets.specs.declared.visits.RuleSets.{RuleSets}
use Rattle.chain_sets.specs.Ends.{end_of, end_with}
use Rattle.chain_sets.specs.steps.Looks.{AreRuleSets, Look, ends_so, in_rules, is_seen, looks, meets_last, reaches, some_state}
use Rattle.chain_sets.specs.steps.Merging.{Adds, some_outcome, with_outcome}
use Rattle.chain_sets.specs.steps.Outcomes.{back_by, course_at, end_without, exit_behind}
use Rattle.chain_sets.specs.steps.Turns.{GoThrough, some_turn, visit_of}
use Rattle.chain_sets.specs.steps.Walking.{Leave, Pass, Walk, some_end, some_exit, way_from}
use Rattle.chain_sets.proofs.Cases.{are-mapped, or-more, or-none, some-first, some-kept, some-mapped, some-one}
use Rattle.chain_sets.proofs.Exits.{ends_in, some-split, states-are, states_in}
use Rattle.chain_sets.proofs.Passing.{in-rules-kept, rules-are-kept}

-- some case with the same test
same-tests : {V : Type 0} (d : DiagramsView) (cs : List (Case V)) (f : ℕ → Bool) (test other : V → Bool) → ((v : V) → test v ≡ other v)
    → some_outcome d cs f test ≡ some_outcome d cs f other
same-tests d [] f test other same = refl
same-tests d (c ∷ cs) f test other same =
    some-first d c cs f test ∙ ap (λ b. (holds d c.set f && b) || some_outcome d cs f test) (same c.outcome)
    ∙ ap (λ b. (holds d c.set f && other c.outcome) || b) (same-tests d cs f test other same) ∙ sym (some-first d c cs f other)

pub never : {V : Type 0} (d : DiagramsView) (cs : List (Case V)) (f : ℕ → Bool) → some_outcome d cs f (λ v. false) ≡ false
never d [] f = refl
never d (c ∷ cs) f = some-first d c cs f (λ v. false) ∙ ap (λ b. b || some_outcome d cs f (λ v. false)) (with_false (holds d c.set f)) ∙ never d cs f
  where
    with_false : (b : Bool) → (b && false) ≡ false
    with_false true = refl
    with_false false = refl

-- some case passes one of two tests
either : {V : Type 0} (d : DiagramsView) (cs : List (Case V)) (f : ℕ → Bool) (test other : V → Bool)
    → some_outcome d cs f (λ v. test v || other v) ≡ (some_outcome d cs f test || some_outcome d cs f other)
either d [] f test other = refl
either d (c ∷ cs) f test other =
    some-first d c cs f (λ v. test v || other v)
    ∙ ap (λ b. (holds d c.set f && (test c.outcome || other c.outcome)) || b) (either d cs f test other)
    ∙ shared (holds d c.set f) (test c.outcome) (other c.outcome) (some_outcome d cs f test) (some_outcome d cs f other)
    ∙ ap (λ b. b || ((holds d c.set f && other c.outcome) || some_outcome d cs f other)) (sym (some-first d c cs f test))
    ∙ ap (λ b. some_outcome d (c ∷ cs) f test || b) (sym (some-first d c cs f other))
  where
    shared : (h a b x y : Bool) → ((h && (a || b)) || (x || y)) ≡ (((h && a) || x) || ((h && b) || y))
    shared true true b x y = refl
    shared true false true true y = refl
    shared true false true false y = refl
    shared true false false x y = refl
    shared false a b x y = refl

-- it becomes of the packets of the turn
pub record IsCourse (turn : Turn) (course : Course) : Type 0 where
  pub rule : RuleNo
  pub exit : RuleExit
  pub by_verdict : IsExit turn.verdict exit
  pub is : course ≡ course_at rule exit turn.written

module _ (p : Program Statement) (interfaces : List Interface) where
  -- ---- looks along ways

  -- a visit first
  visit-first : (look : Look) (v : Visit Statement) (w : Way Statement) → looks p look (visits_before (v ∷ []) w) ≡ (is_seen p look v || looks p look w)
  visit-first (reaches c n) v w = refl
  visit-first (meets_last c n) v w = refl
  visit-first (ends_so test) v w = refl

  -- ---- a turn

  -- the way behind a rule, by what becomes of its packets
  abbrev pub way_along : (into : ℕ → Facts → Way Statement) → (rest : Facts → Way Statement) → (ℕ → Bool) → Written → Course → Way Statement
  way_along into rest f w (To exit) = way_from p interfaces rest f exit
  way_along into rest f w (Through t true) = then_back rest (into t (facts_of interfaces w f))
  way_along into rest f w (Through t false) = into t (facts_of interfaces w f)

  along : (rule : RuleNo) (into : ℕ → Facts → Way Statement) (rest : Facts → Way Statement) (f : ℕ → Bool) (w : Written) (exit : RuleExit)
      → way_along into rest f w (course_at rule exit w) ≡ after_exit into rest exit (facts_of interfaces w f)
  along rule into rest f w exits.Next = refl
  along rule into rest f w exits.End = refl
  along rule into rest f w (exits.Over v) = refl
  along rule into rest f w (exits.Jump t) = refl
  along rule into rest f w (exits.Goto t) = refl

  by_path : (d : DiagramsView) (turn : Case Turn) (path : Course) (l : ℕ) (rest : Facts → Way Statement) (look : Look) (f : ℕ → Bool)
      → IsCourse turn.outcome path
      → (holds d turn.set f && looks p look (way_along (way p l) rest f turn.outcome.written path))
      ≡ some_turn interfaces d (turn ∷ []) f (λ v g. looks p look (after_verdict (way p l) rest v g))
  by_path d turn path l rest look f course =
      let w = turn.outcome.written in
      ap (λ x. holds d turn.set f && looks p look x) (ap (way_along (way p l) rest f w) course.is
      ∙ along course.rule (way p l) rest f w course.exit ∙ course.by_verdict (way p l) rest (facts_of interfaces w f))
      ∙ sym (some-one d turn f (λ t. looks p look (after_verdict (way p l) rest t.verdict (facts_of interfaces t.written f))))

  -- it is at an exit
  pub leaves_at : (levels : ℕ) (d : DiagramsView) (turn : Case Turn) (exit : Exit) (exits : List (Case Exit)) (rules : ℕ → ℕ → RuleSets)
      → IsSet d turn.set → AreRuleSets d rules → IsCourse turn.outcome (To exit)
      → exits ≡ record { set = turn.set; outcome = exit } ∷ [] → Leave p interfaces levels d d (turn ∷ []) exits rules rules
  leaves_at levels d turn exit exits rules is rules_are path one = record {
    are = subst (AreCases d) (sym one) (is, tt);
    rules_are = rules_are;
    same = λ l deep rest look f. ap (λ b. in_rules d rules look f || b)
        (ap (λ xs. some_exit p interfaces d xs rest look f) one
        ∙ some-one d (record { set = turn.set; outcome = exit }) f (λ x. looks p look (way_from p interfaces rest f x))
        ∙ by_path d turn (To exit) l rest look f path);
  }

  -- ---- a goto

  leaves_by_goto : (levels t : ℕ) (d0 d : DiagramsView) (turn : Case Turn) (ends : List (Case ChainEnd)) (exits : List (Case Exit))
      (before after : ℕ → ℕ → RuleSets) → IsCourse turn.outcome (Through t false)
      → Walk p interfaces levels t d0 d (record { set = turn.set; outcome = turn.outcome.written } ∷ []) ends before after
      → exits ≡ map (with_outcome (exit_behind false)) ends → Leave p interfaces levels d0 d (turn ∷ []) exits before after
  leaves_by_goto levels t d0 d turn ends exits before after path walk gone = record {
    are = subst (AreCases d) (sym gone) (are-mapped d (exit_behind false) ends walk.are);
    rules_are = walk.rules_are;
    same = λ l deep rest look f.
        ap (λ b. in_rules d after look f || b) (ap (λ xs. some_exit p interfaces d xs rest look f) gone
        ∙ some-mapped d (exit_behind false) ends f (λ x. looks p look (way_from p interfaces rest f x)))
        ∙ walk.same l deep look f
        ∙ ap (λ b. in_rules d0 before look f || b)
        (some-one d0 (record { set = turn.set; outcome = turn.outcome.written }) f (λ w. looks p look (way p l t (facts_of interfaces w f)))
        ∙ by_path d0 turn (Through t false) l rest look f path);
  }

  -- ---- a jump

  -- what is looked for behind the chain that was jumped to
  abbrev pub behind : (rest : Facts → Way Statement) → Look → WayEnd → Bool
  behind rest look e = looks p look (end_behind_chain rest e)

  exit-behind : (rest : Facts → Way Statement) (look : Look) (f : ℕ → Bool) (e : ChainEnd)
      → looks p look (way_from p interfaces rest f (exit_behind true e)) ≡ behind rest look (end_of interfaces f e)
  exit-behind rest look f e = by e.verdict
    where
      by : (v : Option HookVerdict)
          → looks p look (way_from p interfaces rest f (back_by v (record { verdict = v; written = e.written; by = e.by })))
          ≡ behind rest look (end_with v (facts_of interfaces e.written f))
      by None = refl
      by (Some v) = refl

  -- each end of the chain leads back or is one of the whole base chain
  exits-behind : (d : DiagramsView) (ends : List (Case ChainEnd)) (exits : List (Case Exit)) (rest : Facts → Way Statement) (look : Look) (f : ℕ → Bool)
      → exits ≡ map (with_outcome (exit_behind true)) ends
      → some_exit p interfaces d exits rest look f ≡ some_end p interfaces d ends (ends_so (behind rest look)) f
  exits-behind d ends exits rest look f back =
      ap (λ xs. some_exit p interfaces d xs rest look f) back
      ∙ some-mapped d (exit_behind true) ends f (λ x. looks p look (way_from p interfaces rest f x))
      ∙ same-tests d ends f (λ e. looks p look (way_from p interfaces rest f (exit_behind true e))) (λ e. behind rest look (end_of interfaces f e))
      (exit-behind rest look f)

  joined : (h x y in0 in1 out none : Bool) → none ≡ false → (in1 || none) ≡ (in0 || (h && x)) → out ≡ (h && y) → (in1 || out) ≡ (in0 || (h && (x || y)))
  joined h x y in0 in1 out none is first second =
      ap (λ b. in1 || b) second ∙ ap (λ b. b || (h && y)) (sym (or-none in1) ∙ ap (λ b. in1 || b) (sym is) ∙ first) ∙ with_both h x y in0
    where
      with_both : (h x y i : Bool) → ((i || (h && x)) || (h && y)) ≡ (i || (h && (x || y)))
      with_both h x y true = refl
      with_both true true y false = refl
      with_both true false y false = refl
      with_both false x y false = refl

  module _ (levels t : ℕ) (d0 d : DiagramsView) (turn : Case Turn) (ends : List (Case ChainEnd)) (exits : List (Case Exit))
      (before after : ℕ → ℕ → RuleSets)
      (walk : Walk p interfaces levels t d0 d (record { set = turn.set; outcome = turn.outcome.written } ∷ []) ends before after)
      (back : exits ≡ map (with_outcome (exit_behind true)) ends) (l : ℕ) (deep : levels ≤ l) (rest : Facts → Way Statement) (f : ℕ → Bool) where
    abbrev through : Way Statement
    through = way p l t (facts_of interfaces turn.outcome.written f)

    found : (look : Look) → (in_rules d after look f || some_end p interfaces d ends look f)
        ≡ (in_rules d0 before look f || (holds d0 turn.set f && looks p look through))
    found look = walk.same l deep look f ∙ ap (λ b. in_rules d0 before look f || b)
        (some-one d0 (record { set = turn.set; outcome = turn.outcome.written }) f (λ w. looks p look (way p l t (facts_of interfaces w f))))

    found-behind : (look : Look) → some_exit p interfaces d exits rest look f ≡ (holds d0 turn.set f && behind rest look through.end)
    found-behind look = exits-behind d ends exits rest look f back ∙ found (ends_so (behind rest look))

    comes_back : (look : Look) → (in_rules d after look f || some_exit p interfaces d exits rest look f)
        ≡ (in_rules d0 before look f || (holds d0 turn.set f && looks p look (then_back rest through)))
    comes_back (reaches c n) =
        joined (holds d0 turn.set f) (comes_to c n through) (behind rest (reaches c n) through.end) (in_rules d0 before (reaches c n) f)
        (in_rules d after (reaches c n) f) (some_exit p interfaces d exits rest (reaches c n) f) (some_end p interfaces d ends (reaches c n) f)
        (never d ends f) (found (reaches c n)) (found-behind (reaches c n))
        ∙ ap (λ b. in_rules d0 before (reaches c n) f || (holds d0 turn.set f && b))
        (sym (list_any-append (is_of_rule c n) through.visits (end_behind_chain rest through.end).visits))
    comes_back (meets_last c n) =
        joined (holds d0 turn.set f) (meets p c n through) (behind rest (meets_last c n) through.end) (in_rules d0 before (meets_last c n) f)
        (in_rules d after (meets_last c n) f) (some_exit p interfaces d exits rest (meets_last c n) f) (some_end p interfaces d ends (meets_last c n) f)
        (never d ends f) (found (meets_last c n)) (found-behind (meets_last c n))
        ∙ ap (λ b. in_rules d0 before (meets_last c n) f || (holds d0 turn.set f && b))
        (sym (list_any-append (is_seen p (meets_last c n)) through.visits (end_behind_chain rest through.end).visits))
    comes_back (ends_so test) = found-behind (ends_so test)

  leaves_by_jump : (levels t : ℕ) (d0 d : DiagramsView) (turn : Case Turn) (ends : List (Case ChainEnd)) (exits : List (Case Exit))
      (before after : ℕ → ℕ → RuleSets) → IsCourse turn.outcome (Through t true)
      → Walk p interfaces levels t d0 d (record { set = turn.set; outcome = turn.outcome.written } ∷ []) ends before after
      → exits ≡ map (with_outcome (exit_behind true)) ends → Leave p interfaces levels d0 d (turn ∷ []) exits before after
  leaves_by_jump levels t d0 d turn ends exits before after path walk back = record {
    are = subst (AreCases d) (sym back) (are-mapped d (exit_behind true) ends walk.are);
    rules_are = walk.rules_are;
    same = λ l deep rest look f.
        comes_back levels t d0 d turn ends exits before after walk back l deep rest f look
        ∙ ap (λ b. in_rules d0 before look f || b) (by_path d0 turn (Through t true) l rest look f path);
  }

  pub leaves_through : (is_jump : Bool) (levels t : ℕ) (d0 d : DiagramsView) (turn : Case Turn) (ends : List (Case ChainEnd)) (exits : List (Case Exit))
      (before after : ℕ → ℕ → RuleSets) → IsCourse turn.outcome (Through t is_jump)
      → Walk p interfaces levels t d0 d (record { set = turn.set; outcome = turn.outcome.written } ∷ []) ends before after
      → exits ≡ map (with_outcome (exit_behind is_jump)) ends → Leave p interfaces levels d0 d (turn ∷ []) exits before after
  leaves_through true = leaves_by_jump
  leaves_through false = leaves_by_goto

  -- ---- turn after turn

  pub record ExitsSoFar (levels : ℕ) (d0 d : DiagramsView) (left all : List (Case Turn)) (exits : List (Case Exit)) (before now : ℕ → ℕ → RuleSets)
      : Type 0 where
    pub keeps : Keeps d0 d
    pub left_are : AreCases d0 left
    pub are : AreCases d exits
    pub rules_are : AreRuleSets d now
    pub same : (l : ℕ) → levels ≤ l → (rest : Facts → Way Statement) (look : Look) (f : ℕ → Bool)
        → ((in_rules d now look f || some_exit p interfaces d exits rest look f)
        || some_turn interfaces d0 left f (λ v g. looks p look (after_verdict (way p l) rest v g)))
        ≡ (in_rules d0 before look f || some_turn interfaces d0 all f (λ v g. looks p look (after_verdict (way p l) rest v g)))

  pub exits_none : (levels : ℕ) (d : DiagramsView) (all : List (Case Turn)) (exits : List (Case Exit)) (before : ℕ → ℕ → RuleSets) → AreCases d all
      → AreRuleSets d before → exits ≡ [] → ExitsSoFar levels d d all all exits before before
  exits_none levels d all exits before are rules_are none = subst (λ xs. ExitsSoFar levels d d all all xs before before) (sym none) (record {
    keeps = keeps_same d;
    left_are = are;
    are = tt;
    rules_are = rules_are;
    same = λ l deep rest look f.
        ap (λ b. b || some_turn interfaces d all f (λ v g. looks p look (after_verdict (way p l) rest v g))) (or-none (in_rules d before look f));
  })

  regroup : (i x m t : Bool) → ((i || (x || m)) || t) ≡ (((i || m) || x) || t)
  regroup true x m t = refl
  regroup false true true t = refl
  regroup false true false t = refl
  regroup false false true t = refl
  regroup false false false t = refl

  shift : (i h x t : Bool) → (((i || h) || x) || t) ≡ ((i || x) || (h || t))
  shift true h x t = refl
  shift false true true t = refl
  shift false true false t = refl
  shift false false true t = refl
  shift false false false t = refl

  pub exits_more : (levels : ℕ) (d0 d d1 d2 : DiagramsView) (turn : Case Turn) (left all : List (Case Turn)) (exits more after_exits : List (Case Exit))
      (before now after : ℕ → ℕ → RuleSets)
      → ExitsSoFar levels d0 d (turn ∷ left) all exits before now → Keeps d d1 → Leave p interfaces levels d d1 (turn ∷ []) more now after
      → Keeps d1 d2 → Adds d1 d2 more exits after_exits → ExitsSoFar levels d0 d2 left all after_exits before after
  exits_more levels d0 d d1 d2 turn left all exits more after_exits before now after s k1 leave k2 adds = record {
    keeps = keeps_trans d0 d d2 s.keeps (keeps_trans d d1 d2 k1 k2);
    left_are = s.left_are.1;
    are = adds.are;
    rules_are = rules-are-kept d1 d2 after k2 leave.rules_are;
    same = λ l deep rest look f.
        let goes = λ (v : Option RuleVerdict) (g : Facts). looks p look (after_verdict (way p l) rest v g) in
        let here = goes turn.outcome.verdict (facts_of interfaces turn.outcome.written f) in
        let at = λ (x : Exit). looks p look (way_from p interfaces rest f x) in
        ap (λ b. (b || some_exit p interfaces d2 after_exits rest look f) || some_turn interfaces d0 left f goes)
        (in-rules-kept d1 d2 after look f k2 leave.rules_are)
        ∙ ap (λ b. (in_rules d1 after look f || b) || some_turn interfaces d0 left f goes)
        (adds.same f at ∙ ap (λ b. b || some_outcome d1 more f at) (some-kept d d1 exits f at k1 s.are))
        ∙ regroup (in_rules d1 after look f) (some_outcome d exits f at) (some_outcome d1 more f at) (some_turn interfaces d0 left f goes)
        ∙ ap (λ b. (b || some_outcome d exits f at) || some_turn interfaces d0 left f goes) (leave.same l deep rest look f
        ∙ ap (λ b. in_rules d now look f || b) (some-one d turn f (λ t. goes t.verdict (facts_of interfaces t.written f))
        ∙ ap (λ b. b && here) (s.keeps.same turn.set f s.left_are.0)))
        ∙ shift (in_rules d now look f) (holds d0 turn.set f && here) (some_outcome d exits f at) (some_turn interfaces d0 left f goes)
        ∙ ap (λ b. (in_rules d now look f || some_outcome d exits f at) || b)
        (sym (some-first d0 turn left f (λ t. goes t.verdict (facts_of interfaces t.written f))))
        ∙ s.same l deep rest look f;
  }

  pub exits_all : (levels : ℕ) (d0 d : DiagramsView) (left all : List (Case Turn)) (exits : List (Case Exit)) (before now : ℕ → ℕ → RuleSets)
      → left ≡ [] → ExitsSoFar levels d0 d left all exits before now → Leave p interfaces levels d0 d all exits before now
  exits_all levels d0 d left all exits before now e given =
      let s = subst (λ l. ExitsSoFar levels d0 d l all exits before now) e given in
      record {
        are = s.are;
        rules_are = s.rules_are;
        same = λ l deep rest look f. sym (or-none (in_rules d now look f || some_exit p interfaces d exits rest look f)) ∙ s.same l deep rest look f;
      }

  pub exits_next : (levels : ℕ) (d0 d : DiagramsView) (all : List (Case Turn)) (exits : List (Case Exit)) (before now : ℕ → ℕ → RuleSets) (i : ℕ)
      (x : Case Turn) → i < length all → ExitsSoFar levels d0 d (drop i all) all exits before now
      → ExitsSoFar levels d0 d (get_or all i x ∷ drop (i + 1) all) all exits before now
  exits_next levels d0 d all exits before now i x inside s = subst (λ l. ExitsSoFar levels d0 d l all exits before now) (drop_more all i x inside) s

  -- ---- one rule

  pub passes : (levels c n : ℕ) (ss : List Statement) (d0 d1 d2 : DiagramsView) (states : List (Case Written)) (turns : List (Case Turn))
      (exits : List (Case Exit)) (before middle after : ℕ → ℕ → RuleSets) → GoThrough p interfaces c n ss d0 d1 states turns before middle
      → Leave p interfaces levels d1 d2 turns exits middle after → Pass p interfaces levels c n ss d0 d2 states exits before after
  passes levels c n ss d0 d1 d2 states turns exits before middle after goes leave = record {
    are = leave.are;
    rules_are = leave.rules_are;
    same = λ l deep rest look f.
        let on = λ (g : Facts). looks p look (after_verdict (way p l) rest (rule_end p c n 1 ss g).verdict (rule_end p c n 1 ss g).facts) in
        let seen = λ (g : Facts). is_seen p look (visit_of c n ss g) in
        leave.same l deep rest look f
        ∙ ap (λ b. in_rules d1 middle look f || b) (goes.they_end f (λ v g. looks p look (after_verdict (way p l) rest v g)))
        ∙ ap (λ b. b || some_state interfaces d0 states f on) (goes.visits look f)
        ∙ or-more (in_rules d0 before look f) (some_state interfaces d0 states f seen) (some_state interfaces d0 states f on)
        ∙ ap (λ b. in_rules d0 before look f || b)
        (sym (either d0 states f (λ w. seen (facts_of interfaces w f)) (λ w. on (facts_of interfaces w f)))
        ∙ same-tests d0 states f (λ w. seen (facts_of interfaces w f) || on (facts_of interfaces w f)) (λ w. looks p look (visits_before
        (visit_of c n ss (facts_of interfaces w f) ∷ []) (after_verdict (way p l) rest (rule_end p c n 1 ss (facts_of interfaces w f)).verdict
        (rule_end p c n 1 ss (facts_of interfaces w f)).facts))) (λ w. sym (visit-first look (visit_of c n ss (facts_of interfaces w f))
        (after_verdict (way p l) rest (rule_end p c n 1 ss (facts_of interfaces w f)).verdict (rule_end p c n 1 ss (facts_of interfaces w f)).facts))));
  }

  -- ---- rule after rule

  pub record RulesSoFar (deeper c : ℕ) (d0 d : DiagramsView) (rs : List (List Statement)) (k : ℕ) (all states : List (Case Written))
      (ends : List (Case ChainEnd)) (before now : ℕ → ℕ → RuleSets) : Type 0 where
    pub keeps : Keeps d0 d
    pub are : AreCases d states
    pub ends_are : AreCases d ends
    pub rules_are : AreRuleSets d now
    pub same : (l : ℕ) → deeper ≤ l → (look : Look) (f : ℕ → Bool)
        → ((in_rules d now look f || some_end p interfaces d ends look f)
        || some_state interfaces d states f (λ g. looks p look (way_by p (way p l) c (k + 1) (drop k rs) g)))
        ≡ (in_rules d0 before look f || some_state interfaces d0 all f (λ g. looks p look (way_by p (way p l) c 1 rs g)))

  pub rules_none : (deeper c : ℕ) (d : DiagramsView) (rs : List (List Statement)) (all states : List (Case Written)) (ends : List (Case ChainEnd))
      (before : ℕ → ℕ → RuleSets) → AreCases d all → AreRuleSets d before → states ≡ all → ends ≡ []
      → RulesSoFar deeper c d d rs 0 all states ends before before
  rules_none deeper c d rs all states ends before are rules_are copied none =
      subst (λ ss. RulesSoFar deeper c d d rs 0 all ss ends before before) (sym copied)
      (subst (λ es. RulesSoFar deeper c d d rs 0 all all es before before) (sym none) (record {
        keeps = keeps_same d;
        are = are;
        ends_are = tt;
        rules_are = rules_are;
        same = λ l deep look f. ap (λ b. b || some_state interfaces d all f (λ g. looks p look (way_by p (way p l) c 1 rs g)))
            (or-none (in_rules d before look f));
      }))

  rejoin : (i e x s : Bool) → ((i || (e || x)) || s) ≡ ((i || (x || s)) || e)
  rejoin true e x s = refl
  rejoin false true true s = refl
  rejoin false true false true = refl
  rejoin false true false false = refl
  rejoin false false true s = refl
  rejoin false false false true = refl
  rejoin false false false false = refl

  exchange : (i s e : Bool) → ((i || s) || e) ≡ ((i || e) || s)
  exchange true s e = refl
  exchange false true true = refl
  exchange false true false = refl
  exchange false false true = refl
  exchange false false false = refl

  pub rules_more : (deeper c : ℕ) (d0 d d1 d2 : DiagramsView) (rs : List (List Statement)) (k n : ℕ) (ss : List Statement)
      (all states next : List (Case Written)) (exits : List (Case Exit)) (ends more after_ends : List (Case ChainEnd))
      (before now after : ℕ → ℕ → RuleSets) → RulesSoFar deeper c d0 d rs k all states ends before now
      → k < length rs → get_or rs k ss ≡ ss → n ≡ k + 1 → Keeps d d1 → Pass p interfaces deeper c n ss d d1 states exits now after
      → Keeps d1 d2 → more ≡ ends_in exits → Adds d1 d2 more ends after_ends → next ≡ states_in exits
      → RulesSoFar deeper c d0 d2 rs (k + 1) all next after_ends before after
  rules_more deeper c d0 d d1 d2 rs k n ss all states next exits ends more after_ends before now after s inside here number k1 pass' k2 ends_are adds' states_are =
      let pass = subst (λ m. Pass p interfaces deeper c m ss d d1 states exits now after) number pass' in
      let adds = subst (λ es. Adds d1 d2 es ends after_ends) ends_are adds' in
      let first = drop_more rs k ss inside ∙ ap (λ y. y ∷ drop (k + 1) rs) here in
      subst (λ ss'. RulesSoFar deeper c d0 d2 rs (k + 1) all ss' after_ends before after) (sym states_are) (record {
        keeps = keeps_trans d0 d d2 s.keeps (keeps_trans d d1 d2 k1 k2);
        are = are-kept d1 d2 (states_in exits) k2 (states-are d1 exits pass.are);
        ends_are = adds.are;
        rules_are = rules-are-kept d1 d2 after k2 pass.rules_are;
        same = λ l deep look f.
            let rest = way_by p (way p l) c (k + 1 + 1) (drop (k + 1) rs) in
            let at = λ (w : Written). looks p look (rest (facts_of interfaces w f)) in
            let end = λ (e : ChainEnd). looks p look (ends_here (end_of interfaces f e)) in
            ap (λ b. (b || some_end p interfaces d2 after_ends look f) || some_outcome d2 (states_in exits) f at)
            (in-rules-kept d1 d2 after look f k2 pass.rules_are)
            ∙ ap (λ b. (in_rules d1 after look f || b) || some_outcome d2 (states_in exits) f at)
            (adds.same f end ∙ ap (λ b. b || some_outcome d1 (ends_in exits) f end) (some-kept d d1 ends f end k1 s.ends_are))
            ∙ ap (λ b. (in_rules d1 after look f || (some_outcome d ends f end || some_outcome d1 (ends_in exits) f end)) || b)
            (some-kept d1 d2 (states_in exits) f at k2 (states-are d1 exits pass.are))
            ∙ rejoin (in_rules d1 after look f) (some_outcome d ends f end) (some_outcome d1 (ends_in exits) f end)
            (some_outcome d1 (states_in exits) f at)
            ∙ ap (λ b. (in_rules d1 after look f || b) || some_outcome d ends f end)
            (sym (some-split d1 exits f (λ x. looks p look (way_from p interfaces rest f x))))
            ∙ ap (λ b. b || some_outcome d ends f end) (pass.same l deep rest look f)
            ∙ exchange (in_rules d now look f) (some_state interfaces d states f (λ g. looks p look (way_by p (way p l) c (k + 1) (ss ∷ drop (k + 1) rs) g)))
            (some_outcome d ends f end)
            ∙ ap (λ q. (in_rules d now look f || some_outcome d ends f end)
            || some_state interfaces d states f (λ g. looks p look (way_by p (way p l) c (k + 1) q g))) (sym first)
            ∙ s.same l deep look f;
      })

  -- no rule is left
  pub rules_all : (levels deeper c : ℕ) (d0 d d1 : DiagramsView) (rs : List (List Statement)) (k : ℕ) (all states : List (Case Written))
      (ends more after_ends : List (Case ChainEnd)) (before now : ℕ → ℕ → RuleSets) → deeper + 1 ≡ levels
      → rs ≡ unwrap_or (p.rules_at c) [] → drop k rs ≡ []
      → RulesSoFar deeper c d0 d rs k all states ends before now → Keeps d d1 → more ≡ map (with_outcome end_without) states
      → Adds d d1 more ends after_ends → Walk p interfaces levels c d0 d1 all after_ends before now
  rules_all levels deeper c d0 d d1 rs k all states ends more after_ends before now level its past s k1 ended_are adds' =
      let adds = subst (λ es. Adds d d1 es ends after_ends) ended_are adds' in
      record {
        are = adds.are;
        rules_are = rules-are-kept d d1 now k1 s.rules_are;
        same = λ l deep look f. by l deep look f adds;
      }
    where
      by : (l : ℕ) → levels ≤ l → (look : Look) (f : ℕ → Bool) → Adds d d1 (map (with_outcome end_without) states) ends after_ends
          → (in_rules d1 now look f || some_end p interfaces d1 after_ends look f)
          ≡ (in_rules d0 before look f || some_state interfaces d0 all f (λ g. looks p look (way p l c g)))
      by zero deep look f adds = absurd (omega (arith, level, deep))
      by (suc l) deep look f adds =
          let end = λ (e : ChainEnd). looks p look (ends_here (end_of interfaces f e)) in
          ap (λ b. b || some_end p interfaces d1 after_ends look f) (in-rules-kept d d1 now look f k1 s.rules_are)
          ∙ ap (λ b. in_rules d now look f || b) (adds.same f end ∙ ap (λ b. some_outcome d ends f end || b) (some-mapped d end_without states f end))
          ∙ sym (or-more (in_rules d now look f) (some_outcome d ends f end) (some_outcome d states f (λ w. end (end_without w))))
          ∙ ap (λ q. (in_rules d now look f || some_outcome d ends f end)
          || some_state interfaces d states f (λ g. looks p look (way_by p (way p l) c (k + 1) q g))) (sym past)
          ∙ s.same l (omega (arith, level, deep)) look f
          ∙ ap (λ q. in_rules d0 before look f || some_state interfaces d0 all f (λ g. looks p look (way_by p (way p l) c 1 q g))) its
