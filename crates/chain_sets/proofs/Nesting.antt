-- Why a walk is too deep: a packet of a turn shows that its rule leads on.
use Rattle.std.proofs.Common.{◌≡◌, ◌∙◌, ◌&&◌, ◌||◌, ◌==◌, ◌+◌, ◌<◌, ◌≤◌, [], ◌∷◌, not, ℕ, zero, suc, List, length, get_or, Bool, true, false, refl, ap}
use Rattle.std.proofs.Common.{eq-eqb, Result, Ok, Err, IfErr, sym, subst, Option, Some, None, option_and_then, unwrap_or, arith}
use Rattle.std.specs.List.{list_any}
use Rattle.std.specs.Result.{IsErrAnd}
use Rattle.std.proofs.lemmas.Bool.{and_parts, eqb-true}
use Rattle.std.proofs.lemmas.Option.{slice_get-get_or}
use Rattle.nft_tree.specs.declared.ruleset.RuleNo.{RuleNo}
use Rattle.nft_tree.specs.Tree.{Statement}
use Rattle.nft_tree.specs.TableItems.{numbered_from_one}
use Rattle.chain_graph.specs.Graph.{Call}
use Rattle.packet_sets.specs.declared.fault.SetError.{SetError}
use Rattle.packet_sets.specs.declared.fault.SetError.TheVariants as sets
use Rattle.packet_sets.specs.Sets.{DiagramsView}
use Rattle.rule_meaning.specs.declared.event.HookVerdict.TheVariants as hooks
use Rattle.rule_meaning.specs.declared.event.RuleVerdict.{RuleVerdict}
use Rattle.rule_meaning.specs.declared.event.RuleVerdict.TheVariants as verdicts
use Rattle.rule_meaning.specs.declared.facts.Facts.{Facts}
use Rattle.rule_meaning.specs.declared.facts.Interface.{Interface}
use Rattle.rule_meaning.specs.Runs.{Program}
use Rattle.fact_sets.specs.declared.cases.Case.{Case}
use Rattle.fact_sets.specs.declared.written.Written.{Written}
use Rattle.fact_sets.specs.Facts.{facts_of}
use Rattle.rule_sets.specs.Ends.{outcomes_for, rule_end}
use Rattle.chain_ways.specs.declared.exits.RuleExit.{RuleExit}
use Rattle.chain_ways.specs.declared.exits.RuleExit.TheVariants as exits
use Rattle.chain_ways.specs.Exits.{after_exit}
use Rattle.chain_ways.specs.Laws.{statements_at}
use Rattle.chain_ways.specs.Nesting.{NestsOver, verdict_by, verdict_of}
use Rattle.chain_ways.specs.Ways.{Visit, Way, WayEnd, after_verdict, ended, ends_here, over}
use Rattle.chain_sets.specs.declared.fault.WalkError.{WalkError}
use Rattle.chain_sets.specs.declared.fault.WalkError.TheVariants.{TooDeep}
use Rattle.chain_sets.specs.declared.outcomes.Course.{Course}
use Rattle.chain_sets.specs.declared.outcomes.Course.TheVariants.{To, Through}
use Rattle.chain_sets.specs.declared.outcomes.Turn.{Turn}
use Rattle.chain_sets.specs.declared.visits.RuleSets.{RuleSets}
use Rattle.chain_sets.specs.Errors.{walk_error}
use Rattle.chain_sets.specs.steps.Merging.{HavePackets}
use Rattle.chain_sets.specs.steps.Nesting.{RuleNests, SomeTurnNests, VerdictNests}
use Rattle.chain_sets.specs.steps.Outcomes.{course_at}
use Rattle.chain_sets.specs.steps.Turns.{GoThrough}
use Rattle.chain_sets.proofs.Levels.{IsCourse}
use Rattle.chain_sets.proofs.Packets.{packet-of, some-among}

-- sets alone are never too deep
pub not_deep : (e : SetError) → walk_error e ≡ TooDeep → ⊥
not_deep sets.TooLarge is = cc
not_deep sets.Memory is = cc

-- what the exit of a `?` returns
pub passed_on : {T E : Type 0} {P : E → Type 0} (r : Result T E) (Q : E → Type 0) → ((e : E) → P e → Q e) → IsErrAnd r P → IfErr r Q
passed_on (Ok x) Q why is = absurd is
passed_on (Err e) Q why is = why e is

pub never : {T : Type 0} (error : SetError) (r : Result T WalkError) (Q : Type 0) → IsErrAnd r (λ e. e ≡ walk_error error)
    → IfErr r (λ e. e ≡ TooDeep → Q)
never error r Q is = passed_on r (λ e. e ≡ TooDeep → Q) (λ e it deep. absurd (not_deep error (sym it ∙ deep))) is

-- ---- a turn

-- the jump or goto that leads through a chain
abbrev through : Course → Option RuleVerdict
through (To exit) = None
through (Through t is_jump) = Some (verdict_by is_jump t)

-- and that which a way shows, if a chain that was gone to ends, and nothing that was jumped from does
abbrev shown_by : List (Visit Statement) → WayEnd → Option RuleVerdict
shown_by [] e = None
shown_by (v ∷ vs) (ended f) = Some (verdicts.Goto v.chain)
shown_by (v ∷ vs) (over verdict f) = Some (verdicts.Jump v.chain)

abbrev shown : Way Statement → Option RuleVerdict
shown way = shown_by way.visits way.end

abbrev into : ℕ → Facts → Way Statement
into t f = record { visits = record { chain = t; rule = 0; statements = []; facts = f } ∷ []; end = ended f }

abbrev rest : Facts → Way Statement
rest f = ends_here (over hooks.Dropped f)

shown_through : (rule : RuleNo) (exit : RuleExit) (w : Written) (f : Facts) → through (course_at rule exit w) ≡ shown (after_exit into rest exit f)
shown_through rule exits.Next w f = refl
shown_through rule exits.End w f = refl
shown_through rule (exits.Over v) w f = refl
shown_through rule (exits.Jump t) w f = refl
shown_through rule (exits.Goto t) w f = refl

given : (v : Option RuleVerdict) (u : RuleVerdict) (f : Facts) → Some u ≡ shown (after_verdict into rest v f) → v ≡ Some u
given None u f is = cc
given (Some verdicts.Continue) u f is = cc
given (Some verdicts.Accept) u f is = cc
given (Some verdicts.Drop) u f is = cc
given (Some (verdicts.Translate a)) u f is = cc
given (Some verdicts.Return) u f is = cc
given (Some (verdicts.Jump t)) u f is = sym is
given (Some (verdicts.Goto t)) u f is = sym is

-- ---- tests of verdicts

-- it is this jump or goto
abbrev is_call : Call ℕ → Option RuleVerdict → Bool
is_call call (Some (verdicts.Jump t)) = call.is_jump && t == call.to
is_call call (Some (verdicts.Goto t)) = not call.is_jump && t == call.to
is_call call v = false

is_itself : (call : Call ℕ) → is_call call (Some (verdict_of call)) ≡ true
is_itself call = by call.is_jump
  where
    by : (b : Bool) → is_call (record { to = call.to; is_jump = b }) (Some (verdict_by b call.to)) ≡ true
    by true = eq-eqb call.to call.to refl
    by false = eq-eqb call.to call.to refl

is_this : (call : Call ℕ) (v : Option RuleVerdict) → is_call call v ≡ true → v ≡ Some (verdict_of call)
is_this call None is = cc
is_this call (Some verdicts.Continue) is = cc
is_this call (Some verdicts.Accept) is = cc
is_this call (Some verdicts.Drop) is = cc
is_this call (Some (verdicts.Translate a)) is = cc
is_this call (Some verdicts.Return) is = cc
is_this call (Some (verdicts.Jump t)) is =
    let both = and_parts call.is_jump (t == call.to) is in
    ap (λ n. Some (verdicts.Jump n)) (eqb-true t call.to both.1) ∙ ap (λ b. Some (verdict_by b call.to)) (sym both.0)
is_this call (Some (verdicts.Goto t)) is =
    let both = and_parts (not call.is_jump) (t == call.to) is in
    ap (λ n. Some (verdicts.Goto n)) (eqb-true t call.to both.1) ∙ ap (λ b. Some (verdict_by b call.to)) (sym (no_jump call.is_jump both.0))
  where
    no_jump : (b : Bool) → not b ≡ true → b ≡ false
    no_jump true h = cc
    no_jump false h = refl

-- ---- a rule

found : {X : Type 0} (test : X → Bool) (xs : List X) → list_any test xs ≡ true → (x : X) × (test x ≡ true)
found test [] is = absurd cc
found test (x ∷ xs) is = by (test x) refl is (found test xs)
  where
    by : (b : Bool) → test x ≡ b → (b || list_any test xs) ≡ true → (list_any test xs ≡ true → (y : _) × (test y ≡ true))
        → (y : _) × (test y ≡ true)
    by true here is later = (x, here)
    by false here is later = later is

module _ (p : Program Statement) where
  pub call_nests : (levels t : ℕ) (is_jump : Bool) (turn : Turn) (f : Facts) → IsCourse turn (Through t is_jump) → NestsOver p levels t
      → VerdictNests p levels turn.verdict
  call_nests levels t is_jump turn f course nests = record {
    call = record { to = t; is_jump = is_jump };
    is = given turn.verdict (verdict_by is_jump t) f
        (ap through course.is ∙ shown_through course.rule course.exit turn.written f ∙ ap shown (course.by_verdict into rest f));
    nests = nests;
  }

  -- some packet of the turn has the rule's verdict, with the facts of some state
  pub rule_nests : (interfaces : List Interface) (levels c n : ℕ) (ss : List Statement) (d0 d : DiagramsView) (states : List (Case Written))
      (turns : List (Case Turn)) (before after : ℕ → ℕ → RuleSets) → GoThrough p interfaces c n ss d0 d states turns before after
      → HavePackets d turns → SomeTurnNests p levels turns → RuleNests p levels c n ss
  rule_nests interfaces levels c n ss d0 d states turns before after goes have some =
      let call = some.nests.call in
      let packet = packet-of d turns some.turn have some.among in
      let state = found (λ w. is_call call (rule_end p c n 1 ss (facts_of interfaces w packet.0)).verdict) (outcomes_for d0 states packet.0)
      (sym (goes.they_end packet.0 (λ v g. is_call call v))
      ∙ some-among d turns some.turn packet.0 (λ t. is_call call t.verdict) some.among packet.1 (ap (is_call call) some.nests.is ∙ is_itself call)) in
      let facts = facts_of interfaces state.0 packet.0 in
      record {
        facts = facts;
        nests = record {
          call = call;
          is = is_this call (rule_end p c n 1 ss facts).verdict state.1;
          nests = some.nests.nests;
        };
      }

  -- ---- a chain

  stands_at : (o : Option (List (List Statement))) (k : ℕ) (ss : List Statement) → k < length (unwrap_or o []) → get_or (unwrap_or o []) k ss ≡ ss
      → option_and_then (λ rules. numbered_from_one rules (suc k)) o ≡ Some ss
  stands_at None k ss inside at = absurd (omega arith)
  stands_at (Some rules) k ss inside at = slice_get-get_or rules k ss inside ∙ ap Some at

  pub chain_nests : (levels deeper c k n : ℕ) (rs : List (List Statement)) (ss : List Statement) → deeper + 1 ≡ levels
      → rs ≡ unwrap_or (p.rules_at c) [] → k < length rs → get_or rs k ss ≡ ss → n ≡ k + 1 → RuleNests p deeper c n ss → NestsOver p levels c
  chain_nests levels deeper c k n rs ss level its inside at number rule =
      let nests = rule.nests.nests in
      let one_on : suc k ≡ n = omega arith in
      let stands : statements_at p c n ≡ Some ss =
      subst (λ m. option_and_then (λ rules. numbered_from_one rules m) (p.rules_at c) ≡ Some ss) one_on
      (stands_at (p.rules_at c) k ss (subst (λ l. k < length l) its inside) (subst (λ l. get_or l k ss ≡ ss) its at)) in
      record {
        to = nests.to;
        along = rule.nests.call ∷ nests.along;
        path = (
          record { rule = n; statements = ss; stands = stands; facts = rule.facts; gives = rule.nests.is },
          nests.path,
        );
        over = omega (arith, nests.over);
      }

  -- no level is left
  pub none_left : (levels c : ℕ) → (1 ≤ levels → ⊥) → NestsOver p levels c
  none_left zero c none = record { to = c; along = []; path = refl; over = omega arith }
  none_left (suc n) c none = absurd (none (omega arith))
