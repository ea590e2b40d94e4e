-- The events of rules of a table: whose they are, and which there are.
use Rattle.std.proofs.Common.{◌≡◌, ◌⊎◌, inl, inr, ℕ, ◌+◌, ◌==◌, length, Bool, true, false, ◌||◌, List, [], ◌∷◌, ◌++◌}
use Rattle.std.proofs.Common.{Contains, Option, Some, None, unwrap_or, refl, sym, ap, ◌∙◌, subst}
use Rattle.std.proofs.lemmas.List.Elements.{Contains-append_left, Contains-append_right, Contains-push_cases}
use Rattle.list_laws.specs.Lists.{Contains-head}
use Rattle.nft_tree.specs.declared.statement.MarkField.{MarkField}
use Rattle.nft_tree.specs.declared.statement.MarkField.TheVariants as marks
use Rattle.nft_tree.specs.Tree as tree
use Rattle.nft_tree.specs.Tree.{Statement, TableTree}
use Rattle.box_file.specs.Box.{PlantTree}
use Rattle.rule_check.specs.Chains.{is_terminal, has_statement_after_terminal}
use Rattle.rule_meaning.specs.declared.facts.Facts.{Facts}
use Rattle.rule_meaning.specs.declared.facts.CtFacts.{CtFacts}
use Rattle.rule_meaning.specs.declared.facts.CtFacts.TheVariants as ct
use Rattle.rule_meaning.specs.declared.event.Event.{Event}
use Rattle.rule_meaning.specs.declared.event.Event.TheVariants.{Counted, Logged, Untracked, Marked, TookVerdict, TookPolicy}
use Rattle.rule_meaning.specs.declared.event.RuleVerdict.{RuleVerdict}
use Rattle.rule_meaning.specs.declared.event.RuleVerdict.TheVariants.{Translate}
use Rattle.rule_meaning.specs.declared.event.StatementPosition.{StatementPosition}
use Rattle.rule_meaning.specs.Sets.{Scope, looked_up, data_verdict}
use Rattle.rule_meaning.specs.Matches.{holds}
use Rattle.rule_meaning.specs.Statements.{StatementEffect, pass, fail, note, give, passes_if, with_value, rule_verdict_of}
use Rattle.rule_meaning.specs.Statements.{operand_number, sets_notrack, writes, writes_connection, nat_action_of, statement_effect}
use Rattle.rule_meaning.specs.Runs.{Program, table_program, rule_no, statement_position}
use Rattle.rule_sets.specs.Ends.{RuleEnd, end_behind, rule_end, events_behind, rule_events}

-- ---- the effects of statements

-- an event that a statement notes is of its place
abbrev pub IsAt : StatementPosition → Event → Type 0
IsAt place (Counted at) = at ≡ place
IsAt place (Logged at) = at ≡ place
IsAt place (TookVerdict rule d) = ⊥
IsAt place Untracked = Unit {0}
IsAt place (Marked field n) = Unit {0}
IsAt place (TookPolicy chain policy) = Unit {0}

-- terminal statements give a verdict or fail, others give none
abbrev pub Acts : StatementPosition → Statement → StatementEffect → Type 0
Acts place s pass = is_terminal s ≡ false
Acts place s fail = Unit {0}
Acts place s (note e g) = (is_terminal s ≡ false) × IsAt place e
Acts place s (give d) = is_terminal s ≡ true

module _ (place : StatementPosition) where
  passed : (s : Statement) → is_terminal s ≡ false → (b : Bool) → Acts place s (passes_if b)
  passed s is true = is
  passed s is false = tt

  untracked : (f : Facts) (known : CtFacts) → Acts place tree.notrack (sets_notrack f known)
  untracked f ct.NotLookedUp = (refl, tt)
  untracked f ct.Notrack = refl
  untracked f ct.Untracked = refl
  untracked f ct.Invalid = refl
  untracked f (ct.Known c) = refl

  connection_marked : (s : Statement) → is_terminal s ≡ false → (f : Facts) (known : CtFacts) (n : ℕ) → Acts place s (writes_connection f known n)
  connection_marked s is f ct.NotLookedUp n = is
  connection_marked s is f ct.Notrack n = is
  connection_marked s is f ct.Untracked n = is
  connection_marked s is f ct.Invalid n = is
  connection_marked s is f (ct.Known c) n = (is, tt)

  marked : (s : Statement) → is_terminal s ≡ false → (field : MarkField) (f : Facts) (o : Option ℕ) → Acts place s (with_value (writes field f) o)
  marked s is field f None = tt
  marked s is marks.Meta f (Some n) = (is, tt)
  marked s is marks.Ct f (Some n) = connection_marked s is f f.ct n

  given_by : {A : Type 0} (s : Statement) → is_terminal s ≡ true → (verdict : A → RuleVerdict) (o : Option A)
      → Acts place s (with_value (λ x. give (verdict x)) o)
  given_by s is verdict None = tt
  given_by s is verdict (Some x) = is

  acts : (scope : Scope) (s : Statement) (f : Facts) → Acts place s (statement_effect scope place s f)
  acts scope (tree.matching m) f = passed (tree.matching m) refl (holds scope m f)
  acts scope (tree.counter start) f = (refl, refl)
  acts scope (tree.log text) f = (refl, refl)
  acts scope tree.notrack f = untracked f f.ct
  acts scope (tree.set_mark field operand) f = marked (tree.set_mark field operand) refl field f (operand_number scope operand f)
  acts scope (tree.verdict_map x m) f = given_by (tree.verdict_map x m) refl (λ v. rule_verdict_of scope.table v) (looked_up data_verdict scope x m f)
  acts scope (tree.verdict v) f = refl
  acts scope (tree.nat n) f = given_by (tree.nat n) refl (λ a. Translate a) (nat_action_of scope n f)

module _ (network : PlantTree) (number : ℕ) (t : TableTree) where
  abbrev p : Program Statement
  p = table_program network number t

  acts_at : (place : StatementPosition) (s : Statement) (f : Facts) → Acts place s (p.effect_of place s f)
  acts_at place s f = acts place (record { network = network; table = t }) s f

  -- ---- the own events of a rule

  abbrev pub IsOwn : ℕ → ℕ → RuleEnd → Event → Type 0
  IsOwn c n end (Counted at) = at.rule ≡ rule_no p c n
  IsOwn c n end (Logged at) = at.rule ≡ rule_no p c n
  IsOwn c n end (TookVerdict rule d) = (rule ≡ rule_no p c n) × (end.verdict ≡ Some d)
  IsOwn c n end Untracked = Unit {0}
  IsOwn c n end (Marked field m) = Unit {0}
  IsOwn c n end (TookPolicy chain policy) = Unit {0}

  module _ (c n : ℕ) where
    own_note : (k : ℕ) (end : RuleEnd) (e : Event) → IsAt (statement_position p c n k) e → IsOwn c n end e
    own_note k end (Counted at) is = ap (λ (x : StatementPosition). x.rule) is
    own_note k end (Logged at) is = ap (λ (x : StatementPosition). x.rule) is
    own_note k end (TookVerdict rule d) is = absurd is
    own_note k end Untracked is = tt
    own_note k end (Marked field m) is = tt
    own_note k end (TookPolicy chain policy) is = tt

    abbrev OwnBehind : List Event → RuleEnd → Event → List Event → Type 0
    OwnBehind es end e later = Contains later e → Contains es e ⊎ IsOwn c n end e

    own_behind : (k : ℕ) (s : Statement) (ss : List Statement) (f : Facts) (es : List Event) (e : Event) (w : StatementEffect)
        → Acts (statement_position p c n k) s w
        → ((g : Facts) (later : List Event) → OwnBehind later (rule_end p c n (k + 1) ss g) e (rule_events p c n (k + 1) ss g later))
        → OwnBehind es (end_behind (length ss == 0) (rule_end p c n (k + 1) ss) f w) e (events_behind p c n (rule_events p c n (k + 1) ss) f es w)
    own_behind k s ss f es e pass does rest = rest f es
    own_behind k s ss f es e fail does rest = λ has. inl has
    own_behind k s ss f es e (note x g) does rest = λ has.
        elim (rest g (es ++ x ∷ []) has) [
          | inl before ↦ elim (Contains-push_cases es x e before) [
            | inl h ↦ inl h
            | inr same ↦ inr (subst (IsOwn c n (rule_end p c n (k + 1) ss g)) same (own_note k (rule_end p c n (k + 1) ss g) x does.1))
          ]
          | inr own ↦ inr own
        ]
    own_behind k s ss f es e (give d) does rest = λ has.
        elim (Contains-push_cases es (TookVerdict (rule_no p c n) d) e has) [
          | inl h ↦ inl h
          | inr same ↦ inr (subst (IsOwn c n (record { facts = f; verdict = Some d; met = length ss == 0 })) same (refl, refl))
        ]

    pub own : (k : ℕ) (ss : List Statement) (f : Facts) (es : List Event) (e : Event)
        → OwnBehind es (rule_end p c n k ss f) e (rule_events p c n k ss f es)
    own k [] f es e = λ has. inl has
    own k (s ∷ ss) f es e =
        own_behind k s ss f es e (p.effect_of (statement_position p c n k) s f) (acts_at (statement_position p c n k) s f)
        (λ g later. own (k + 1) ss g later e)

    -- ---- events stay

    kept_behind : (k : ℕ) (ss : List Statement) (f : Facts) (es : List Event) (e : Event) (w : StatementEffect) → Contains es e
        → ((g : Facts) (later : List Event) → Contains later e → Contains (rule_events p c n (k + 1) ss g later) e)
        → Contains (events_behind p c n (rule_events p c n (k + 1) ss) f es w) e
    kept_behind k ss f es e pass has rest = rest f es has
    kept_behind k ss f es e fail has rest = has
    kept_behind k ss f es e (note x g) has rest = rest g (es ++ x ∷ []) (Contains-append_left es (x ∷ []) e has)
    kept_behind k ss f es e (give d) has rest = Contains-append_left es (TookVerdict (rule_no p c n) d ∷ []) e has

    pub kept : (k : ℕ) (ss : List Statement) (f : Facts) (es : List Event) (e : Event) → Contains es e → Contains (rule_events p c n k ss f es) e
    kept k [] f es e has = has
    kept k (s ∷ ss) f es e has =
        kept_behind k ss f es e (p.effect_of (statement_position p c n k) s f) has (λ g later. kept (k + 1) ss g later e)

    -- the event of a rule's verdict
    gave_behind : (k : ℕ) (ss : List Statement) (f : Facts) (es : List Event) (d : RuleVerdict) (w : StatementEffect)
        → (end_behind (length ss == 0) (rule_end p c n (k + 1) ss) f w).verdict ≡ Some d
        → ((g : Facts) (later : List Event) → (rule_end p c n (k + 1) ss g).verdict ≡ Some d
        → Contains (rule_events p c n (k + 1) ss g later) (TookVerdict (rule_no p c n) d))
        → Contains (events_behind p c n (rule_events p c n (k + 1) ss) f es w) (TookVerdict (rule_no p c n) d)
    gave_behind k ss f es d pass is rest = rest f es is
    gave_behind k ss f es d fail is rest = absurd cc
    gave_behind k ss f es d (note x g) is rest = rest g (es ++ x ∷ []) is
    gave_behind k ss f es d (give x) is rest =
        let same : x ≡ d = ap (λ o. unwrap_or o x) is in
        subst (λ y. Contains (es ++ TookVerdict (rule_no p c n) x ∷ []) (TookVerdict (rule_no p c n) y)) same
        (Contains-append_right es (TookVerdict (rule_no p c n) x ∷ []) (TookVerdict (rule_no p c n) x) (Contains-head (TookVerdict (rule_no p c n) x) []))

    pub gave : (k : ℕ) (ss : List Statement) (f : Facts) (es : List Event) (d : RuleVerdict) → (rule_end p c n k ss f).verdict ≡ Some d
        → Contains (rule_events p c n k ss f es) (TookVerdict (rule_no p c n) d)
    gave k [] f es d is = absurd cc
    gave k (s ∷ ss) f es d is =
        gave_behind k ss f es d (p.effect_of (statement_position p c n k) s f) is (λ g later at. gave (k + 1) ss g later d at)

    -- ---- the last statement

    later_ends : (s : Statement) (ss : List Statement) → has_statement_after_terminal (s ∷ ss) ≡ false → has_statement_after_terminal ss ≡ false
    later_ends s [] is = refl
    later_ends s (x ∷ xs) is = elim (is_terminal s) as (λ b. (b || has_statement_after_terminal (x ∷ xs)) ≡ false
        → has_statement_after_terminal (x ∷ xs) ≡ false) [ true ↦ λ e. absurd cc | false ↦ λ e. e ] is

    last_gives : (s : Statement) (ss : List Statement) → is_terminal s ≡ true → has_statement_after_terminal (s ∷ ss) ≡ false
        → (length ss == 0) ≡ true
    last_gives s [] gives is = refl
    last_gives s (x ∷ xs) gives is = absurd (let e : true ≡ false = ap (λ b. b || has_statement_after_terminal (x ∷ xs)) (sym gives) ∙ is in cc)

    -- a rule that gives a verdict is met, where only its last statement can
    met_behind : (k : ℕ) (s : Statement) (ss : List Statement) (f : Facts) (d : RuleVerdict) (w : StatementEffect)
        → Acts (statement_position p c n k) s w → has_statement_after_terminal (s ∷ ss) ≡ false
        → (end_behind (length ss == 0) (rule_end p c n (k + 1) ss) f w).verdict ≡ Some d
        → ((g : Facts) → (rule_end p c n (k + 1) ss g).verdict ≡ Some d → (rule_end p c n (k + 1) ss g).met ≡ true)
        → (end_behind (length ss == 0) (rule_end p c n (k + 1) ss) f w).met ≡ true
    met_behind k s ss f d pass does none is rest = rest f is
    met_behind k s ss f d fail does none is rest = absurd cc
    met_behind k s ss f d (note x g) does none is rest = rest g is
    met_behind k s ss f d (give x) does none is rest = last_gives s ss does none

    pub met : (k : ℕ) (ss : List Statement) (f : Facts) (d : RuleVerdict) → has_statement_after_terminal ss ≡ false
        → (rule_end p c n k ss f).verdict ≡ Some d → (rule_end p c n k ss f).met ≡ true
    met k [] f d none is = refl
    met k (s ∷ ss) f d none is =
        met_behind k s ss f d (p.effect_of (statement_position p c n k) s f) (acts_at (statement_position p c n k) s f) none is
        (λ g. met (k + 1) ss g d (later_ends s ss none))

    -- a rule with a terminal statement at its end that is met gives a verdict
    abbrev Ended : RuleEnd → Type 0
    Ended end = end.met ≡ true → (d : RuleVerdict) × (end.verdict ≡ Some d)

    ends_behind : (k : ℕ) (s : Statement) (ss : List Statement) (f : Facts) (w : StatementEffect) → Acts (statement_position p c n k) s w
        → is_terminal s ≡ true ⊎ ((g : Facts) → Ended (rule_end p c n (k + 1) ss g))
        → Ended (end_behind (length ss == 0) (rule_end p c n (k + 1) ss) f w)
    ends_behind k s ss f pass does (inl terminal) = absurd (let e : true ≡ false = sym terminal ∙ does in cc)
    ends_behind k s ss f pass does (inr rest) = rest f
    ends_behind k s ss f fail does either = λ is. absurd cc
    ends_behind k s ss f (note x g) does (inl terminal) = absurd (let e : true ≡ false = sym terminal ∙ does.0 in cc)
    ends_behind k s ss f (note x g) does (inr rest) = rest g
    ends_behind k s ss f (give d) does either = λ is. (d, refl)

    pub ends_given : (k : ℕ) (before : List Statement) (s : Statement) (f : Facts) → is_terminal s ≡ true
        → Ended (rule_end p c n k (before ++ s ∷ []) f)
    ends_given k [] s f terminal =
        ends_behind k s [] f (p.effect_of (statement_position p c n k) s f) (acts_at (statement_position p c n k) s f) (inl terminal)
    ends_given k (x ∷ xs) s f terminal =
        ends_behind k x (xs ++ s ∷ []) f (p.effect_of (statement_position p c n k) x f) (acts_at (statement_position p c n k) x f)
        (inr (λ g. ends_given (k + 1) xs s g terminal))
