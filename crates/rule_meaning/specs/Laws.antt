-- Definitions for the properties in `laws.rt`.
use Rattle.std.specs.Prelude.{◌≡◌, ◌↔◌, ℕ, ◌+◌, List, [], ◌∷◌, ◌++◌, length, Option, Some, None}
use Rattle.nft_tree.specs.declared.selector.Selector.{Selector}
use Rattle.nft_tree.specs.declared.selector.Selector.TheVariants as selectors
use Rattle.nft_tree.specs.declared.statement.CounterStart.{CounterStart}
use Rattle.nft_tree.specs.Tree as tree
use Rattle.nft_tree.specs.Tree.{MatchTree, Statement, TableTree}
use Rattle.box_file.specs.Box.{PlantTree}
use Rattle.rule_meaning.specs.declared.facts.Facts.{Facts}
use Rattle.rule_meaning.specs.declared.event.Event.{Event}
use Rattle.rule_meaning.specs.declared.event.Event.TheVariants.{Counted}
use Rattle.rule_meaning.specs.declared.event.RuleVerdict.TheVariants.{Jump}
use Rattle.rule_meaning.specs.Matches.{bit_selector}
use Rattle.rule_meaning.specs.Statements.{StatementEffect, pass, fail, note, give}
use Rattle.rule_meaning.specs.Runs.{Program, table_program, Remainder, in_rule, at_rule, RunResult, Runs, statement_position, with_verdict}
use Rattle.rule_meaning.specs.Hooks.{HookResult, Traversal}

-- ---- determinism

abbrev pub AtMostOneRun : {S : Type 0} → Program S → Type 0
AtMostOneRun {S} p =
    (c n : ℕ) (l : Remainder S) (f : Facts) (es : List Event) (o other : RunResult) → Runs p c n l f es o
    → Runs p c n l f es other → o ≡ other

abbrev pub AtMostOneResult : Traversal → Type 0
AtMostOneResult traversal =
    (f : Facts) (es : List Event) (hook_result other : HookResult) → traversal f es hook_result
    → traversal f es other → hook_result ≡ other

-- ---- matches

-- the selectors of a match
abbrev pub selectors_of : MatchTree → List Selector
selectors_of (tree.compare s o r) = s ∷ []
selectors_of (tree.is_in ss set) = ss
selectors_of (tree.not_in ss set) = ss
selectors_of (tree.bits field test words) = bit_selector field ∷ []
selectors_of (tree.any_flag fs) = selectors.TcpFlags ∷ []
selectors_of (tree.exact_flags fs) = selectors.TcpFlags ∷ []
selectors_of (tree.masked_flags wanted mask) = selectors.TcpFlags ∷ []
selectors_of (tree.masked_flags_unequal wanted mask) = selectors.TcpFlags ∷ []

-- ---- passing statements

abbrev pub ReachedState : Type 0
ReachedState = Option (Facts × List Event)

abbrev pub state_behind : (Facts → List Event → ReachedState) → Facts → List Event → StatementEffect
    → ReachedState
state_behind rest f es pass = rest f es
state_behind rest f es (note e g) = rest g (es ++ e ∷ [])
state_behind rest f es fail = None
state_behind rest f es (give d) = None

-- the facts and all events after these statements of rule n of chain c, of which the first has number k;
-- `None` if one of them fails or gives a verdict
abbrev pub state_after : {S : Type 0} → Program S → ℕ → ℕ → ℕ → List S → Facts → List Event → ReachedState
state_after p c n k [] f es = Some (f, es)
state_after p c n k (s ∷ ss) f es =
    state_behind (state_after p c n (k + 1) ss) f es (p.effect_of (statement_position p c n k) s f)

-- ---- runs with the same result

-- two remainders, each from its own facts and events, have the same results
abbrev pub RunsAlike : {S : Type 0} (p : Program S) → (c n : ℕ) → Remainder S → Facts → List Event → (m : ℕ)
    → Remainder S
    → Facts → List Event → Type 0
RunsAlike p c n l f es m k g later = (o : RunResult) → Runs p c n l f es o ↔ Runs p c m k g later o

-- a jump to a chain without rules has no effect but its event
abbrev pub EmptyJump : Program Statement → Type 0
EmptyJump p =
    (c n k t : ℕ) (s : Statement) (ss : List Statement) (rs : List (List Statement)) (f : Facts)
    (es : List Event) → p.effect_of (statement_position p c n k) s f ≡ give (Jump t) → p.rules_at t ≡ Some []
    → RunsAlike p c n (in_rule k (s ∷ ss) rs) f es (n + 1) (at_rule rs) f (with_verdict p es c n (Jump t))

-- a counter after statements that a packet passes counts it, after their events
abbrev pub CounterCounts : PlantTree → ℕ → TableTree → Type 0
CounterCounts network number t =
    (c n k : ℕ) (before after : List Statement) (start : Option CounterStart) (rs : List (List Statement))
    (f g : Facts) (es later : List Event)
    → state_after (table_program network number t) c n k before f es ≡ Some (g, later)
    → RunsAlike (table_program network number t) c n
    (in_rule k (before ++ tree.counter start ∷ after) rs) f es n
    (in_rule (k + length before + 1) after rs) g
    (later ++ Counted (statement_position (table_program network number t) c n (k + length before)) ∷ [])

-- what follows statements that a packet doesn't pass has no effect on it
abbrev pub UnreachedHasNoEffect : PlantTree → ℕ → TableTree → Type 0
UnreachedHasNoEffect network number t =
    (c n k : ℕ) (before after : List Statement) (rs : List (List Statement)) (f : Facts) (es : List Event)
    → state_after (table_program network number t) c n k before f es ≡ None
    → RunsAlike (table_program network number t) c n (in_rule k (before ++ after) rs) f es n
    (in_rule k before rs) f es
