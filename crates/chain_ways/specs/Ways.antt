-- The way of a packet through a chain: the rules that it comes to, in order, and how it ends (nft(8),
-- "Rules", "Verdict statement", "NAT statements"). It is a value, while `Runs` of rule_meaning is a relation.
use Rattle.std.specs.Prelude.{ℕ, zero, suc, ◌+◌, Bool, ◌==◌, ◌&&◌, List, [], ◌∷◌, ◌++◌, Option, Some, None, unwrap_or}
use Rattle.std.specs.List.{list_any}
use Rattle.rule_meaning.specs.declared.facts.Facts.{Facts}
use Rattle.rule_meaning.specs.declared.event.Event.{Event}
use Rattle.rule_meaning.specs.declared.event.HookVerdict.{HookVerdict}
use Rattle.rule_meaning.specs.declared.event.HookVerdict.TheVariants.{Accepted, Dropped, Translated}
use Rattle.rule_meaning.specs.declared.event.RuleVerdict.{RuleVerdict}
use Rattle.rule_meaning.specs.declared.event.RuleVerdict.TheVariants as verdicts
use Rattle.rule_meaning.specs.Runs as runs
use Rattle.rule_meaning.specs.Runs.{Program, RunResult}
use Rattle.rule_sets.specs.Ends.{RuleEnd, rule_end, rule_events}

-- how the way of a packet through a chain ends, with the facts then: the chain is evaluated to its end, or a
-- `return` ended it; or a rule gave a verdict for the whole base chain, which no further rule changes
pub data WayEnd : Type 0 where
  ended : (facts : Facts) → WayEnd
  over : (verdict : HookVerdict) (facts : Facts) → WayEnd

-- a rule that a packet comes to, with the facts with which it does: the index of its chain, its number there,
-- from 1, and its statements
pub record Visit (S : Type 0) : Type 0 where
  pub chain : ℕ
  pub rule : ℕ
  pub statements : List S
  pub facts : Facts

-- all rules that a packet comes to, in order (a rule once for each time), and how its way ends
pub record Way (S : Type 0) : Type 0 where
  pub visits : List (Visit S)
  pub end : WayEnd

-- ---- the ways of packets

module _ {S : Type 0} where
  -- no rule
  abbrev pub ends_here : WayEnd → Way S
  ends_here end = record { visits = []; end = end }

  abbrev pub end_behind_chain : (rest : Facts → Way S) → WayEnd → Way S
  end_behind_chain rest (ended f) = rest f
  end_behind_chain rest (over verdict f) = ends_here (over verdict f)

  abbrev pub visits_before : List (Visit S) → Way S → Way S
  visits_before visits way = record { visits = visits ++ way.visits; end = way.end }

  -- the way through a chain that was jumped to, and where that chain has ended, the way behind the jump; a
  -- verdict for the base chain stands
  abbrev pub then_back : (rest : Facts → Way S) → Way S → Way S
  then_back rest way = visits_before way.visits (end_behind_chain rest way.end)

  -- the way behind a rule that gave this verdict, or none; `into` is the way through the chain with an index,
  -- and `rest` that through the rules behind
  --   accept, drop and NAT statements end the evaluation of the base chain;
  --   continue, or no verdict: evaluation continues with the next rule;
  --   return: the current chain ends;
  --   jump: the other chain is evaluated from its first rule on, and when it has ended, the next rule;
  --   goto: the other chain is evaluated from its first rule on in place of the rest of this one, so where it
  --   ends, this chain does, and evaluation continues where this chain would have returned to
  abbrev pub after_verdict : (into : ℕ → Facts → Way S) → (rest : Facts → Way S) → Option RuleVerdict → Facts
      → Way S
  after_verdict into rest None f = rest f
  after_verdict into rest (Some verdicts.Continue) f = rest f
  after_verdict into rest (Some verdicts.Accept) f = ends_here (over Accepted f)
  after_verdict into rest (Some verdicts.Drop) f = ends_here (over Dropped f)
  after_verdict into rest (Some (verdicts.Translate t)) f = ends_here (over (Translated t) f)
  after_verdict into rest (Some verdicts.Return) f = ends_here (ended f)
  after_verdict into rest (Some (verdicts.Jump t)) f = then_back rest (into t f)
  after_verdict into rest (Some (verdicts.Goto t)) f = into t f

  abbrev pub after_rule : (into : ℕ → Facts → Way S) → (rest : Facts → Way S) → RuleEnd → Way S
  after_rule into rest end = after_verdict into rest end.verdict end.facts

module _ {S : Type 0} (p : Program S) where
  -- the way through these rules of chain c, of which the first has number n
  abbrev pub way_by : (into : ℕ → Facts → Way S) → (c n : ℕ) → List (List S) → Facts → Way S
  way_by into c n [] f = ends_here (ended f)
  way_by into c n (r ∷ rs) f =
      visits_before (record { chain = c; rule = n; statements = r; facts = f } ∷ [])
      (after_rule into (way_by into c (n + 1) rs) (rule_end p c n 1 r f))

  -- the way through chain t, with jumps and gotos at most so many chains deep, this one included: what lies
  -- deeper is left out. An unknown chain has no rules
  abbrev pub way : (levels : ℕ) → ℕ → Facts → Way S
  way zero t f = ends_here (ended f)
  way (suc levels) t f = way_by (way levels) t 1 (unwrap_or (p.rules_at t) []) f

-- ---- rules that a packet comes to

-- the visit is one of rule n of chain c
abbrev pub is_of_rule : {S : Type 0} → ℕ → ℕ → Visit S → Bool
is_of_rule c n v = (v.chain == c) && (v.rule == n)

-- the packet comes to rule n of chain c
abbrev pub comes_to : {S : Type 0} → ℕ → ℕ → Way S → Bool
comes_to c n way = list_any (is_of_rule c n) way.visits

-- the packet comes to rule n of chain c, and meets its last statement: that is reached and doesn't fail
abbrev pub meets : {S : Type 0} → Program S → ℕ → ℕ → Way S → Bool
meets p c n way =
    list_any (λ v. is_of_rule c n v && (rule_end p c n 1 v.statements v.facts).met) way.visits

-- ---- what it does

abbrev pub result_with : List Event → WayEnd → RunResult
result_with es (ended f) = runs.at_end f es
result_with es (over verdict f) = runs.over verdict f es

module _ {S : Type 0} (p : Program S) where
  -- all events behind these, after the rules of the visits in order
  abbrev pub events_of_visits : List (Visit S) → List Event → List Event
  events_of_visits [] es = es
  events_of_visits (v ∷ vs) es =
      events_of_visits vs (rule_events p v.chain v.rule 1 v.statements v.facts es)

  -- what a run along this way comes to, with these events before it
  abbrev pub run_result : Way S → List Event → RunResult
  run_result way es = result_with (events_of_visits way.visits es) way.end
