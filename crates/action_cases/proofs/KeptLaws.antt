-- What actions leave of facts, and of the mark of a connection.
use Rattle.std.proofs.Common.{◌≡◌, nat_le, ℕ, Bool, true, cond, refl, arith, Some, None}
use Rattle.std.proofs.lemmas.Bool.Decides.{nat_tests}
use Rattle.nft_tree.specs.declared.selector.Selector.TheVariants as selectors
use Rattle.nft_tree.specs.declared.statement.MarkField.TheVariants as marks
use Rattle.rule_meaning.specs.declared.facts.Facts.{Facts}
use Rattle.rule_meaning.specs.declared.facts.CtFacts.{CtFacts}
use Rattle.rule_meaning.specs.declared.facts.CtFacts.TheVariants as ct
use Rattle.rule_meaning.specs.Matches.{tests}
use Rattle.rule_meaning.specs.Selectors.{of_connection, value}
use Rattle.rule_meaning.specs.Statements.{sets_notrack, writes_connection}
use Rattle.fact_sets.specs.declared.readings.Reader.{Reader}
use Rattle.fact_sets.specs.declared.written.MarkSource.{MarkSource}
use Rattle.fact_sets.specs.declared.written.Written.{Written}
use Rattle.fact_sets.specs.Cases.{seen}
use Rattle.fact_sets.specs.Facts.{TRACKING, ct_at, facts_of, mark_number, number_in}
use Rattle.action_cases.specs.declared.cases.Outcome.{Outcome}
use Rattle.action_cases.specs.declared.cases.Outcome.TheVariants as outcomes
use Rattle.action_cases.specs.Effects.{Leaves, outcome_effect, written_after}

marked : CtFacts → ℕ → CtFacts
marked (ct.Known c) n = ct.Known (record c { mark = n })
marked x n = x

connection-marked : (w : Written) (source : MarkSource) (n : ℕ) (f : ℕ → Bool)
    → marked (ct_at w n f) (mark_number source f) ≡ ct_at (record w { connection = source }) n f
unfolding marked
connection-marked w source n f = grind (arith, nat_tests)

connection-left : (f : Facts) (x : CtFacts) (n : ℕ) → f.ct ≡ x → Leaves (writes_connection f x n) f (record f { ct = marked x n })
unfolding marked
connection-left f ct.NotLookedUp n e = rw (← e) refl
connection-left f ct.Notrack n e = rw (← e) refl
connection-left f ct.Untracked n e = rw (← e) refl
connection-left f ct.Invalid n e = rw (← e) refl
connection-left f (ct.Known c) n e = refl

untracked : CtFacts → CtFacts
untracked ct.NotLookedUp = ct.Notrack
untracked x = x

lookup-skipped : (w : Written) (n : ℕ) (f : ℕ → Bool) → untracked (ct_at w n f) ≡ ct_at (record w { untracked = true }) n f
unfolding untracked
lookup-skipped w n f = grind (arith, nat_tests)

notrack-left : (f : Facts) (x : CtFacts) → f.ct ≡ x → Leaves (sets_notrack f x) f (record f { ct = untracked x })
unfolding untracked
notrack-left f ct.NotLookedUp e = refl
notrack-left f ct.Notrack e = rw (← e) refl
notrack-left f ct.Untracked e = rw (← e) refl
notrack-left f ct.Invalid e = rw (← e) refl
notrack-left f (ct.Known c) e = rw (← e) refl

pub kept : (r : Reader) (o : Outcome) (f : ℕ → Bool)
    → Leaves (outcome_effect r o f) (seen r f) (facts_of r.interfaces.now (written_after o r.written) f)
unfolding facts_of
kept r outcomes.Passes f = refl
kept r (outcomes.Counts position) f = refl
kept r (outcomes.Logs position) f = refl
kept r outcomes.Untracks f =
    rw (← lookup-skipped r.written (number_in TRACKING f) f) (notrack-left (seen r f) (ct_at r.written (number_in TRACKING f) f) refl)
kept r (outcomes.Marks marks.Meta source) f = refl
kept r (outcomes.Marks marks.Ct source) f =
    rw (← connection-marked r.written source (number_in TRACKING f) f) (connection-left (seen r f) (ct_at r.written (number_in TRACKING f) f)
    (mark_number source f) refl)
kept r (outcomes.Gives verdict) f = tt

-- ---- marks

pub meta_mark : (r : Reader) (f : ℕ → Bool) → value selectors.MetaMark (seen r f) ≡ Some (mark_number r.written.packet f)
unfolding facts_of
meta_mark r f = refl

connection-mark : (w : Written) (n : ℕ) (f : ℕ → Bool) → of_connection (λ c. c.mark) (ct_at w n f)
    ≡ cond (tests (of_connection (λ c. c.mark) (ct_at w n f)) (nat_le 0)) (Some (mark_number w.connection f)) None
connection-mark w n f = grind (arith, nat_tests)

pub ct_mark : (r : Reader) (f : ℕ → Bool) → value selectors.CtMark (seen r f)
    ≡ cond (tests (value selectors.CtMark (seen r f)) (nat_le 0)) (Some (mark_number r.written.connection f)) None
unfolding facts_of
ct_mark r f = connection-mark r.written (number_in TRACKING f) f
