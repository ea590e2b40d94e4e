-- What a statement that goes on leaves.
use Rattle.std.proofs.Common.{◌≡◌, ℕ, Bool, refl, ap, sym}
use Rattle.rule_meaning.specs.declared.facts.Facts.{Facts}
use Rattle.rule_meaning.specs.declared.facts.CtFacts.{CtFacts}
use Rattle.rule_meaning.specs.declared.facts.CtFacts.TheVariants as ct
use Rattle.nft_tree.specs.declared.statement.MarkField.TheVariants as marks
use Rattle.rule_meaning.specs.declared.event.RuleVerdict.{RuleVerdict}
use Rattle.rule_meaning.specs.Statements.{StatementEffect, pass, fail, note, give, sets_notrack, writes_connection}
use Rattle.action_cases.specs.declared.cases.Outcome.{Outcome}
use Rattle.action_cases.specs.declared.cases.Outcome.TheVariants as outcomes
use Rattle.fact_sets.specs.declared.readings.Reader.{Reader}
use Rattle.fact_sets.specs.Cases.{seen}
use Rattle.action_cases.specs.Effects.{Leaves, outcome_effect, written_after}
use Rattle.fact_sets.specs.Facts.{facts_of, mark_number}
use Rattle.action_cases.proofs.KeptLaws.{kept}
use Rattle.rule_sets.specs.Ends.{RuleEnd, end_behind}

abbrev GoesOn : StatementEffect → Type 0
GoesOn pass = Unit {0}
GoesOn (note e f) = Unit {0}
GoesOn fail = ⊥
GoesOn (give d) = ⊥

moves : (last : Bool) (rest : Facts → RuleEnd) (f g : Facts) (w : StatementEffect) → GoesOn w → Leaves w f g → end_behind last rest f w ≡ rest g
moves last rest f g pass on is = ap rest is
moves last rest f g (note e h) on is = ap rest is
moves last rest f g fail on is = absurd on
moves last rest f g (give d) on is = absurd on

untracks-on : (f : Facts) (c : CtFacts) → GoesOn (sets_notrack f c)
untracks-on f ct.NotLookedUp = tt
untracks-on f ct.Notrack = tt
untracks-on f ct.Untracked = tt
untracks-on f ct.Invalid = tt
untracks-on f (ct.Known c) = tt

marks-on : (f : Facts) (n : ℕ) (c : CtFacts) → GoesOn (writes_connection f c n)
marks-on f n ct.NotLookedUp = tt
marks-on f n ct.Notrack = tt
marks-on f n ct.Untracked = tt
marks-on f n ct.Invalid = tt
marks-on f n (ct.Known c) = tt

abbrev pub NoVerdict : Outcome → Type 0
NoVerdict o = (v : RuleVerdict) → o ≡ outcomes.Gives v → ⊥

goes-on : (r : Reader) (o : Outcome) (f : ℕ → Bool) → NoVerdict o → GoesOn (outcome_effect r o f)
goes-on r outcomes.Passes f none = tt
goes-on r (outcomes.Counts position) f none = tt
goes-on r (outcomes.Logs position) f none = tt
goes-on r outcomes.Untracks f none = untracks-on (seen r f) (seen r f).ct
goes-on r (outcomes.Marks marks.Meta source) f none = tt
goes-on r (outcomes.Marks marks.Ct source) f none = marks-on (seen r f) (mark_number source f) (seen r f).ct
goes-on r (outcomes.Gives v) f none = none v refl

pub moved : (last : Bool) (rest : Facts → RuleEnd) (r : Reader) (o : Outcome) (f : ℕ → Bool) → NoVerdict o
    → rest (facts_of r.interfaces.now (written_after o r.written) f) ≡ end_behind last rest (seen r f) (outcome_effect r o f)
moved last rest r o f none = sym (moves last rest (seen r f) _ (outcome_effect r o f) (goes-on r o f none) (kept r o f))
