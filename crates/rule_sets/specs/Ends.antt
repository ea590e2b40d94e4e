-- The end of a rule for a packet, and what follows it; and ends as sets. (own, but for what follows: nft(8),
-- "Rules", "Verdict statement")
use Rattle.std.specs.Prelude.{◌≡◌, ◌↔◌, ℕ, ◌+◌, Bool, true, false, cond, ◌==◌}
use Rattle.std.specs.Prelude.{length, List, [], ◌∷◌, ◌++◌, map, Option, Some, None}
use Rattle.packet_sets.specs.declared.packet_set.PacketSet.{PacketSet}
use Rattle.packet_sets.specs.Sets.{DiagramsView, holds}
use Rattle.rule_meaning.specs.declared.facts.Facts.{Facts}
use Rattle.rule_meaning.specs.declared.event.Event.{Event}
use Rattle.rule_meaning.specs.declared.event.HookVerdict.TheVariants.{Accepted, Dropped, Translated}
use Rattle.rule_meaning.specs.declared.event.RuleVerdict.{RuleVerdict}
use Rattle.rule_meaning.specs.declared.event.RuleVerdict.TheVariants as verdicts
use Rattle.rule_meaning.specs.Statements.{StatementEffect, pass, fail, note, give}
use Rattle.rule_meaning.specs.Runs.{Program, RunResult, Runs, at_end, at_rule, in_rule, over, IsTerminal}
use Rattle.rule_meaning.specs.Runs.{statement_position, with_verdict}
use Rattle.fact_sets.specs.declared.cases.Case.{Case}
use Rattle.fact_sets.specs.declared.readings.Reader.{Reader}
use Rattle.fact_sets.specs.Cases.{AreCases, seen}
use Rattle.fact_sets.specs.Facts.{facts_of}
use Rattle.rule_sets.specs.declared.ends.End.{End}

-- ---- one packet

-- the facts at the end of a rule, the rule's verdict, if it gives one, and whether the packet meets the
-- rule's last statement: it is reached and doesn't fail
pub record RuleEnd : Type 0 where
  pub facts : Facts
  pub verdict : Option RuleVerdict
  pub met : Bool

-- after a statement, the last one or not, with the end of the rest
abbrev pub end_behind : Bool → (Facts → RuleEnd) → Facts → StatementEffect → RuleEnd
end_behind last rest f pass = rest f
end_behind last rest f (note e g) = rest g
end_behind last rest f fail = record { facts = f; verdict = None; met = false }
end_behind last rest f (give d) = record { facts = f; verdict = Some d; met = last }

-- the end of these statements of rule n of chain c, of which the first has number k
abbrev pub rule_end : {S : Type 0} → Program S → ℕ → ℕ → ℕ → List S → Facts → RuleEnd
rule_end p c n k [] f = record { facts = f; verdict = None; met = true }
rule_end p c n k (s ∷ ss) f =
    end_behind (length ss == 0) (rule_end p c n (k + 1) ss) f (p.effect_of (statement_position p c n k) s f)

module _ {S : Type 0} (p : Program S) (c n : ℕ) where
  abbrev pub events_behind : (Facts → List Event → List Event) → Facts → List Event → StatementEffect
      → List Event
  events_behind rest f es pass = rest f es
  events_behind rest f es (note e g) = rest g (es ++ e ∷ [])
  events_behind rest f es fail = es
  events_behind rest f es (give d) = with_verdict p es c n d

  -- all events then
  abbrev pub rule_events : ℕ → List S → Facts → List Event → List Event
  rule_events k [] f es = es
  rule_events k (s ∷ ss) f es =
      events_behind (rule_events (k + 1) ss) f es (p.effect_of (statement_position p c n k) s f)

  -- a jump: the chain runs to its end and then the next rule, or it gives a verdict for the base chain
  pub data Jumps (t : ℕ) (rs : List (List S)) (f : Facts) (es : List Event) (o : RunResult) : Type 0 where
    comes_back : (chain : List (List S)) (g : Facts) (later : List Event) → p.rules_at t ≡ Some chain
        → Runs p t 1 (at_rule chain) f es (at_end g later) → Runs p c (n + 1) (at_rule rs) g later o
        → Jumps t rs f es o
    is_over : (chain : List (List S)) → p.rules_at t ≡ Some chain → Runs p t 1 (at_rule chain) f es o
        → IsTerminal o → Jumps t rs f es o

  abbrev pub Goes : ℕ → Facts → List Event → RunResult → Type 0
  Goes t f es o =
      (chain : List (List S)) × (p.rules_at t ≡ Some chain) × Runs p t 1 (at_rule chain) f es o

  -- the result where the rule has ended with this verdict or none, and these rules follow
  abbrev pub Follows : Option RuleVerdict → List (List S) → Facts → List Event → RunResult → Type 0
  Follows None rs f es o = Runs p c (n + 1) (at_rule rs) f es o
  Follows (Some verdicts.Accept) rs f es o = o ≡ over Accepted f es
  Follows (Some verdicts.Drop) rs f es o = o ≡ over Dropped f es
  Follows (Some (verdicts.Translate t)) rs f es o = o ≡ over (Translated t) f es
  Follows (Some verdicts.Continue) rs f es o = Runs p c (n + 1) (at_rule rs) f es o
  Follows (Some verdicts.Return) rs f es o = o ≡ at_end f es
  Follows (Some (verdicts.Jump t)) rs f es o = Jumps t rs f es o
  Follows (Some (verdicts.Goto t)) rs f es o = Goes t f es o

-- the results of a rule are those of what follows its end
abbrev pub RunsToItsEnd : {S : Type 0} → Program S → Type 0
RunsToItsEnd {S} p =
    (c n k : ℕ) (ss : List S) (rs : List (List S)) (f : Facts) (es : List Event) (o : RunResult)
    → Runs p c n (in_rule k ss rs) f es o
    ↔ Follows p c n (rule_end p c n k ss f).verdict rs (rule_end p c n k ss f).facts
    (rule_events p c n k ss f es) o

-- ---- sets of packets

-- the outcomes of all cases that have the packet
abbrev pub outcomes_for : {V : Type 0} → DiagramsView → List (Case V) → (ℕ → Bool) → List V
outcomes_for d [] packet = []
outcomes_for d (c ∷ cs) packet = cond (holds d c.set packet) (c.outcome ∷ []) [] ++ outcomes_for d cs packet

abbrev pub end_at : PacketSet → End → Case End
end_at set e = record { set = set; outcome = e }

abbrev pub end_for : Reader → (ℕ → Bool) → End → RuleEnd
end_for reader packet e =
    record { facts = facts_of reader.interfaces.now e.written packet; verdict = e.verdict; met = e.met }

abbrev pub ends_for : DiagramsView → Reader → List (Case End) → (ℕ → Bool) → List RuleEnd
ends_for d reader ends packet = map (end_for reader packet) (outcomes_for d ends packet)

-- each packet of the set is in exactly one more end, the one with its facts and verdict, and whether it meets
-- the last statement; other packets are in none
pub record AddsEnds (old new : DiagramsView) (reader : Reader) (set : PacketSet) (end : Facts → RuleEnd)
    (before after : List (Case End)) : Type 0 where
  pub are : AreCases new after
  pub same : (packet : ℕ → Bool) → ends_for new reader after packet
      ≡ ends_for old reader before packet ++ cond (holds old set packet) (end (seen reader packet) ∷ []) []
