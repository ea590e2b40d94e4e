-- The packets that pass a match.
use Rattle.std.proofs.Common.{◌≡◌, ◌∙◌, ◌&&◌, ◌||◌, not, cond, ℕ, Bool, true, false, ap, refl, subst, Option, Some, None, is_some, List, Result, IfOk}
use Rattle.std.proofs.Common.{MatchOption, ◌<◌}
use Rattle.std.proofs.lemmas.Result.{IfOk-weaker}
use Rattle.set_intervals.specs.declared.range.Range.{Range}
use Rattle.nft_values.specs.Values.{Span, one_number, span_of}
use Rattle.packet_sets.specs.declared.fault.SetError.{SetError}
use Rattle.packet_sets.specs.declared.packet_set.PacketSet.{PacketSet}
use Rattle.packet_sets.specs.Sets.{DiagramsView, IsSet, Keeps, Means, holds}
use Rattle.nft_tree.specs.declared.statement.MarkField.TheVariants as marks
use Rattle.rule_meaning.specs.declared.facts.Facts.{Facts}
use Rattle.rule_meaning.specs.declared.facts.CtFacts.{CtFacts}
use Rattle.rule_meaning.specs.declared.facts.CtFacts.TheVariants as ct
use Rattle.rule_meaning.specs.Statements.{StatementEffect, fail, passes_if, sets_notrack, with_value, writes_connection}
use Rattle.fact_sets.specs.declared.cases.Case.{Case}
use Rattle.action_cases.specs.declared.cases.Outcome.{Outcome}
use Rattle.action_cases.specs.declared.cases.Outcome.TheVariants as outcomes
use Rattle.fact_sets.specs.declared.readings.Reader.{Reader}
use Rattle.fact_sets.specs.Cases.{picked, seen}
use Rattle.action_cases.specs.Effects.{Decides, outcome_effect}
use Rattle.fact_sets.specs.Facts.{mark_number}
use Rattle.fact_sets.proofs.SetLaws.{and_ok, means_kept}
use Rattle.rule_sets.specs.Parts.{AreParts}

-- ---- no outcome is a failure

abbrev IsNoFail : StatementEffect → Type 0
IsNoFail fail = ⊥
IsNoFail _ = Unit {0}

untracks : (f : Facts) (c : CtFacts) → IsNoFail (sets_notrack f c)
untracks f ct.NotLookedUp = tt
untracks f ct.Notrack = tt
untracks f ct.Untracked = tt
untracks f ct.Invalid = tt
untracks f (ct.Known c) = tt

marked : (f : Facts) (n : ℕ) (c : CtFacts) → IsNoFail (writes_connection f c n)
marked f n ct.NotLookedUp = tt
marked f n ct.Notrack = tt
marked f n ct.Untracked = tt
marked f n ct.Invalid = tt
marked f n (ct.Known c) = tt

no-fail : (r : Reader) (o : Outcome) (p : ℕ → Bool) → IsNoFail (outcome_effect r o p)
no-fail r outcomes.Passes p = tt
no-fail r (outcomes.Counts position) p = tt
no-fail r (outcomes.Logs position) p = tt
no-fail r outcomes.Untracks p = untracks (seen r p) (seen r p).ct
no-fail r (outcomes.Marks marks.Meta source) p = tt
no-fail r (outcomes.Marks marks.Ct source) p = marked (seen r p) (mark_number source p) (seen r p).ct
no-fail r (outcomes.Gives v) p = tt

-- ---- a match

picks : (r : Reader) (p : ℕ → Bool) (o : Option Outcome) (passes : Bool) → with_value (λ o. outcome_effect r o p) o ≡ passes_if passes → is_some o ≡ passes
picks r p None true e = cc
picks r p None false e = refl
picks r p (Some o) true e = refl
picks r p (Some o) false e = absurd (subst IsNoFail e (no-fail r o p))

twice-not : (b c : Bool) → b ≡ true → not (b && not c) ≡ c
twice-not true true e = refl
twice-not true false e = refl
twice-not false c e = cc

abbrev span : ℕ → ℕ → Span
span low high = record { low = low; high = high }

pub span_is : (o : Option Range) (r : Range) (n : ℕ) → MatchOption o (n < n) (λ r. (r.low ≡ n) × (r.high ≡ n)) → o ≡ Some r → span_of r ≡ one_number n
span_is o r n is e =
    let at = subst (λ v. MatchOption v (n < n) (λ r. (r.low ≡ n) × (r.high ≡ n))) e is in
    let with_low = λ (low : ℕ). span low r.high in
    ap with_low at.0 ∙ ap (span n) at.1

pub match_means : (d d2 new : DiagramsView) (r : Reader) (cases parts : List (Case Outcome)) (all rest set : PacketSet) (effect : Facts → StatementEffect)
    (test : Facts → Bool) → ((f : Facts) → effect f ≡ passes_if (test f)) → Decides d r cases effect → Means d all (λ p. true)
    → AreParts d d2 all cases parts rest → Means new set (λ p. not (holds d2 rest p)) → Means new set (λ p. test (seen r p))
match_means d d2 new r cases parts all rest set effect test same decides every sorted is = record {
  is_set = is.is_set;
  same = λ p.
      is.same p ∙ ap not (sorted.others.same p) ∙ twice-not (holds d all p) (is_some (picked d cases p)) (every.same p)
      ∙ picks r p (picked d cases p) (test (seen r p)) (decides.same p ∙ same (seen r p));
}

pub not_means : (d new : DiagramsView) (set other : PacketSet) (test : (ℕ → Bool) → Bool) → Means d set test → Means new other (λ p. not (holds d set p))
    → Means new other (λ p. not (test p))
not_means d new set other test has is = record { is_set = is.is_set; same = λ p. is.same p ∙ ap not (has.same p) }

-- ---- two sets, of which the first was made before the second

pub and_after : (a b new : DiagramsView) (left right : PacketSet) (p q : (ℕ → Bool) → Bool) (r : Result PacketSet SetError) → Keeps a b → Means a left p
    → Means b right q → IfOk r (λ set. Means new set (λ f. holds b left f && holds b right f)) → IfOk r (λ set. Means new set (λ f. p f && q f))
and_after a b new left right p q r k hl hr is = and_ok b new left right p q r (means_kept a b left p k hl) hr is

-- in both or in neither
alike-is : (x y : Bool) → not ((x && not y) || (y && not x)) ≡ cond y x (not x)
alike-is true true = refl
alike-is true false = refl
alike-is false true = refl
alike-is false false = refl

pub alike_means : (d a b e new : DiagramsView) (left right first second one set : PacketSet) → IsSet d left → IsSet d right → Keeps d a → Keeps a b
    → Means a first (λ f. holds d left f && not (holds d right f)) → Means b second (λ f. holds a right f && not (holds a left f))
    → Means e one (λ f. holds b first f || holds b second f) → Means new set (λ f. not (holds e one f))
    → Means new set (λ f. cond (holds d right f) (holds d left f) (not (holds d left f)))
alike_means d a b e new left right first second one set hl hr da ab is_first is_second is_one is = record {
  is_set = is.is_set;
  same = λ f.
      is.same f ∙ ap not (is_one.same f) ∙ ap (λ x. not (x || holds b second f)) (ab.same first f is_first.is_set ∙ is_first.same f)
      ∙ ap (λ x. not ((holds d left f && not (holds d right f)) || x)) (is_second.same f)
      ∙ ap (λ x. not ((holds d left f && not (holds d right f)) || (x && not (holds a left f)))) (da.same right f hr)
      ∙ ap (λ x. not ((holds d left f && not (holds d right f)) || (holds d right f && not x))) (da.same left f hl)
      ∙ alike-is (holds d left f) (holds d right f);
}

pub alike_ok : (d new : DiagramsView) (left right : PacketSet) (p q : (ℕ → Bool) → Bool) (r : Result PacketSet SetError) → Means d left p
    → Means d right q → IfOk r (λ set. Means new set (λ f. cond (holds d right f) (holds d left f) (not (holds d left f))))
    → IfOk r (λ set. Means new set (λ f. cond (q f) (p f) (not (p f))))
alike_ok d new left right p q r hl hr is = IfOk-weaker r _ _ (λ set h. record {
  is_set = h.is_set;
  same = λ f. h.same f ∙ ap (λ x. cond x (holds d left f) (not (holds d left f))) (hr.same f) ∙ ap (λ x. cond (q f) x (not x)) (hl.same f);
}) is

pub not_ok : (d new : DiagramsView) (set : PacketSet) (test : (ℕ → Bool) → Bool) (r : Result PacketSet SetError) → Means d set test
    → IfOk r (λ other. Means new other (λ p. not (holds d set p))) → IfOk r (λ other. Means new other (λ p. not (test p)))
not_ok d new set test r has is = IfOk-weaker r _ _ (λ other h. not_means d new set other test has h) is
