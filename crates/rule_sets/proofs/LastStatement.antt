-- The packets that meet the last statement, end by end.
use Rattle.std.proofs.Common.{◌≡◌, ◌∙◌, ◌||◌, ℕ, List, [], ◌∷◌, ◌++◌, length, drop, get_or, Bool, true, false, cond, refl, ap, sym, subst, ◌<◌, ◌+◌, None}
use Rattle.std.specs.List.{list_any}
use Rattle.std.proofs.lemmas.List.{drop_more}
use Rattle.packet_sets.specs.declared.packet_set.PacketSet.{PacketSet}
use Rattle.packet_sets.specs.Sets.{DiagramsView, IsSet, Keeps, Means, holds}
use Rattle.fact_sets.specs.declared.cases.Case.{Case}
use Rattle.fact_sets.specs.declared.written.MarkSource.TheVariants as sources
use Rattle.fact_sets.specs.Cases.{AreCases}
use Rattle.rule_sets.specs.declared.ends.End.{End}
use Rattle.rule_sets.specs.Ends.{outcomes_for}
use Rattle.rule_sets.proofs.Sorting.{keeps_same, keeps_trans}

-- whether the packet is in one of the ends that meet it
abbrev pub is_met : DiagramsView → List (Case End) → (ℕ → Bool) → Bool
is_met d ends f = list_any (λ e. e.met) (outcomes_for d ends f)

-- with the ends that are left
pub record Meets (d0 d : DiagramsView) (met : PacketSet) (left all : List (Case End)) : Type 0 where
  pub keeps : Keeps d0 d
  pub met_set : IsSet d met
  pub left_are : AreCases d0 left
  pub same : (f : ℕ → Bool) → holds d met f || is_met d0 left f ≡ is_met d0 all f

pub meets_none : (d : DiagramsView) (met : PacketSet) (all : List (Case End)) → Means d met (λ f. false) → AreCases d all → Meets d d met all all
meets_none d met all none are = record {
  keeps = keeps_same d;
  met_set = none.is_set;
  left_are = are;
  same = λ f. ap (λ b. b || is_met d all f) (none.same f);
}

taken : (a b : Bool) (o : End) (ys : List End) → o.met ≡ true
    → (a || b) || list_any (λ e. e.met) ys ≡ a || list_any (λ e. e.met) (cond b (o ∷ []) [] ++ ys)
taken true b o ys is = refl
taken false true o ys is = ap (λ z. z || list_any (λ e. e.met) ys) (sym is)
taken false false o ys is = refl

left-out : (a b : Bool) (o : End) (ys : List End) → o.met ≡ false
    → a || list_any (λ e. e.met) ys ≡ a || list_any (λ e. e.met) (cond b (o ∷ []) [] ++ ys)
left-out true b o ys is = refl
left-out false true o ys is = ap (λ z. z || list_any (λ e. e.met) ys) (sym is)
left-out false false o ys is = refl

pub meets_more : (d0 d next : DiagramsView) (met more : PacketSet) (x : Case End) (left all : List (Case End)) → Meets d0 d met (x ∷ left) all
    → x.outcome.met ≡ true → Keeps d next → Means next more (λ f. holds d met f || holds d x.set f) → Meets d0 next more left all
meets_more d0 d next met more x left all s is k means = record {
  keeps = keeps_trans d0 d next s.keeps k;
  met_set = means.is_set;
  left_are = s.left_are.1;
  same = λ f.
      ap (λ b. b || is_met d0 left f) (means.same f ∙ ap (λ b. holds d met f || b) (s.keeps.same x.set f s.left_are.0))
      ∙ taken (holds d met f) (holds d0 x.set f) x.outcome (outcomes_for d0 left f) is ∙ s.same f;
}

pub meets_past : (d0 d : DiagramsView) (met : PacketSet) (x : Case End) (left all : List (Case End)) → Meets d0 d met (x ∷ left) all
    → x.outcome.met ≡ false → Meets d0 d met left all
meets_past d0 d met x left all s is = record {
  keeps = s.keeps;
  met_set = s.met_set;
  left_are = s.left_are.1;
  same = λ f. left-out (holds d met f) (holds d0 x.set f) x.outcome (outcomes_for d0 left f) is ∙ s.same f;
}

or-none : (b : Bool) → b ≡ b || false
or-none true = refl
or-none false = refl

pub meets_all : (d0 d : DiagramsView) (met : PacketSet) (left all : List (Case End)) → left ≡ [] → Meets d0 d met left all
    → Means d met (is_met d0 all)
meets_all d0 d met left all e given =
    let s = subst (λ l. Meets d0 d met l all) e given in
    record { is_set = s.met_set; same = λ f. or-none (holds d met f) ∙ s.same f }

abbrev pub any_end : Case End
any_end = record {
  set = record { node = 0 };
  outcome = record {
    written = record { packet = sources.Packet; connection = sources.Packet; untracked = false };
    verdict = None;
    met = false;
  };
}

-- with the next end in sight
pub meets_next : (d0 d : DiagramsView) (met : PacketSet) (all : List (Case End)) (i : ℕ) → i < length all → Meets d0 d met (drop i all) all
    → Meets d0 d met (get_or all i any_end ∷ drop (i + 1) all) all
meets_next d0 d met all i inside s = subst (λ l. Meets d0 d met l all) (drop_more all i any_end inside) s
