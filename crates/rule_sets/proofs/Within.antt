-- Cases within a set, one case after the other.
use Rattle.std.proofs.Common.{◌≡◌, ◌∙◌, ◌&&◌, ℕ, List, [], ◌∷◌, ◌++◌, Bool, true, false, cond, refl, ap, sym, subst, append-nil, append_assoc}
use Rattle.std.proofs.Common.{None, drop, get_or, length, ◌+◌, ◌<◌}
use Rattle.std.proofs.lemmas.List.{drop_more}
use Rattle.packet_sets.specs.declared.packet_set.PacketSet.{PacketSet}
use Rattle.packet_sets.specs.Sets.{DiagramsView, IsSet, Keeps, Means, holds}
use Rattle.fact_sets.specs.declared.cases.Case.{Case}
use Rattle.fact_sets.specs.declared.written.MarkSource.TheVariants.{Packet}
use Rattle.fact_sets.specs.Cases.{AreCases}
use Rattle.rule_sets.specs.declared.ends.End.{End}
use Rattle.rule_sets.specs.Ends.{outcomes_for}
use Rattle.rule_sets.proofs.Sorting.{are-kept, are-more, keeps_same, keeps_trans, outcomes-kept, outcomes-more}

-- what holds after some of the cases
pub record Cuts (d0 d : DiagramsView) (set : PacketSet) (parts left all : List (Case End)) : Type 0 where
  pub keeps : Keeps d0 d
  pub left_are : AreCases d0 left
  pub are : AreCases d parts
  pub same : (f : ℕ → Bool) → outcomes_for d parts f ++ cond (holds d0 set f) (outcomes_for d0 left f) []
      ≡ cond (holds d0 set f) (outcomes_for d0 all f) []

pub cuts_none : (d : DiagramsView) (set : PacketSet) (all : List (Case End)) → AreCases d all → Cuts d d set [] all all
cuts_none d set all are = record { keeps = keeps_same d; left_are = are; are = tt; same = λ f. refl }

abbrev pub any_end : Case End
any_end = record {
  set = record { node = 0 };
  outcome = record {
    written = record { packet = Packet; connection = Packet; untracked = false };
    verdict = None;
    met = false;
  };
}

pub cuts_next : (d0 d : DiagramsView) (set : PacketSet) (parts all : List (Case End)) (i : ℕ) → i < length all
    → Cuts d0 d set parts (drop i all) all → Cuts d0 d set parts (get_or all i any_end ∷ drop (i + 1) all) all
cuts_next d0 d set parts all i inside s = subst (λ left. Cuts d0 d set parts left all) (drop_more all i any_end inside) s

joined : (b c : Bool) (o : End) (before left : List End)
    → (before ++ cond (b && c) (o ∷ []) []) ++ cond b left [] ≡ before ++ cond b (cond c (o ∷ []) [] ++ left) []
joined true true o before left = append_assoc before (o ∷ []) left
joined true false o before left = append_assoc before [] left
joined false true o before left = append_assoc before [] []
joined false false o before left = append_assoc before [] []

pub cuts_more : (d0 d d1 : DiagramsView) (set part : PacketSet) (parts left all more : List (Case End)) (x : Case End) → IsSet d0 set
    → Cuts d0 d set parts (x ∷ left) all → Keeps d d1 → Means d1 part (λ f. holds d set f && holds d x.set f)
    → more ≡ parts ++ record { set = part; outcome = x.outcome } ∷ [] → Cuts d0 d1 set more left all
cuts_more d0 d d1 set part parts left all more x is_set s k means is =
    let one : Case End = record { set = part; outcome = x.outcome } in
    let at_part = λ (f : ℕ → Bool). means.same f ∙ ap (λ y. y && holds d x.set f) (s.keeps.same set f is_set)
    ∙ ap (λ y. holds d0 set f && y) (s.keeps.same x.set f s.left_are.0) in
    let gives = λ (f : ℕ → Bool). ap (λ l. outcomes_for d1 l f) is ∙ outcomes-more d1 parts one f
    ∙ ap (λ y. y ++ cond (holds d1 part f) (x.outcome ∷ []) []) (outcomes-kept d d1 parts f k s.are)
    ∙ ap (λ y. outcomes_for d parts f ++ cond y (x.outcome ∷ []) []) (at_part f) in
    record {
      keeps = keeps_trans d0 d d1 s.keeps k;
      left_are = s.left_are.1;
      are = rw is (are-more d1 parts one (are-kept d d1 parts k s.are) means.is_set);
      same = λ f. ap (λ y. y ++ cond (holds d0 set f) (outcomes_for d0 left f) []) (gives f)
          ∙ joined (holds d0 set f) (holds d0 x.set f) x.outcome (outcomes_for d parts f) (outcomes_for d0 left f) ∙ s.same f;
    }

-- none is left
pub cuts_all : (d0 d : DiagramsView) (set : PacketSet) (parts left all : List (Case End)) → left ≡ [] → Cuts d0 d set parts left all
    → (f : ℕ → Bool) → outcomes_for d parts f ≡ cond (holds d0 set f) (outcomes_for d0 all f) []
cuts_all d0 d set parts left all none s f =
    sym (append-nil (outcomes_for d parts f))
    ∙ ap (λ y. outcomes_for d parts f ++ y) (nothing (holds d0 set f) none)
    ∙ s.same f
  where
    nothing : (b : Bool) → left ≡ [] → [] ≡ cond b (outcomes_for d0 left f) []
    nothing true is = rw is refl
    nothing false is = refl
