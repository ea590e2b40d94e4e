-- Sorting the packets of a set by cases, one case after the other.
use Rattle.std.proofs.Common.{◌≡◌, ◌∙◌, ◌&&◌, not, ℕ, List, [], ◌∷◌, ◌++◌, length, drop, get_or}
use Rattle.std.proofs.Common.{Bool, true, false, cond, refl, ap, sym, subst, ◌<◌, ◌+◌, append-nil, append_assoc}
use Rattle.std.proofs.Common.{Option, Some, is_some}
use Rattle.std.proofs.lemmas.List.{drop_more}
use Rattle.packet_sets.specs.declared.packet_set.PacketSet.{PacketSet}
use Rattle.packet_sets.specs.Sets.{DiagramsView, IsSet, Keeps, Means, holds}
use Rattle.fact_sets.specs.declared.cases.Case.{Case}
use Rattle.action_cases.specs.declared.cases.Outcome.{Outcome}
use Rattle.action_cases.specs.declared.cases.Outcome.TheVariants as outcomes
use Rattle.fact_sets.specs.Cases.{AreCases, picked}
use Rattle.rule_sets.specs.Ends.{outcomes_for}
use Rattle.rule_sets.specs.Parts.{AreParts, as_list}

pub keeps_same : (d : DiagramsView) → Keeps d d
keeps_same d = record { limit = refl; sets = λ set h. h; same = λ set f h. refl }

pub keeps_trans : (a b c : DiagramsView) → Keeps a b → Keeps b c → Keeps a c
keeps_trans a b c ab bc = record {
  limit = bc.limit ∙ ab.limit;
  sets = λ set h. bc.sets set (ab.sets set h);
  same = λ set f h. bc.same set f (ab.sets set h) ∙ ab.same set f h;
}

-- ---- cases

pub are-kept : {V : Type 0} (a b : DiagramsView) (cs : List (Case V)) → Keeps a b → AreCases a cs → AreCases b cs
are-kept a b [] k are = tt
are-kept a b (c ∷ cs) k are = (k.sets c.set are.0, are-kept a b cs k are.1)

pub are-more : {V : Type 0} (d : DiagramsView) (cs : List (Case V)) (c : Case V) → AreCases d cs → IsSet d c.set → AreCases d (cs ++ c ∷ [])
are-more d [] c are is = (is, tt)
are-more d (x ∷ xs) c are is = (are.0, are-more d xs c are.1 is)

pub outcomes-kept : {V : Type 0} (a b : DiagramsView) (cs : List (Case V)) (f : ℕ → Bool) → Keeps a b → AreCases a cs
    → outcomes_for b cs f ≡ outcomes_for a cs f
outcomes-kept a b [] f k are = refl
outcomes-kept a b (c ∷ cs) f k are =
    ap (λ x. cond x (c.outcome ∷ []) [] ++ outcomes_for b cs f) (k.same c.set f are.0)
    ∙ ap (λ x. cond (holds a c.set f) (c.outcome ∷ []) [] ++ x) (outcomes-kept a b cs f k are.1)

pub outcomes-more : {V : Type 0} (d : DiagramsView) (cs : List (Case V)) (c : Case V) (f : ℕ → Bool)
    → outcomes_for d (cs ++ c ∷ []) f ≡ outcomes_for d cs f ++ cond (holds d c.set f) (c.outcome ∷ []) []
outcomes-more d [] c f = append-nil (cond (holds d c.set f) (c.outcome ∷ []) [])
outcomes-more d (x ∷ xs) c f =
    ap (λ ys. cond (holds d x.set f) (x.outcome ∷ []) [] ++ ys) (outcomes-more d xs c f)
    ∙ sym (append_assoc (cond (holds d x.set f) (x.outcome ∷ []) []) (outcomes_for d xs f) (cond (holds d c.set f) (c.outcome ∷ []) []))

abbrev pub any_case : Case Outcome
any_case = record { set = record { node = 0 }; outcome = outcomes.Passes }

pub next : (xs : List (Case Outcome)) (i : ℕ) → i < length xs → drop i xs ≡ get_or xs i any_case ∷ drop (i + 1) xs
next xs i inside = drop_more xs i any_case inside

-- ---- what holds after some of the cases

pub record Sorts (d0 d : DiagramsView) (set rest : PacketSet) (parts left all : List (Case Outcome)) : Type 0 where
  pub keeps : Keeps d0 d
  pub rest_set : IsSet d rest
  pub left_are : AreCases d0 left
  pub are : AreCases d parts
  pub same : (f : ℕ → Bool) → outcomes_for d parts f ++ cond (holds d rest f) (as_list (picked d0 left f)) []
      ≡ cond (holds d0 set f) (as_list (picked d0 all f)) []
  pub others : (f : ℕ → Bool) → holds d rest f && not (is_some (picked d0 left f)) ≡ holds d0 set f && not (is_some (picked d0 all f))

pub sorts_none : (d : DiagramsView) (set : PacketSet) (all : List (Case Outcome)) → IsSet d set → AreCases d all → Sorts d d set set [] all all
sorts_none d set all is are = record {
  keeps = keeps_same d;
  rest_set = is;
  left_are = are;
  are = tt;
  same = λ f. refl;
  others = λ f. refl;
}

pick : (b c : Bool) (o : Outcome) (before : List Outcome) (left : Option Outcome)
    → (before ++ cond (b && c) (o ∷ []) []) ++ cond (b && not c) (as_list left) [] ≡ before ++ cond b (as_list (cond c (Some o) left)) []
pick true true o before left = append-nil (before ++ o ∷ [])
pick true false o before left = ap (λ xs. xs ++ as_list left) (append-nil before)
pick false true o before left = append-nil (before ++ [])
pick false false o before left = append-nil (before ++ [])

remain : (b c : Bool) (o : Outcome) (left : Option Outcome) → (b && not c) && not (is_some left) ≡ b && not (is_some (cond c (Some o) left))
remain true true o left = refl
remain true false o left = refl
remain false true o left = refl
remain false false o left = refl

pub sorts_more : (d0 d d1 d2 : DiagramsView) (set rest part next : PacketSet) (parts left all more : List (Case Outcome)) (x : Case Outcome)
    → Sorts d0 d set rest parts (x ∷ left) all → Keeps d d1 → Keeps d1 d2 → Means d1 part (λ f. holds d rest f && holds d x.set f)
    → Means d2 next (λ f. holds d1 rest f && not (holds d1 x.set f)) → more ≡ parts ++ record { set = part; outcome = x.outcome } ∷ []
    → Sorts d0 d2 set next more left all
sorts_more d0 d d1 d2 set rest part next parts left all more x s k1 k2 hp hn is =
    let k = keeps_trans d d1 d2 k1 k2 in
    let one : Case Outcome = record { set = part; outcome = x.outcome } in
    let xs = s.keeps.sets x.set s.left_are.0 in
    let in_x = λ (f : ℕ → Bool). s.keeps.same x.set f s.left_are.0 in
    let at_part = λ (f : ℕ → Bool). k2.same part f hp.is_set ∙ hp.same f ∙ ap (λ y. holds d rest f && y) (in_x f) in
    let at_next = λ (f : ℕ → Bool). hn.same f ∙ ap (λ y. y && not (holds d1 x.set f)) (k1.same rest f s.rest_set)
    ∙ ap (λ y. holds d rest f && not y) (k1.same x.set f xs ∙ in_x f) in
    let gives = λ (f : ℕ → Bool). ap (λ l. outcomes_for d2 l f) is ∙ outcomes-more d2 parts one f
    ∙ ap (λ y. y ++ cond (holds d2 part f) (x.outcome ∷ []) []) (outcomes-kept d d2 parts f k s.are)
    ∙ ap (λ y. outcomes_for d parts f ++ cond y (x.outcome ∷ []) []) (at_part f) in
    record {
      keeps = keeps_trans d0 d d2 s.keeps k;
      rest_set = hn.is_set;
      left_are = s.left_are.1;
      are = subst (AreCases d2) (sym is) (are-more d2 parts one (are-kept d d2 parts k s.are) (k2.sets part hp.is_set));
      same = λ f.
          ap (λ y. y ++ cond (holds d2 next f) (as_list (picked d0 left f)) []) (gives f)
          ∙ ap (λ y. (outcomes_for d parts f ++ cond (holds d rest f && holds d0 x.set f) (x.outcome ∷ []) []) ++ cond y (as_list (picked d0 left f)) [])
          (at_next f)
          ∙ pick (holds d rest f) (holds d0 x.set f) x.outcome (outcomes_for d parts f) (picked d0 left f) ∙ s.same f;
      others = λ f.
          ap (λ y. y && not (is_some (picked d0 left f))) (at_next f) ∙ remain (holds d rest f) (holds d0 x.set f) x.outcome (picked d0 left f) ∙ s.others f;
    }

no-more : (b : Bool) (xs : List Outcome) → xs ++ cond b [] [] ≡ xs
no-more true xs = append-nil xs
no-more false xs = append-nil xs

and-true : (b : Bool) → b && true ≡ b
and-true true = refl
and-true false = refl

pub sorts_all : (d0 d : DiagramsView) (set rest : PacketSet) (parts left all : List (Case Outcome)) → left ≡ [] → Sorts d0 d set rest parts left all
    → AreParts d0 d set all parts rest
sorts_all d0 d set rest parts left all e given =
    let s = subst (λ l. Sorts d0 d set rest parts l all) e given in
    record {
      are = s.are;
      same = λ f. sym (no-more (holds d rest f) (outcomes_for d parts f)) ∙ s.same f;
      others = record { is_set = s.rest_set; same = λ f. sym (and-true (holds d rest f)) ∙ s.others f };
    }

-- with the next case in sight
pub sorts_next : (d0 d : DiagramsView) (set rest : PacketSet) (parts all : List (Case Outcome)) (i : ℕ) → i < length all
    → Sorts d0 d set rest parts (drop i all) all → Sorts d0 d set rest parts (get_or all i any_case ∷ drop (i + 1) all) all
sorts_next d0 d set rest parts all i inside s = subst (λ l. Sorts d0 d set rest parts l all) (next all i inside) s
