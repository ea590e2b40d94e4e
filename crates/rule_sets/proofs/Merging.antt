-- Adding to lists that have one element at most then, and to cases.
use Rattle.std.proofs.Common.{◌≡◌, ◌∙◌, ◌≤◌, ◌<◌, ◌||◌, ℕ, zero, suc, List, [], ◌∷◌, ◌++◌, map, length, get_or, set, Bool, true, false, cond}
use Rattle.std.proofs.Common.{refl, ap, sym, subst, append-nil, append_assoc, length-append, arith}
use Rattle.std.proofs.lemmas.List.{length-map, map-append}
use Rattle.packet_sets.specs.declared.packet_set.PacketSet.{PacketSet}
use Rattle.packet_sets.specs.Sets.{DiagramsView, IsSet, Keeps, Means, holds}
use Rattle.fact_sets.specs.declared.cases.Case.{Case}
use Rattle.fact_sets.specs.Cases.{AreCases}
use Rattle.rule_sets.specs.Ends.{outcomes_for}
use Rattle.rule_sets.specs.steps.Progress.{Adds, AddsCase}
use Rattle.rule_sets.proofs.Sorting.{are-kept, are-more, outcomes-kept, outcomes-more}

-- ---- lists

pub swap : {V : Type 0} (xs ys : List V) → length (xs ++ ys) ≤ 1 → ys ++ xs ≡ xs ++ ys
swap [] ys few = append-nil ys
swap (x ∷ xs) [] few = sym (append-nil (x ∷ xs))
swap (x ∷ xs) (y ∷ ys) few = absurd (omega (arith, length-append xs (y ∷ ys)))

few_first : {V : Type 0} (xs ys zs : List V) → length ((xs ++ ys) ++ zs) ≤ 1 → length (xs ++ zs) ≤ 1
few_first xs ys zs few = omega (arith, length-append (xs ++ ys) zs, length-append xs ys, length-append xs zs)

few_second : {V : Type 0} (xs ys zs : List V) → length ((xs ++ ys) ++ zs) ≤ 1 → length (ys ++ zs) ≤ 1
few_second xs ys zs few = omega (arith, length-append (xs ++ ys) zs, length-append xs ys, length-append ys zs)

pub few_begun : {V : Type 0} (xs ys : List V) → length (xs ++ ys) ≤ 1 → length xs ≤ 1
few_begun xs ys few = omega (arith, length-append xs ys)

pub adds_front : {V : Type 0} (xs more ys others : List V) → Adds xs more ys → Adds (xs ++ others) more (ys ++ others)
adds_front xs more ys others adds few =
    ap (λ z. z ++ others) (adds (few_first xs others more few)) ∙ append_assoc xs more others
    ∙ ap (λ z. xs ++ z) (swap others more (few_second xs others more few)) ∙ sym (append_assoc xs others more)

pub adds_back : {V : Type 0} (others xs more ys : List V) → Adds xs more ys → Adds (others ++ xs) more (others ++ ys)
adds_back others xs more ys adds few = ap (λ z. others ++ z) (adds (few_second others xs more few)) ∙ sym (append_assoc others xs more)

pub adds_mapped : {V W : Type 0} (g : V → W) (xs more ys : List V) → Adds xs more ys → Adds (map g xs) (map g more) (map g ys)
adds_mapped g xs more ys adds few =
    let fits : length (xs ++ more) ≤ 1 = omega (arith, length-append xs more, length-append (map g xs) (map g more), length-map xs g, length-map more g) in
    ap (map g) (adds fits) ∙ map-append g xs more

pub map-cond : {V W : Type 0} (g : V → W) (b : Bool) (x : V) → map g (cond b (x ∷ []) []) ≡ cond b (g x ∷ []) []
map-cond g true x = refl
map-cond g false x = refl

pub few_cond : {V : Type 0} (b : Bool) (x : V) → length (cond b (x ∷ []) []) ≤ 1
few_cond true x = omega arith
few_cond false x = omega arith

-- ---- cases

here : {V : Type 0} (a b : Bool) (o : V) (xs : List V) → length ((cond a (o ∷ []) [] ++ xs) ++ cond b (o ∷ []) []) ≤ 1
    → cond (a || b) (o ∷ []) [] ++ xs ≡ (cond a (o ∷ []) [] ++ xs) ++ cond b (o ∷ []) []
here true true o xs few = absurd (omega (arith, length-append xs (o ∷ [])))
here true false o xs few = sym (append-nil (o ∷ xs))
here false true o xs few = swap xs (o ∷ []) few
here false false o xs few = sym (append-nil xs)

merged : {V : Type 0} (d e : DiagramsView) (f : ℕ → Bool) (cs : List (Case V)) (i : ℕ) (any : Case V) (s united : PacketSet) (o : V) → i < length cs
    → (get_or cs i any).outcome ≡ o → AreCases d cs → Keeps d e → holds e united f ≡ holds d (get_or cs i any).set f || holds d s f
    → Adds (outcomes_for d cs f) (cond (holds d s f) (o ∷ []) []) (outcomes_for e (set cs i (record { set = united; outcome = o })) f)
merged d e f [] i any s united o inside is are k means few = absurd (omega arith)
merged d e f (c ∷ cs) zero any s united o inside is are k means few =
    let a = holds d c.set f in
    let b = holds d s f in
    let xs = outcomes_for d cs f in
    ap (λ z. cond z (o ∷ []) [] ++ outcomes_for e cs f) means ∙ ap (λ ys. cond (a || b) (o ∷ []) [] ++ ys) (outcomes-kept d e cs f k are.1)
    ∙ here a b o xs (subst (λ z. length ((cond a (z ∷ []) [] ++ xs) ++ cond b (o ∷ []) []) ≤ 1) is few)
    ∙ ap (λ z. (cond a (z ∷ []) [] ++ xs) ++ cond b (o ∷ []) []) (sym is)
merged d e f (c ∷ cs) (suc i) any s united o inside is are k means few =
    let first = cond (holds d c.set f) (c.outcome ∷ []) [] in
    let more = cond (holds d s f) (o ∷ []) [] in
    ap (λ z. cond z (c.outcome ∷ []) [] ++ outcomes_for e (set cs i (record { set = united; outcome = o })) f) (k.same c.set f are.0)
    ∙ ap (λ ys. first ++ ys) (merged d e f cs i any s united o (omega arith) is are.1 k means (few_second first (outcomes_for d cs f) more few))
    ∙ sym (append_assoc first (outcomes_for d cs f) more)

are-set : {V : Type 0} (d : DiagramsView) (cs : List (Case V)) (i : ℕ) (c : Case V) → AreCases d cs → IsSet d c.set → AreCases d (set cs i c)
are-set d [] i c are is = are
are-set d (x ∷ xs) zero c are is = (is, are.1)
are-set d (x ∷ xs) (suc i) c are is = (are.0, are-set d xs i c are.1 is)

are-at : {V : Type 0} (d : DiagramsView) (cs : List (Case V)) (i : ℕ) (any : Case V) → i < length cs → AreCases d cs → IsSet d (get_or cs i any).set
are-at d [] i any inside are = absurd (omega arith)
are-at d (c ∷ cs) zero any inside are = are.0
are-at d (c ∷ cs) (suc i) any inside are = are-at d cs i any (omega arith) are.1

pub is_at : {V : Type 0} (d : DiagramsView) (cs : List (Case V)) (i : ℕ) (x : Case V) → i < length cs → x ≡ get_or cs i x → AreCases d cs → IsSet d x.set
is_at d cs i x inside at are = subst (λ y. IsSet d y.set) (sym at) (are-at d cs i x inside are)

pub adds_to_case : {V : Type 0} (d e : DiagramsView) (cs after : List (Case V)) (i : ℕ) (x : Case V) (s united : PacketSet) (o : V) → i < length cs
    → x ≡ get_or cs i x → (get_or cs i x).outcome ≡ o → AreCases d cs → Keeps d e → Means e united (λ f. holds d x.set f || holds d s f)
    → after ≡ set cs i (record { set = united; outcome = o }) → AddsCase d e s o cs after
adds_to_case d e cs after i x s united o inside at is are k means now = subst (AddsCase d e s o cs) (sym now) (record {
  are = are-set e cs i _ (are-kept d e cs k are) means.is_set;
  same = λ f. merged d e f cs i x s united o inside is are k (means.same f ∙ ap (λ y. holds d y.set f || holds d s f) at);
})

pub adds_new_case : {V : Type 0} (d : DiagramsView) (cs after : List (Case V)) (s : PacketSet) (o : V) → AreCases d cs → IsSet d s
    → after ≡ cs ++ record { set = s; outcome = o } ∷ [] → AddsCase d d s o cs after
adds_new_case d cs after s o are there now = subst (AddsCase d d s o cs) (sym now) (record {
  are = are-more d cs _ are there;
  same = λ f few. outcomes-more d cs _ f;
})
