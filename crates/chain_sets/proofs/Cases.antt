-- Cases and what they say of a packet, one case after another.
use Rattle.std.proofs.Common.{◌≡◌, ◌∙◌, ◌&&◌, ◌||◌, ℕ, zero, suc, List, [], ◌∷◌, ◌++◌, length, map, drop, get_or, Bool, true, false, cond, arith}
use Rattle.std.proofs.Common.{refl, ap, sym, subst, ◌<◌, ◌+◌, true≢false}
use Rattle.std.proofs.Math.ListN.{set}
use Rattle.std.proofs.Common.{Some, slice_get}
use Rattle.std.proofs.lemmas.Option.{none-some, same_Some}
use Rattle.std.specs.Option.{option_map}
use Rattle.std.specs.List.{list_any}
use Rattle.std.proofs.lemmas.List.{drop_more}
use Rattle.packet_sets.specs.declared.packet_set.PacketSet.{PacketSet}
use Rattle.packet_sets.specs.Sets.{DiagramsView, IsSet, Keeps, Means, holds}
use Rattle.fact_sets.specs.declared.cases.Case.{Case}
use Rattle.fact_sets.specs.Cases.{AreCases}
use Rattle.rule_sets.specs.Ends.{outcomes_for}
use Rattle.rule_sets.proofs.Sorting.{are-kept, are-more, keeps_same, keeps_trans, outcomes-kept}
use Rattle.chain_sets.specs.steps.Merging.{Adds, some_outcome, with_outcome}

-- ---- Bool

pub or-none : (a : Bool) → (a || false) ≡ a
or-none true = refl
or-none false = refl

pub or-more : (a b c : Bool) → ((a || b) || c) ≡ (a || (b || c))
or-more true b c = refl
or-more false b c = refl

pub or-swap : (a b : Bool) → (a || b) ≡ (b || a)
or-swap true true = refl
or-swap true false = refl
or-swap false true = refl
or-swap false false = refl

merged : (a b t r : Bool) → (((a || b) && t) || r) ≡ (((a && t) || r) || (b && t))
merged true true true r = refl
merged true true false true = refl
merged true true false false = refl
merged true false true r = refl
merged true false false true = refl
merged true false false false = refl
merged false true true true = refl
merged false true true false = refl
merged false true false true = refl
merged false true false false = refl
merged false false true true = refl
merged false false true false = refl
merged false false false true = refl
merged false false false false = refl

none-held : (h t a : Bool) → h ≡ false → a ≡ (a || (h && t))
none-held h t true is = refl
none-held true t false is = absurd (true≢false is)
none-held false t false is = refl

-- ---- what some case says

module _ {V : Type 0} where
  pub some-kept : (a b : DiagramsView) (cs : List (Case V)) (f : ℕ → Bool) (test : V → Bool) → Keeps a b → AreCases a cs
      → some_outcome b cs f test ≡ some_outcome a cs f test
  some-kept a b cs f test k are = ap (list_any test) (outcomes-kept a b cs f k are)

  head : (b : Bool) (o : V) (rest : List V) (test : V → Bool)
      → list_any test (cond b (o ∷ []) [] ++ rest) ≡ ((b && test o) || list_any test rest)
  head true o rest test = refl
  head false o rest test = refl

  pub some-first : (d : DiagramsView) (c : Case V) (cs : List (Case V)) (f : ℕ → Bool) (test : V → Bool)
      → some_outcome d (c ∷ cs) f test ≡ ((holds d c.set f && test c.outcome) || some_outcome d cs f test)
  some-first d c cs f test = head (holds d c.set f) c.outcome (outcomes_for d cs f) test

  pub some-one : (d : DiagramsView) (c : Case V) (f : ℕ → Bool) (test : V → Bool)
      → some_outcome d (c ∷ []) f test ≡ (holds d c.set f && test c.outcome)
  some-one d c f test = some-first d c [] f test ∙ or-none (holds d c.set f && test c.outcome)

  pub some-more : (d : DiagramsView) (cs : List (Case V)) (c : Case V) (f : ℕ → Bool) (test : V → Bool)
      → some_outcome d (cs ++ c ∷ []) f test ≡ (some_outcome d cs f test || (holds d c.set f && test c.outcome))
  some-more d [] c f test = some-one d c f test
  some-more d (x ∷ xs) c f test =
      some-first d x (xs ++ c ∷ []) f test ∙ ap (λ b. (holds d x.set f && test x.outcome) || b) (some-more d xs c f test)
      ∙ sym (or-more (holds d x.set f && test x.outcome) (some_outcome d xs f test) (holds d c.set f && test c.outcome))
      ∙ ap (λ b. b || (holds d c.set f && test c.outcome)) (sym (some-first d x xs f test))

  -- ---- a case put in place of another

  pub are-put : (d : DiagramsView) (cs : List (Case V)) (i : ℕ) (c : Case V) → AreCases d cs → IsSet d c.set → AreCases d (set cs i c)
  are-put d [] i c are is = tt
  are-put d (x ∷ xs) zero c are is = (is, are.1)
  are-put d (x ∷ xs) (suc i) c are is = (are.0, are-put d xs i c are.1 is)

  pub some-put : (a b : DiagramsView) (cs : List (Case V)) (i : ℕ) (x c : Case V) (f : ℕ → Bool) (more : Bool) (test : V → Bool)
      → i < length cs → get_or cs i x ≡ x → Keeps a b → AreCases a cs → holds b c.set f ≡ (holds a x.set f || more)
      → c.outcome ≡ x.outcome
      → some_outcome b (set cs i c) f test ≡ (some_outcome a cs f test || (more && test c.outcome))
  some-put a b [] i x c f more test inside at_i k are has same = absurd (omega (arith, inside))
  some-put a b (y ∷ ys) zero x c f more test inside at_i k are has same =
      some-first b c ys f test
      ∙ ap (λ h. (h && test c.outcome) || some_outcome b ys f test) has
      ∙ ap (λ r. ((holds a x.set f || more) && test c.outcome) || r) (some-kept a b ys f test k are.1)
      ∙ merged (holds a x.set f) more (test c.outcome) (some_outcome a ys f test)
      ∙ ap (λ o. ((holds a x.set f && test o) || some_outcome a ys f test) || (more && test c.outcome)) same
      ∙ ap (λ z. ((holds a z.set f && test z.outcome) || some_outcome a ys f test) || (more && test c.outcome)) (sym at_i)
      ∙ ap (λ r. r || (more && test c.outcome)) (sym (some-first a y ys f test))
  some-put a b (y ∷ ys) (suc i) x c f more test inside at_i k are has same =
      some-first b y (set ys i c) f test
      ∙ ap (λ h. (h && test y.outcome) || some_outcome b (set ys i c) f test) (k.same y.set f are.0)
      ∙ ap (λ r. (holds a y.set f && test y.outcome) || r) (some-put a b ys i x c f more test (omega (arith, inside)) at_i k are.1 has same)
      ∙ sym (or-more (holds a y.set f && test y.outcome) (some_outcome a ys f test) (more && test c.outcome))
      ∙ ap (λ r. r || (more && test c.outcome)) (sym (some-first a y ys f test))

-- ---- adding cases

module _ {V : Type 0} where
  -- no packet is in it
  pub adds_none : (d : DiagramsView) (c : Case V) (cs : List (Case V)) → AreCases d cs → ((f : ℕ → Bool) → holds d c.set f ≡ false)
      → Adds d d (c ∷ []) cs cs
  adds_none d c cs are none = record {
    are = are;
    same = λ f test. none-held (holds d c.set f) (test c.outcome) (some_outcome d cs f test) (none f)
        ∙ ap (λ r. some_outcome d cs f test || r) (sym (some-one d c f test));
  }

  -- one more case
  pub adds_one : (d : DiagramsView) (c : Case V) (cs after : List (Case V)) → AreCases d cs → IsSet d c.set → after ≡ cs ++ c ∷ []
      → Adds d d (c ∷ []) cs after
  adds_one d c cs after are is items = record {
    are = subst (AreCases d) (sym items) (are-more d cs c are is);
    same = λ f test. ap (λ l. some_outcome d l f test) items ∙ some-more d cs c f test
        ∙ ap (λ r. some_outcome d cs f test || r) (sym (some-one d c f test));
  }

  -- a case with the same outcome has more packets
  pub adds_to : (a b : DiagramsView) (c x : Case V) (set' : PacketSet) (cs after : List (Case V)) (i : ℕ) → AreCases a cs → Keeps a b
      → i < length cs → get_or cs i x ≡ x → x.outcome ≡ c.outcome
      → Means b set' (λ f. holds a x.set f || holds a c.set f) → after ≡ set cs i (record { set = set'; outcome = c.outcome })
      → Adds a b (c ∷ []) cs after
  adds_to a b c x set' cs after i are k inside at_i same means items = record {
    are = subst (AreCases b) (sym items) (are-put b cs i _ (are-kept a b cs k are) means.is_set);
    same = λ f test. ap (λ l. some_outcome b l f test) items
        ∙ some-put a b cs i x (record { set = set'; outcome = c.outcome }) f (holds a c.set f) test inside at_i k are (means.same f) (sym same)
        ∙ ap (λ r. some_outcome a cs f test || r) (sym (some-one a c f test));
  }

  -- what holds after some of the cases
  pub record AddsSoFar (d0 d : DiagramsView) (left all before now : List (Case V)) : Type 0 where
    pub keeps : Keeps d0 d
    pub left_are : AreCases d0 left
    pub are : AreCases d now
    pub same : (f : ℕ → Bool) (test : V → Bool) → (some_outcome d now f test || some_outcome d0 left f test)
        ≡ (some_outcome d0 before f test || some_outcome d0 all f test)

  pub so_far_none : (d : DiagramsView) (all before : List (Case V)) → AreCases d all → AreCases d before → AddsSoFar d d all all before before
  so_far_none d all before are_all are = record { keeps = keeps_same d; left_are = are_all; are = are; same = λ f test. refl }

  pub so_far_more : (d0 d later : DiagramsView) (c : Case V) (left all before now after : List (Case V)) → AddsSoFar d0 d (c ∷ left) all before now
      → Keeps d later → Adds d later (c ∷ []) now after → AddsSoFar d0 later left all before after
  so_far_more d0 d later c left all before now after s k a = record {
    keeps = keeps_trans d0 d later s.keeps k;
    left_are = s.left_are.1;
    are = a.are;
    same = λ f test.
        ap (λ r. r || some_outcome d0 left f test) (a.same f test ∙ ap (λ r. some_outcome d now f test || r) (some-one d c f test
        ∙ ap (λ h. h && test c.outcome) (s.keeps.same c.set f s.left_are.0)))
        ∙ or-more (some_outcome d now f test) (holds d0 c.set f && test c.outcome) (some_outcome d0 left f test)
        ∙ ap (λ r. some_outcome d now f test || r) (sym (some-first d0 c left f test)) ∙ s.same f test;
  }

  pub so_far_all : (d0 d : DiagramsView) (left all before now : List (Case V)) → left ≡ [] → AddsSoFar d0 d left all before now
      → Adds d0 d all before now
  so_far_all d0 d left all before now e given =
      let s = subst (λ l. AddsSoFar d0 d l all before now) e given in
      record { are = s.are; same = λ f test. sym (or-none (some_outcome d now f test)) ∙ s.same f test }

  -- with the next case in sight
  pub so_far_next : (d0 d : DiagramsView) (all before now : List (Case V)) (i : ℕ) (x : Case V) → i < length all → AddsSoFar d0 d (drop i all) all before now
      → AddsSoFar d0 d (get_or all i x ∷ drop (i + 1) all) all before now
  so_far_next d0 d all before now i x inside s = subst (λ l. AddsSoFar d0 d l all before now) (drop_more all i x inside) s

-- ---- other outcomes

pub are-mapped : {V W : Type 0} (d : DiagramsView) (h : V → W) (cs : List (Case V)) → AreCases d cs → AreCases d (map (with_outcome h) cs)
are-mapped d h [] are = tt
are-mapped d h (c ∷ cs) are = (are.0, are-mapped d h cs are.1)

pub some-mapped : {V W : Type 0} (d : DiagramsView) (h : V → W) (cs : List (Case V)) (f : ℕ → Bool) (test : W → Bool)
    → some_outcome d (map (with_outcome h) cs) f test ≡ some_outcome d cs f (λ v. test (h v))
some-mapped d h [] f test = refl
some-mapped d h (c ∷ cs) f test =
    some-first d (with_outcome h c) (map (with_outcome h) cs) f test
    ∙ ap (λ r. (holds d c.set f && test (h c.outcome)) || r) (some-mapped d h cs f test)
    ∙ sym (some-first d c cs f (λ v. test (h v)))

-- ---- a case at an index

module _ {V : Type 0} where
  pub are-at : (d : DiagramsView) (cs : List (Case V)) (i : ℕ) (x : Case V) → AreCases d cs → i < length cs → IsSet d (get_or cs i x).set
  are-at d [] i x are inside = absurd (omega (arith, inside))
  are-at d (c ∷ cs) zero x are inside = are.0
  are-at d (c ∷ cs) (suc i) x are inside = are-at d cs i x are.1 (omega (arith, inside))

  -- where the outcome at an index is known
  pub found-at : (cs : List (Case V)) (i : ℕ) (o : V) → option_map (λ c. c.outcome) (slice_get cs i) ≡ Some o
      → (i < length cs) × ((x : Case V) → (get_or cs i x).outcome ≡ o)
  found-at [] i o is = absurd (none-some o is)
  found-at (c ∷ cs) zero o is = (omega arith, λ x. same_Some c.outcome o is)
  found-at (c ∷ cs) (suc i) o is = let rest = found-at cs i o is in (omega (arith, rest.0), rest.1)
