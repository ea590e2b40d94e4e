-- Ranges with comparable data clash exactly if entries contradict each other.
use Rattle.std.proofs.Common.{◌≡◌, ℕ, ◌≤◌, List, [], ◌∷◌, Bool, true, false, ◌&&◌, not, max}
use Rattle.std.proofs.Common.{inl, inr, ⊎_elim, refl, sym, ap, ap₂, subst, ◌∙◌, arith, eq-eqb}
use Rattle.std.specs.Prelude.{nat_le, nat_eq}
use Rattle.std.specs.Borrow.{Bor}
use Rattle.std.specs.List.{list_any}
use Rattle.std.specs.Str.{bytes_eq}
use Rattle.std.specs.Cmp.Lexicographic.{same_text}
use Rattle.std.proofs.lemmas.Bool.{eqb-true, leb-true, le-leb, and_parts, and_from, or_left, or_right, or_cases}
use Rattle.list_laws.specs.Lists.{text-refl}
use Rattle.nft_tree.specs.Tree as tree
use Rattle.nft_tree.specs.Tree.{Text}
use Rattle.box_file.specs.Box.{any_pair}
use Rattle.nft_values.specs.Values.{Span}
use Rattle.set_intervals.specs.declared.range.Range.{Range}
use Rattle.set_intervals.specs.Pairs.{Covers, HasValue, HasClash}
use Rattle.rule_values.specs.declared.comparable_data.ComparableData.{ComparableData}
use Rattle.rule_values.specs.declared.comparable_data.ComparableData.TheVariants as comparables
use Rattle.rule_values.specs.Faults.{ElementData, a_verdict, a_value, MapEntry, contradict, same_element_data}
use Rattle.rule_values.specs.steps.MapEntries.{name_index_of, HasName, comparable_form, RepresentsData, RepresentsEntry, RepresentEach, RepresentsEntries}
use Rattle.rule_values.proofs.NameIndices.{one-name}

-- ---- tests

not-true : (a : Bool) → not a ≡ true → a ≡ true → ⊥
not-true true h k = cc
not-true false h k = cc

true-not : (a : Bool) → (a ≡ true → ⊥) → not a ≡ true
true-not true h = absurd (h refl)
true-not false h = refl

-- ---- data of elements

-- equal comparable forms have the same data
same-data : (names : List (Bor Text)) (a b : ElementData) → HasName names a → HasName names b
    → comparable_form names a ≡ comparable_form names b → same_element_data a b ≡ true
same-data names (a_verdict tree.accept) (a_verdict tree.accept) h k e = refl
same-data names (a_verdict tree.drop) (a_verdict tree.drop) h k e = refl
same-data names (a_verdict tree.continue) (a_verdict tree.continue) h k e = refl
same-data names (a_verdict tree.return) (a_verdict tree.return) h k e = refl
same-data names (a_verdict (tree.jump a)) (a_verdict (tree.jump b)) h k e = ap (bytes_eq a) (sym (one-name a b names (cc) h k)) ∙ text-refl a
same-data names (a_verdict (tree.goto a)) (a_verdict (tree.goto b)) h k e = ap (bytes_eq a) (sym (one-name a b names (cc) h k)) ∙ text-refl a
same-data names (a_value a) (a_value b) h k e = and_from (nat_eq a.low b.low) (nat_eq a.high b.high) (eq-eqb a.low b.low (cc)) (eq-eqb a.high b.high (cc))
same-data names (a_value a) (a_verdict tree.accept) h k e = absurd cc
same-data names _ _ h k e = absurd cc

-- and the same data have equal comparable forms
same-form : (names : List (Bor Text)) (a b : ElementData) → same_element_data a b ≡ true
    → comparable_form names a ≡ comparable_form names b
same-form names (a_verdict tree.accept) (a_verdict tree.accept) h = refl
same-form names (a_verdict tree.drop) (a_verdict tree.drop) h = refl
same-form names (a_verdict tree.continue) (a_verdict tree.continue) h = refl
same-form names (a_verdict tree.return) (a_verdict tree.return) h = refl
same-form names (a_verdict (tree.jump a)) (a_verdict (tree.jump b)) h = ap (λ t. comparables.Jump (name_index_of t names)) (same_text a b (sym h))
same-form names (a_verdict (tree.goto a)) (a_verdict (tree.goto b)) h = ap (λ t. comparables.Goto (name_index_of t names)) (same_text a b (sym h))
same-form names (a_value a) (a_value b) h =
    let both = and_parts (nat_eq a.low b.low) (nat_eq a.high b.high) h in
    ap₂ comparables.Numbers (eqb-true a.low b.low both.0) (eqb-true a.high b.high both.1)
same-form names _ _ h = absurd cc

one-given : (names : List (Bor Text)) (a b : ElementData) (o u : ComparableData) → RepresentsData names a o
    → RepresentsData names b u → o ≡ u → same_element_data a b ≡ true
one-given names a b o u h k e = same-data names a b h.has_name k.has_name (h.is ∙ e ∙ sym k.is)

one-comparable_data : (names : List (Bor Text)) (a b : ElementData) (o u : ComparableData) → RepresentsData names a o
    → RepresentsData names b u → same_element_data a b ≡ true → o ≡ u
one-comparable_data names a b o u h k e = sym h.is ∙ same-form names a b e ∙ k.is

-- ---- two entries

two-contradict : (names : List (Bor Text)) (e f : MapEntry) (p q : Range × ComparableData) (key : ℕ)
    → RepresentsEntry names e p → RepresentsEntry names f q → Covers p.0 key → Covers q.0 key → (p.1 ≡ q.1 → ⊥)
    → contradict e f ≡ true
two-contradict names e f p q key i j c d differ =
    let el = ap (λ (s : Span). s.low) i.keys in
    let eh = ap (λ (s : Span). s.high) i.keys in
    let fl = ap (λ (s : Span). s.low) j.keys in
    let fh = ap (λ (s : Span). s.high) j.keys in
    let ca = c.above in
    let cb = c.below in
    let da = d.above in
    let db = d.below in
    and_from (nat_le e.keys.low f.keys.high && nat_le f.keys.low e.keys.high) (not (same_element_data e.given f.given))
    (and_from (nat_le e.keys.low f.keys.high) (nat_le f.keys.low e.keys.high)
    (le-leb e.keys.low f.keys.high (omega arith)) (le-leb f.keys.low e.keys.high (omega arith)))
    (true-not (same_element_data e.given f.given) (λ s. differ (one-comparable_data names e.given f.given p.1 q.1 i.comparable_data j.comparable_data s)))

-- a number that both contain, with different data
record Shared (p q : Range × ComparableData) : Type 0 where
  key : ℕ
  first : Covers p.0 key
  second : Covers q.0 key
  differ : p.1 ≡ q.1 → ⊥

contradict-two : (names : List (Bor Text)) (e f : MapEntry) (p q : Range × ComparableData) → RepresentsEntry names e p
    → RepresentsEntry names f q → contradict e f ≡ true → Shared p q
contradict-two names e f p q i j h =
    let parts = and_parts (nat_le e.keys.low f.keys.high && nat_le f.keys.low e.keys.high) (not (same_element_data e.given f.given)) h in
    let ends = and_parts (nat_le e.keys.low f.keys.high) (nat_le f.keys.low e.keys.high) parts.0 in
    let one : e.keys.low ≤ f.keys.high = leb-true e.keys.low f.keys.high ends.0 in
    let two : f.keys.low ≤ e.keys.high = leb-true f.keys.low e.keys.high ends.1 in
    let el = ap (λ (s : Span). s.low) i.keys in
    let eh = ap (λ (s : Span). s.high) i.keys in
    let fl = ap (λ (s : Span). s.low) j.keys in
    let fh = ap (λ (s : Span). s.high) j.keys in
    let po = p.0.ordered in
    let qo = q.0.ordered in
    record {
      key = max p.0.low q.0.low;
      first = record { above = omega arith; below = omega arith };
      second = record { above = omega arith; below = omega arith };
      differ = λ same. not-true (same_element_data e.given f.given) parts.1 (one-given names e.given f.given p.1 q.1 i.comparable_data j.comparable_data same);
    }

-- ---- an entry and a list

any-contradict : (names : List (Bor Text)) (e : MapEntry) (p : Range × ComparableData) (es : List MapEntry)
    (ps : List (Range × ComparableData)) (key : ℕ) (v : ComparableData) → RepresentsEntry names e p
    → RepresentEach names es ps → Covers p.0 key → HasValue ps key v → (p.1 ≡ v → ⊥) → list_any (contradict e) es ≡ true
any-contradict names e p [] [] key v i are c h differ = absurd h
any-contradict names e p (f ∷ es) (q ∷ ps) key v i are c (inl h) differ =
    or_left (contradict e f) (list_any (contradict e) es)
    (two-contradict names e f p q key i are.0 c h.0 (λ s. differ (s ∙ h.1)))
any-contradict names e p (f ∷ es) (q ∷ ps) key v i are c (inr h) differ =
    or_right (contradict e f) (list_any (contradict e) es) (any-contradict names e p es ps key v i are.1 c h differ)
any-contradict names e p [] (q ∷ ps) key v i are c h differ = absurd are
any-contradict names e p (f ∷ es) [] key v i are c h differ = absurd are

-- a number that the pair and another one contain, with different data
record SharedWith (p : Range × ComparableData) (ps : List (Range × ComparableData)) : Type 0 where
  key : ℕ
  value : ComparableData
  first : Covers p.0 key
  held : HasValue ps key value
  differ : p.1 ≡ value → ⊥

contradict-any : (names : List (Bor Text)) (e : MapEntry) (p : Range × ComparableData) (es : List MapEntry)
    (ps : List (Range × ComparableData)) → RepresentsEntry names e p → RepresentEach names es ps
    → list_any (contradict e) es ≡ true → SharedWith p ps
contradict-any names e p [] [] i are h = cc
contradict-any names e p (f ∷ es) (q ∷ ps) i are h = ⊎_elim
    (λ t. let s = contradict-two names e f p q i are.0 t in record
    { key = s.key; value = q.1; first = s.first; held = inl (s.second, refl); differ = s.differ })
    (λ t. let s = contradict-any names e p es ps i are.1 t in record { key = s.key; value = s.value; first = s.first; held = inr s.held; differ = s.differ })
    (or_cases (contradict e f) (list_any (contradict e) es) h)
contradict-any names e p [] (q ∷ ps) i are h = absurd are
contradict-any names e p (f ∷ es) [] i are h = absurd are

-- ---- two elements of a list

clash-forth : (names : List (Bor Text)) (es : List MapEntry) (ps : List (Range × ComparableData)) (key : ℕ)
    (one other : ComparableData) → RepresentEach names es ps → HasValue ps key one → HasValue ps key other
    → (one ≡ other → ⊥) → any_pair contradict es ≡ true
clash-forth names [] [] key one other are h k differ = absurd h
clash-forth names (e ∷ es) (p ∷ ps) key one other are (inl h) (inl k) differ = absurd (differ (sym h.1 ∙ k.1))
clash-forth names (e ∷ es) (p ∷ ps) key one other are (inl h) (inr k) differ =
    or_left (list_any (contradict e) es) (any_pair contradict es)
    (any-contradict names e p es ps key other are.0 are.1 h.0 k (λ s. differ (sym h.1 ∙ s)))
clash-forth names (e ∷ es) (p ∷ ps) key one other are (inr h) (inl k) differ =
    or_left (list_any (contradict e) es) (any_pair contradict es)
    (any-contradict names e p es ps key one are.0 are.1 k.0 h (λ s. differ (sym s ∙ k.1)))
clash-forth names (e ∷ es) (p ∷ ps) key one other are (inr h) (inr k) differ =
    or_right (list_any (contradict e) es) (any_pair contradict es) (clash-forth names es ps key one other are.1 h k differ)
clash-forth names [] (p ∷ ps) key one other are h k differ = absurd are
clash-forth names (e ∷ es) [] key one other are h k differ = absurd are

clash-back : (names : List (Bor Text)) (es : List MapEntry) (ps : List (Range × ComparableData))
    → RepresentEach names es ps → any_pair contradict es ≡ true → HasClash ps
clash-back names [] [] are h = cc
clash-back names (e ∷ es) (p ∷ ps) are h = ⊎_elim
    (λ t. let s = contradict-any names e p es ps are.0 are.1 t in record
    { key = s.key; one = p.1; other = s.value; has_one = inl (s.first, refl); has_other = inr s.held; differ = s.differ })
    (λ t. let s = clash-back names es ps are.1 t in record
    { key = s.key; one = s.one; other = s.other; has_one = inr s.has_one; has_other = inr s.has_other; differ = s.differ })
    (or_cases (list_any (contradict e) es) (any_pair contradict es) h)
clash-back names [] (p ∷ ps) are h = absurd are
clash-back names (e ∷ es) [] are h = absurd are

-- ---- a map

pub clash-some : (es : List MapEntry) (ps qs : List (Range × ComparableData)) → RepresentsEntries ps es → qs ≡ ps → HasClash qs → true ≡ any_pair contradict es
clash-some es ps qs s e c =
    let d = subst (λ (rs : List (Range × ComparableData)). HasClash rs) e c in
    sym (clash-forth s.names es ps d.key d.one d.other s.each d.has_one d.has_other d.differ)

pub clash-none : (es : List MapEntry) (ps qs : List (Range × ComparableData)) → RepresentsEntries ps es → qs ≡ ps
    → (HasClash qs → ⊥) → false ≡ any_pair contradict es
clash-none es ps qs s e none = by (any_pair contradict es) refl
  where
    by : (b : Bool) → any_pair contradict es ≡ b → false ≡ any_pair contradict es
    by true h = absurd (none (subst (λ (rs : List (Range × ComparableData)). HasClash rs) (sym e) (clash-back s.names es ps s.each h)))
    by false h = sym h
