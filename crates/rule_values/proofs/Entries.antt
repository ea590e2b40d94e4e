-- Pairs that represent entries, one more at a time.
use Rattle.std.proofs.Common.{◌≡◌, ℕ, ◌+◌, ◌<◌, ◌≤◌, List, [], ◌∷◌, ◌++◌, Option, Some, None, length, get_or, map, take, refl, sym, ap, subst, ◌∙◌}
use Rattle.std.specs.List.{filter_map, cons_option}
use Rattle.std.specs.Option.{option_map}
use Rattle.std.specs.Borrow.{Bor}
use Rattle.std.proofs.lemmas.List.{take_all}
use Rattle.list_laws.specs.Lists.{map-more}
use Rattle.std.proofs.lemmas.List.Elements.{filter_map-append}
use Rattle.nft_tree.specs.Tree as tree
use Rattle.nft_tree.specs.Tree.{Text}
use Rattle.nft_values.specs.Values.{Span, span_of}
use Rattle.set_intervals.specs.declared.range.Range.{Range}
use Rattle.rule_values.specs.declared.comparable_data.ComparableData.{ComparableData}
use Rattle.rule_values.specs.declared.comparable_data.ComparableData.TheVariants as comparables
use Rattle.rule_values.specs.Faults.{ElementData, a_verdict, MapEntry, entry_with}
use Rattle.rule_values.specs.steps.MapEntries.{name_index_of, KeepsIndices, RepresentsData}
use Rattle.rule_values.specs.steps.MapEntries.{RepresentsOptionalData, RepresentsOptionalEntry}
use Rattle.rule_values.specs.steps.MapEntries.{RepresentEach, RepresentsEntries}

-- ---- more names

keeps-data : (old new : List (Bor Text)) (g : ElementData) (o : ComparableData) → KeepsIndices old new
    → RepresentsData old g o → RepresentsData new g o
keeps-data old new (a_verdict (tree.jump name)) o k h =
    let more = k.kept name (name_index_of name old) (record { is = refl; within = h.has_name }) in
    record { is = ap comparables.Jump more.is ∙ h.is; has_name = more.within }
keeps-data old new (a_verdict (tree.goto name)) o k h =
    let more = k.kept name (name_index_of name old) (record { is = refl; within = h.has_name }) in
    record { is = ap comparables.Goto more.is ∙ h.is; has_name = more.within }
keeps-data old new _ o k h = record { is = h.is; has_name = tt }

keeps-entries : (old new : List (Bor Text)) (es : List MapEntry) (ps : List (Range × ComparableData))
    → KeepsIndices old new → RepresentEach old es ps → RepresentEach new es ps
keeps-entries old new [] [] k h = tt
keeps-entries old new (e ∷ es) (p ∷ ps) k h = (
  record { keys = h.0.keys; comparable_data = keeps-data old new e.given p.1 k h.0.comparable_data },
  keeps-entries old new es ps k h.1,
)
keeps-entries old new [] (p ∷ ps) k h = absurd h
keeps-entries old new (e ∷ es) [] k h = absurd h

-- ---- more entries

each-append : (names : List (Bor Text)) (es fs : List MapEntry) (ps qs : List (Range × ComparableData))
    → RepresentEach names es ps → RepresentEach names fs qs → RepresentEach names (es ++ fs) (ps ++ qs)
each-append names [] fs [] qs h i = i
each-append names (e ∷ es) fs (p ∷ ps) qs h i = (h.0, each-append names es fs ps qs h.1 i)
each-append names [] fs (p ∷ ps) qs h i = absurd h
each-append names (e ∷ es) fs [] qs h i = absurd h

listed : (names : List (Bor Text)) (e : Option MapEntry) (o : Option (Range × ComparableData)) → RepresentsOptionalEntry names e o
    → RepresentEach names (cons_option e []) (cons_option o [])
listed names None None h = tt
listed names None (Some p) h = cc
listed names (Some e) None h = absurd h
listed names (Some e) (Some p) h = (h, tt)

more : {X Y : Type 0} (f : Y → Option MapEntry) (h : X → Y) (xs : List X) (i : ℕ) (x : X) → i < length xs → x
    ≡ get_or xs i x → filter_map f (map h (take (i + 1) xs)) ≡ filter_map f (map h (take i xs)) ++ cons_option (f (h x)) []
more f h xs i x lt is = ap (filter_map f) (map-more h xs i x lt is) ∙ filter_map-append f (map h (take i xs)) (h x ∷ [])

-- one more element: an entry if it denotes numbers
pub gathered : {X Y : Type 0} (f : Y → Option MapEntry) (h : X → Y) (xs : List X) (i : ℕ) (x : X)
    (old new : List (Bor Text)) (ps qs : List (Range × ComparableData)) (o : Option (Range × ComparableData))
    → i < length xs → x ≡ get_or xs i x → RepresentEach old (filter_map f (map h (take i xs))) ps
    → KeepsIndices old new → RepresentsOptionalEntry new (f (h x)) o → qs ≡ ps ++ cons_option o []
    → RepresentEach new (filter_map f (map h (take (i + 1) xs))) qs
gathered f h xs i x old new ps qs o lt is before k here e =
    subst (λ (rs : List (Range × ComparableData)). RepresentEach new (filter_map f (map h (take (i + 1) xs))) rs) (sym e)
    (subst (λ (es : List MapEntry). RepresentEach new es (ps ++ cons_option o [])) (sym (more f h xs i x lt is))
    (each-append new _ _ ps _ (keeps-entries old new _ ps k before) (listed new (f (h x)) o here)))

-- all elements
pub gathered-all : {X Y : Type 0} (f : Y → Option MapEntry) (h : X → Y) (xs : List X) (i : ℕ)
    (names : List (Bor Text)) (ps : List (Range × ComparableData)) → length xs ≤ i
    → RepresentEach names (filter_map f (map h (take i xs))) ps → RepresentsEntries ps (filter_map f (map h xs))
gathered-all {X} f h xs i names ps past are =
    record {
      names = names;
      each = subst (λ (ys : List X). RepresentEach names (filter_map f (map h ys)) ps)
          (take_all i xs past) are;
    }

-- ---- one entry

pub makes-entry : (names : List (Bor Text)) (n : Option Span) (g : Option ElementData) (k : Option Range)
    (o : Option ComparableData) (keys : Range) (given : ComparableData) → k ≡ Some keys → o ≡ Some given
    → option_map span_of k ≡ n → RepresentsOptionalData names g o → RepresentsOptionalEntry names (entry_with n g)
    (Some (keys, given))
makes-entry names n g None o keys given e f h i = cc
makes-entry names n g (Some r) None keys given e f h i = cc
makes-entry names None g (Some r) (Some u) keys given e f h i = cc
makes-entry names (Some n) None (Some r) (Some u) keys given e f h i = cc
makes-entry names (Some n) (Some g) (Some r) (Some u) keys given e f h i =
    let same : r ≡ keys = cc in
    let comparable_data : u ≡ given = cc in
    let span : span_of r ≡ n = cc in
    record { keys = sym (ap span_of same) ∙ span; comparable_data = subst (λ (v : ComparableData). RepresentsData names g v) comparable_data i }
