-- The elements of a set, or the pairs of a map, that is an item.
use Rattle.std.proofs.Common.{◌≡◌, ℕ, ◌≤◌, List, [], Option, Some, None, inl, inr, refl, sym, ap, ◌∙◌, arith}
use Rattle.std.proofs.lemmas.Option.{same_Some}
use Rattle.std.specs.Option.{unwrap_or}
use Rattle.std.specs.Prelude.{IsSomeAnd, codes}
use Rattle.list_laws.specs.Options.{option_cases}
use Rattle.nft_lexer.specs.declared.token.Token.{Token}
use Rattle.nft_lexer.specs.Terminal.{Terminal}
use Rattle.nft_tree.specs.declared.set.MapType.{MapType}
use Rattle.nft_tree.specs.Tree as tree
use Rattle.nft_tree.specs.Tree.{ElementTree, MapTree, PairTree, SetTree, SetTypeTree, Text}
use Rattle.token_reader.specs.Grammar.{Grammar, keyword, named, ◌▹◌}
use Rattle.token_reader.specs.Readers.{IsRead, remaining}
use Rattle.nft_expressions.specs.Elements.{element, elements, pair, pairs}
use Rattle.nft_expressions.specs.steps.Laws.{lawful_element, lawful_elements, lawful_pair, lawful_pairs}
use Rattle.nft_rulesets.specs.Rulesets.{item}
use Rattle.nft_rulesets.specs.Sets.{FieldValues, any_field, block, map_of, map_type, named_map, named_set, other_field, set_of, set_type}
use Rattle.nft_rulesets.specs.steps.Reading.{read_by}
use Rattle.nft_rulesets.specs.steps.SetLaws.{lawful_map, lawful_map_field, lawful_set, lawful_set_field}
use Rattle.nft_rulesets.specs.steps.Starts.{block_start, elements_start}
use Rattle.node_spans.specs.Spans.{AreInBraces}
use Rattle.node_spans.specs.declared.token_range.TokenRange.{TokenRange}
use Rattle.node_spans.specs.steps.Reading.{AreElementsRead}
use Rattle.node_spans.proofs.Blocks.{block_spelled, block_started}

named_parts : {A B : Type 0} (f : A → Option B) (p : Grammar A) (ts : List Terminal) (y : B)
    (to : List Terminal) → (named f p).read ts ≡ Some (y, to)
    → (x : A) × (f x ≡ Some y) × (p.read ts ≡ Some (x, to))
named_parts {A} {B} f p ts y to e =
    elim (option_cases (p.read ts)) [
      | inl none ↦ absurd (cc (rw none at e))
      | inr x ↦
          elim (option_cases (f x.0.0)) [
            | inl none ↦ absurd (cc (rw (x.1, none) at e))
            | inr z ↦
                let same = same_Some _ _ (rw (x.1, z.1) at e) in (
                  x.0.0,
                  z.1 ∙ ap (λ (w : B × List Terminal). Some w.0) same,
                  x.1 ∙ ap (λ (w : B × List Terminal). Some (x.0.0, w.1)) same,
                )
          ]
    ]

-- ---- sets

set_in : (s : SetTree) (from to : List Terminal) → item.spells (tree.set s) from to → named_set.spells s from to
unfolding item
set_in c from to (inl (text, is, s)) = absurd cc
set_in c from to (inr (inl (d, is, s))) = absurd cc
set_in c from to (inr (inr (inl (d, is, s)))) = let same : d ≡ c = cc in rw same at s
set_in c from to (inr (inr (inr (d, is, s)))) = absurd cc

set_read : (s : SetTree) (from to : List Terminal) → named_set.spells s from to
    → named_set.read from ≡ Some (s, to)
unfolding named_set block
set_read s from to e = lawful_set.only s from to e refl

no_elements_in_type : (x : SetTypeTree) (from to : List Terminal) → set_type.spells x from to
    → elements_start.read from ≡ None
unfolding set_type elements_start
no_elements_in_type x from to (inl (mid, word, s)) = rw word refl
no_elements_in_type x from to (inr (mid, word, s)) = rw word refl

elements_of_set : (x : Text × FieldValues SetTypeTree (List ElementTree)) (s : SetTree) → set_of x ≡ Some s
    → x.1.5 ≡ s.elements
elements_of_set (name, (Some k, fs, n, merge, text, es)) s e =
    ap (λ (t : SetTree). t.elements) (same_Some _ _ e)
elements_of_set (name, (None, fs, n, merge, text, es)) s e = absurd cc

set_block : (s : SetTree) (from to : List Terminal) → named_set.read from ≡ Some (s, to)
    → (x : Text × FieldValues SetTypeTree (List ElementTree)) × (set_of x ≡ Some s)
    × ((keyword (codes "set") ▹ block set_type elements).read from ≡ Some (x, to))
unfolding named_set
set_block s from to e = named_parts set_of (keyword (codes "set") ▹ block set_type elements) from s to e

as_set_fields : (tokens : List Token) (at : ℕ) (o : Option (List TokenRange))
    → AreElementsRead (any_field (read_by set_type.read) (read_by elements.read)).read element.read tokens at o
    → AreElementsRead (any_field set_type elements).read element.read tokens at o
unfolding any_field other_field
as_set_fields tokens at o read = read

set_block_spelled : (tokens : List Token) (first at to : ℕ) (name : Text)
    (all : Text × FieldValues SetTypeTree (List ElementTree)) (o : Option (List TokenRange))
    → (keyword (codes "set") ▹ block set_type elements).read (remaining tokens first)
    ≡ Some (all, remaining tokens to)
    → (block_start (codes "set")).read (remaining tokens first) ≡ Some (name, remaining tokens at) → first ≤ at
    → AreElementsRead (any_field set_type elements).read element.read tokens at o
    → IsSomeAnd o (λ rs. AreInBraces element tokens first to (unwrap_or all.1.5 []) rs)
unfolding elements
set_block_spelled tokens first at to name all o e start ahead read =
    block_spelled set_type element no_elements_in_type lawful_set_field lawful_elements lawful_element.found
    (codes "set") tokens first at to name all o e start ahead read

pub set_spelled : {X : Type 0} (view : X → Text) (tokens : List Token) (first to : ℕ) (s : SetTree)
    (o : Option (X × ℕ)) → item.spells (tree.set s) (remaining tokens first) (remaining tokens to)
    → IsRead view (block_start (codes "set")).read tokens first o
    → IsSomeAnd o (λ x. (found : Option (List TokenRange))
    → AreElementsRead (any_field (read_by set_type.read) (read_by elements.read)).read element.read tokens x.1 found
    → IsSomeAnd found (λ rs. AreInBraces element tokens first to (unwrap_or s.elements []) rs))
set_spelled view tokens first to s None spelled start =
    let all = set_block s (remaining tokens first) (remaining tokens to)
    (set_read s (remaining tokens first) (remaining tokens to)
    (set_in s (remaining tokens first) (remaining tokens to) spelled)) in
    let begun = block_started set_type elements (codes "set") (remaining tokens first) all.0 (remaining tokens to)
    all.2 in
    absurd (cc (start.0, begun.1))
set_spelled view tokens first to s (Some x) spelled start =
    let all = set_block s (remaining tokens first) (remaining tokens to)
    (set_read s (remaining tokens first) (remaining tokens to)
    (set_in s (remaining tokens first) (remaining tokens to) spelled)) in
    λ found read.
    rw (elements_of_set all.0 s all.1) at (set_block_spelled tokens first x.1 to (view x.0) all.0 found all.2
    (sym start.0) (omega (arith, start.1.0)) (as_set_fields tokens x.1 found read))

-- ---- maps

map_in : (m : MapTree) (from to : List Terminal) → item.spells (tree.map_item m) from to
    → named_map.spells m from to
unfolding item
map_in c from to (inl (text, is, s)) = absurd cc
map_in c from to (inr (inl (d, is, s))) = absurd cc
map_in c from to (inr (inr (inl (d, is, s)))) = absurd cc
map_in c from to (inr (inr (inr (d, is, s)))) = let same : d ≡ c = cc in rw same at s

map_read : (m : MapTree) (from to : List Terminal) → named_map.spells m from to
    → named_map.read from ≡ Some (m, to)
unfolding named_map block
map_read m from to e = lawful_map.only m from to e refl

no_elements_in_types : (x : MapType) (from to : List Terminal) → map_type.spells x from to
    → elements_start.read from ≡ None
unfolding map_type elements_start
no_elements_in_types x from to (inl (y, is, (mid, word, s))) = rw word refl
no_elements_in_types x from to (inr (y, is, (mid, word, s))) = rw word refl

elements_of_map : (x : Text × FieldValues MapType (List PairTree)) (m : MapTree) → map_of x ≡ Some m
    → x.1.5 ≡ m.elements
elements_of_map (name, (Some k, fs, n, merge, text, es)) m e =
    ap (λ (t : MapTree). t.elements) (same_Some _ _ e)
elements_of_map (name, (None, fs, n, merge, text, es)) m e = absurd cc

map_block : (m : MapTree) (from to : List Terminal) → named_map.read from ≡ Some (m, to)
    → (x : Text × FieldValues MapType (List PairTree)) × (map_of x ≡ Some m)
    × ((keyword (codes "map") ▹ block map_type pairs).read from ≡ Some (x, to))
unfolding named_map
map_block m from to e = named_parts map_of (keyword (codes "map") ▹ block map_type pairs) from m to e

as_map_fields : (tokens : List Token) (at : ℕ) (o : Option (List TokenRange))
    → AreElementsRead (any_field (read_by map_type.read) (read_by pairs.read)).read pair.read tokens at o
    → AreElementsRead (any_field map_type pairs).read pair.read tokens at o
unfolding any_field other_field
as_map_fields tokens at o read = read

map_block_spelled : (tokens : List Token) (first at to : ℕ) (name : Text)
    (all : Text × FieldValues MapType (List PairTree)) (o : Option (List TokenRange))
    → (keyword (codes "map") ▹ block map_type pairs).read (remaining tokens first)
    ≡ Some (all, remaining tokens to)
    → (block_start (codes "map")).read (remaining tokens first) ≡ Some (name, remaining tokens at) → first ≤ at
    → AreElementsRead (any_field map_type pairs).read pair.read tokens at o
    → IsSomeAnd o (λ rs. AreInBraces pair tokens first to (unwrap_or all.1.5 []) rs)
unfolding pairs
map_block_spelled tokens first at to name all o e start ahead read =
    block_spelled map_type pair no_elements_in_types lawful_map_field lawful_pairs lawful_pair.found
    (codes "map") tokens first at to name all o e start ahead read

pub map_spelled : {X : Type 0} (view : X → Text) (tokens : List Token) (first to : ℕ) (m : MapTree)
    (o : Option (X × ℕ)) → item.spells (tree.map_item m) (remaining tokens first) (remaining tokens to)
    → IsRead view (block_start (codes "map")).read tokens first o
    → IsSomeAnd o (λ x. (found : Option (List TokenRange))
    → AreElementsRead (any_field (read_by map_type.read) (read_by pairs.read)).read pair.read tokens x.1 found
    → IsSomeAnd found (λ rs. AreInBraces pair tokens first to (unwrap_or m.elements []) rs))
map_spelled view tokens first to m None spelled start =
    let all = map_block m (remaining tokens first) (remaining tokens to)
    (map_read m (remaining tokens first) (remaining tokens to)
    (map_in m (remaining tokens first) (remaining tokens to) spelled)) in
    let begun = block_started map_type pairs (codes "map") (remaining tokens first) all.0 (remaining tokens to)
    all.2 in
    absurd (cc (start.0, begun.1))
map_spelled view tokens first to m (Some x) spelled start =
    let all = map_block m (remaining tokens first) (remaining tokens to)
    (map_read m (remaining tokens first) (remaining tokens to)
    (map_in m (remaining tokens first) (remaining tokens to) spelled)) in
    λ found read.
    rw (elements_of_map all.0 m all.1) at (map_block_spelled tokens first x.1 to (view x.0) all.0 found all.2
    (sym start.0) (omega (arith, start.1.0)) (as_map_fields tokens x.1 found read))

-- No set begins where a map stands.
no_set_word : (m : MapTree) (from to : List Terminal) → named_map.spells m from to
    → (block_start (codes "set")).read from ≡ None
unfolding named_map block_start
no_set_word m from to (x, is, (mid, word, s)) = rw word refl

pub no_set : (m : MapTree) (from to : List Terminal) → item.spells (tree.map_item m) from to
    → (block_start (codes "set")).read from ≡ None
no_set m from to s = no_set_word m from to (map_in m from to s)
