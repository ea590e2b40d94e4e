-- The anonymous set or map of a statement stands behind its first opening brace.
use Rattle.std.proofs.Common.{◌≡◌, ℕ, ◌<◌, ◌≤◌, List, [], ◌∷◌, length, Option, Some, None, ◌⊎◌, inl, inr, refl, sym, ap, ◌∙◌, arith}
use Rattle.std.proofs.lemmas.Bool.{and_parts, cases_Bool}
use Rattle.std.proofs.lemmas.Option.{same_Some}
use Rattle.std.specs.List.{list_all}
use Rattle.std.specs.Option.{unwrap_or}
use Rattle.std.specs.Prelude.{IsSomeAnd, Bool, true, false, cond, not, codes, option_map}
use Rattle.list_laws.specs.Options.{some_of_map}
use Rattle.nft_lexer.specs.declared.token.Punctuator.TheVariants.{CloseBrace, Dot}
use Rattle.nft_lexer.specs.declared.token.Token.{Token}
use Rattle.nft_lexer.specs.Terminal.{Terminal, punctuator, word}
use Rattle.nft_tree.specs.declared.selector.Selector.{Selector}
use Rattle.nft_tree.specs.declared.selector.Selector.TheVariants.{CtState, CtStatus, TcpFlags}
use Rattle.nft_tree.specs.Tree as tree
use Rattle.nft_tree.specs.Tree.{ElementTree, FlagTree, MapLookupTree, MapRefTree, MatchTree, NatTree, OperandTree, PairTree, SetRefTree, Statement}
use Rattle.token_reader.specs.Grammar.{Grammar, keyword, made, maybe, one_of, punctuation, ◌▹◌, ◌∣◌}
use Rattle.token_reader.specs.Repeats.{Many}
use Rattle.token_reader.specs.Readers.{remaining}
use Rattle.token_reader.specs.steps.Lawful.{no_longer}
use Rattle.nft_expressions.specs.Elements.{element, elements, map_ref, pair, pairs, set_ref, verdict}
use Rattle.nft_expressions.specs.steps.Laws.{lawful_element, lawful_elements, lawful_pair, lawful_pairs}
use Rattle.nft_expressions.specs.Selectors.{in_ct, in_icmp, in_ip, in_meta, in_tcp, in_th, in_udp, selector, selectors, without_meta}
use Rattle.nft_rules.specs.Matches.{bits, comparison, direct, equality, flag_list, flag_match, masked, masked_by, matching, one_test, set_test}
use Rattle.nft_rules.specs.Rules.{counter, log, map_lookup, mark_field, nat, notrack, operand, set_mark, statement, to_word, verdict_map}
use Rattle.node_spans.specs.Spans.{AreInBraces, anonymous_map, anonymous_set, elements_in, pairs_in, pairs_in_operand, set_in_match}
use Rattle.node_spans.specs.declared.token_range.TokenRange.{TokenRange}
use Rattle.node_spans.specs.steps.Reading.{AreReadInBraces, first_brace, is_map_word}
use Rattle.node_spans.proofs.Blocks.{found_in}
use Rattle.node_spans.proofs.Lists.{length_ahead}

-- ---- productions without an opening brace

-- No opening brace is in the part; `after` is whether its last token is "map" or "vmap", and `before` that of the
-- token before it.
record Passes {A : Type 0} (p : Grammar A) (before after : Bool) : Type 0 where
  keeps : (x : A) (from to : List Terminal) → p.spells x from to → first_brace before from ≡ first_brace after to

passes_keyword : (w : List ℕ) (before : Bool) → Passes (keyword w) before (is_map_word (word w))
passes_keyword w before = record { keeps = λ x from to s. ap (first_brace before) s }

passes_after : {B : Type 0} {p : Grammar Unit} {q : Grammar B} {before between after : Bool}
    → Passes p before between → Passes q between after → Passes (p ▹ q) before after
passes_after k l = record { keeps = λ y from to s. k.keeps tt from s.0 s.1 ∙ l.keeps y s.0 to s.2 }

passes_either : {A : Type 0} {p q : Grammar A} {before after : Bool} → Passes p before after
    → Passes q before after → Passes (p ∣ q) before after
passes_either k l = record {
  keeps = λ x from to s. elim s [ inl a ↦ k.keeps x from to a | inr b ↦ l.keeps x from to b ];
}

passes_made : {A B : Type 0} (f : A → B) {p : Grammar A} {before after : Bool} → Passes p before after
    → Passes (made f p) before after
passes_made f k = record { keeps = λ y from to s. k.keeps s.0 from to s.2 }

-- No row's word is "map" or "vmap".
abbrev are_plain : {A : Type 0} → List (List ℕ × A) → Bool
are_plain rows = list_all (λ row. not (is_map_word (word row.0))) rows

passes_one_of : {A : Type 0} (rows : List (List ℕ × A)) (before : Bool) → are_plain rows ≡ true
    → Passes (one_of rows) before false
passes_one_of [] before plain = record { keeps = λ x from to s. absurd s }
passes_one_of {A} (row ∷ rows) before plain =
    let parts = and_parts (not (is_map_word (word row.0))) (are_plain rows) plain in
    let last : is_map_word (word row.0) ≡ false =
    elim (cases_Bool (is_map_word (word row.0))) [ inl is ↦ absurd (cc (rw is at parts.0)) | inr other ↦ other ] in
    let one : Passes (keyword row.0) before false = rw last at (passes_keyword row.0 before) in
    passes_either (passes_made (λ u. row.1) one) (passes_one_of rows before parts.1)

passes_selector : (before : Bool) → Passes selector before false
unfolding selector
passes_selector before =
    passes_either (passes_after (passes_keyword (codes "ip") before) (passes_one_of in_ip false refl))
    (passes_either (passes_after (passes_keyword (codes "meta") before) (passes_one_of in_meta false refl))
    (passes_either (passes_after (passes_keyword (codes "tcp") before) (passes_one_of in_tcp false refl))
    (passes_either (passes_after (passes_keyword (codes "udp") before) (passes_one_of in_udp false refl))
    (passes_either (passes_after (passes_keyword (codes "th") before) (passes_one_of in_th false refl))
    (passes_either (passes_after (passes_keyword (codes "icmp") before) (passes_one_of in_icmp false refl))
    (passes_either (passes_after (passes_keyword (codes "ct") before) (passes_one_of in_ct false refl))
    (passes_one_of without_meta before refl)))))))

passes_dot : Passes (punctuation Dot ▹ selector) false false
passes_dot = record { keeps = λ x from to s. ap (first_brace false) s.1 ∙ (passes_selector false).keeps x s.0 to s.2 }

many_pass : {A : Type 0} (p : Grammar A) → Passes p false false → (xs : List A) (from to : List Terminal)
    → Many p.spells xs from to → first_brace false from ≡ first_brace false to
many_pass p k [] from to s = ap (first_brace false) s
many_pass p k (x ∷ xs) from to s = k.keeps x from s.0 s.1 ∙ many_pass p k xs s.0 to s.2

selectors_pass : (ss : List Selector) (from to : List Terminal) → selectors.spells ss from to
    → first_brace false from ≡ first_brace false to
unfolding selectors
selectors_pass [] from to s = absurd s
selectors_pass (x ∷ xs) from to (a, first, more) =
    (passes_selector false).keeps x from a first ∙ many_pass (punctuation Dot ▹ selector) passes_dot xs a to more

equality_passes : (o : Option Bool) (from to : List Terminal) → (maybe equality).spells o from to
    → first_brace false from ≡ first_brace false to
unfolding equality
equality_passes None from to s = ap (first_brace false) s
equality_passes (Some x) from to (inl (u, is, s)) = ap (first_brace false) s
equality_passes (Some x) from to (inr (u, is, s)) = ap (first_brace false) s

-- ---- references

-- The list begins behind the first opening brace.
pub record IsBraced {A : Type 0} (p : Grammar A) (is_map before : Bool) (xs : A) (from to : List Terminal) : Type 0 where
  pub begin : List Terminal
  pub brace : List Terminal
  pub opened : first_brace before from ≡ Some (is_map, begin)
  pub spelled : p.spells xs begin brace
  pub closed : brace ≡ punctuator CloseBrace ∷ to

-- What stands before the list has no opening brace.
behind : {A : Type 0} (p : Grammar A) (is_map before between : Bool) (xs : A) (from mid to : List Terminal)
    → first_brace before from ≡ first_brace between mid → IsBraced p is_map between xs mid to → IsBraced p is_map before xs from to
behind p is_map before between xs from mid to same b = record {
  begin = b.begin;
  brace = b.brace;
  opened = same ∙ b.opened;
  spelled = b.spelled;
  closed = b.closed;
}

set_ref_braced : (r : SetRefTree) (es : List ElementTree) (from to : List Terminal) → set_ref.spells r from to
    → elements_in r ≡ Some es → IsBraced elements false false es from to
unfolding set_ref
set_ref_braced r es from to (inl (name, is, s)) e = absurd (cc (rw is at e))
set_ref_braced r es from to (inr (fs, is, (a, open_brace, (b, s, close)))) e =
    let same : fs ≡ es = same_Some _ _ (rw is at e) in
    record {
      begin = a;
      brace = b;
      opened = rw open_brace refl;
      spelled = rw same at s;
      closed = close;
    }

map_ref_braced : (before : Bool) (m : MapRefTree) (ps : List PairTree) (from to : List Terminal)
    → map_ref.spells m from to → pairs_in m ≡ Some ps → IsBraced pairs before before ps from to
unfolding map_ref
map_ref_braced before m ps from to (inl (name, is, s)) e = absurd (cc (rw is at e))
map_ref_braced before m ps from to (inr (qs, is, (a, open_brace, (b, s, close)))) e =
    let same : qs ≡ ps = same_Some _ _ (rw is at e) in
    record {
      begin = a;
      brace = b;
      opened = rw open_brace refl;
      spelled = rw same at s;
      closed = close;
    }

-- ---- matches

masked_no_set : (equal : Bool) (mask wanted : List FlagTree) → set_in_match (masked_by equal mask wanted) ≡ None
masked_no_set true mask wanted = refl
masked_no_set false mask wanted = refl

flags_no_set : (equal : Option Bool) (wanted : List FlagTree) (mask : Option (List FlagTree)) (m : MatchTree)
    → flag_match equal wanted mask ≡ Some m → set_in_match m ≡ None
flags_no_set equal wanted (Some mask) m e =
    ap set_in_match (sym (same_Some _ _ e)) ∙ masked_no_set (unwrap_or equal true) mask wanted
flags_no_set None wanted None m e = ap set_in_match (sym (same_Some _ _ e))
flags_no_set (Some true) wanted None m e = ap set_in_match (sym (same_Some _ _ e))
flags_no_set (Some false) wanted None m e = absurd cc

flag_tests_no_set : (m : MatchTree) (from to : List Terminal) → (flag_list ∣ masked).spells m from to
    → set_in_match m ≡ None
unfolding flag_list masked
flag_tests_no_set m from to (inl (x, is, s)) = flags_no_set x.0 x.1.0 x.1.1 m is
flag_tests_no_set m from to (inr (x, is, s)) = rw is (masked_no_set x.1.0 x.0 x.1.1)

test_no_set : (s : Selector) (m : MatchTree) (from to : List Terminal) → (one_test s).spells m from to
    → set_in_match m ≡ None
unfolding one_test bits comparison
test_no_set CtState m from to test = rw test.1 refl
test_no_set CtStatus m from to test = rw test.1 refl
test_no_set TcpFlags m from to test = flag_tests_no_set m from to test
test_no_set s m from to test = rw test.1 refl

direct_no_set : (ss : List Selector) (m : MatchTree) (from to : List Terminal) → (direct ss).spells m from to
    → set_in_match m ≡ None
direct_no_set [] m from to s = absurd s
direct_no_set (s ∷ []) m from to e = test_no_set s m from to e
direct_no_set (s ∷ t ∷ ss) m from to e = absurd e

set_of_test : (b : Bool) (ss : List Selector) (r : SetRefTree)
    → set_in_match (cond b (tree.is_in ss r) (tree.not_in ss r)) ≡ elements_in r
set_of_test true ss r = refl
set_of_test false ss r = refl

match_braced : (m : MatchTree) (es : List ElementTree) (from to : List Terminal) → matching.spells m from to
    → set_in_match m ≡ Some es → IsBraced elements false false es from to
unfolding matching set_test
match_braced m es from to (ss, mid, keys, inl (x, is, (a, equal, ref))) e =
    let some : elements_in x.1 ≡ Some es =
    sym (set_of_test (unwrap_or x.0 true) ss x.1) ∙ ap set_in_match (sym is) ∙ e in
    behind elements false false false es from mid to (selectors_pass ss from mid keys)
    (behind elements false false false es mid a to (equality_passes x.0 mid a equal)
    (set_ref_braced x.1 es a to ref some))
match_braced m es from to (ss, mid, keys, inr test) e = absurd (cc (direct_no_set ss m mid to test, e))

-- ---- statements

no_set_in_mark : (s : Statement) (from to : List Terminal) → set_mark.spells s from to → anonymous_set s ≡ None
unfolding set_mark
no_set_in_mark s from to (x, is, e) =
    let mark = some_of_map (λ m. tree.set_mark m x.1) (mark_field x.0) s is in
    ap anonymous_set (sym mark.2)

pub set_braced : (s : Statement) (es : List ElementTree) (from to : List Terminal) → statement.spells s from to
    → anonymous_set s ≡ Some es → IsBraced elements false false es from to
unfolding statement counter log notrack verdict_map
set_braced s es from to (inl (x, is, e)) has = absurd (cc (rw is at has))
set_braced s es from to (inr (inl (x, is, e))) has = absurd (cc (rw is at has))
set_braced s es from to (inr (inr (inl (x, is, e)))) has = absurd (cc (rw is at has))
set_braced s es from to (inr (inr (inr (inl (x, is, e))))) has = absurd (cc (rw is at has))
set_braced s es from to (inr (inr (inr (inr (inl (x, is, e)))))) has = absurd (cc (rw is at has))
set_braced s es from to (inr (inr (inr (inr (inr (inl mark)))))) has =
    absurd (cc (no_set_in_mark s from to mark, has))
set_braced s es from to (inr (inr (inr (inr (inr (inr (inl (x, is, e)))))))) has = absurd (cc (rw is at has))
set_braced s es from to (inr (inr (inr (inr (inr (inr (inr (m, is, e)))))))) has =
    match_braced m es from to e (rw is at has)

lookup_braced : (l : MapLookupTree) (ps : List PairTree) (from to : List Terminal) → map_lookup.spells l from to
    → pairs_in l.map ≡ Some ps → IsBraced pairs true false ps from to
unfolding map_lookup
lookup_braced l ps from to (x, is, (a, sel, (b, map_word, ref))) has =
    behind pairs true false false ps from a to ((passes_selector false).keeps x.0 from a sel)
    (behind pairs true false true ps a b to (ap (first_brace false) map_word)
    (map_ref_braced true x.1 ps b to ref (rw is at has)))

to_passes : (from to : List Terminal) → to_word.spells tt from to → first_brace false from ≡ first_brace false to
unfolding to_word
to_passes from to (inl word_to) = ap (first_brace false) word_to
to_passes from to (inr (a, word_ip, word_to)) = ap (first_brace false) word_ip ∙ ap (first_brace false) word_to

nat_braced : (n : NatTree) (ps : List PairTree) (from to : List Terminal) → nat.spells n from to
    → anonymous_map (tree.nat n) ≡ Some ps → IsBraced pairs true false ps from to
unfolding nat
nat_braced n ps from to (inl (t, is, (a, snat, (b, to_it, inl (x, address, s))))) has =
    absurd (cc (rw (is, address) at has))
nat_braced n ps from to (inl (t, is, (a, snat, (b, to_it, inr (l, looked, s))))) has =
    behind pairs true false false ps from a to (ap (first_brace false) snat)
    (behind pairs true false false ps a b to (to_passes a b to_it)
    (lookup_braced l ps b to s (rw (is, looked) at has)))
nat_braced n ps from to (inr (inl (t, is, (a, dnat, (b, to_it, inl (x, address, s)))))) has =
    absurd (cc (rw (is, address) at has))
nat_braced n ps from to (inr (inl (t, is, (a, dnat, (b, to_it, inr (l, looked, s)))))) has =
    behind pairs true false false ps from a to (ap (first_brace false) dnat)
    (behind pairs true false false ps a b to (to_passes a b to_it)
    (lookup_braced l ps b to s (rw (is, looked) at has)))
nat_braced n ps from to (inr (inr (inl (x, is, s)))) has = absurd (cc (rw is at has))
nat_braced n ps from to (inr (inr (inr (x, is, s)))) has = absurd (cc (rw is at has))

operand_braced : (o : OperandTree) (ps : List PairTree) (from to : List Terminal) → operand.spells o from to
    → pairs_in_operand o ≡ Some ps → IsBraced pairs true false ps from to
unfolding operand
operand_braced o ps from to (inl (n, is, s)) has = absurd (cc (rw is at has))
operand_braced o ps from to (inr ((sel, None), is, s)) has =
    let mark = some_of_map tree.mark_of (mark_field sel) o is in
    absurd (cc (ap pairs_in_operand (sym mark.2), has))
operand_braced o ps from to (inr ((sel, Some m), is, (a, picked, (b, map_word, ref)))) has =
    let same = same_Some _ _ is in
    behind pairs true false false ps from a to ((passes_selector false).keeps sel from a picked)
    (behind pairs true false true ps a b to (ap (first_brace false) map_word)
    (map_ref_braced true m ps b to ref (ap pairs_in_operand same ∙ has)))

mark_braced : (s : Statement) (ps : List PairTree) (from to : List Terminal) → set_mark.spells s from to
    → anonymous_map s ≡ Some ps → IsBraced pairs true false ps from to
unfolding set_mark
mark_braced s ps from to (x, is, (a, sel, (b, set_word, op))) has =
    let mark = some_of_map (λ m. tree.set_mark m x.1) (mark_field x.0) s is in
    let some : pairs_in_operand x.1 ≡ Some ps = ap anonymous_map mark.2 ∙ has in
    behind pairs true false false ps from a to ((passes_selector false).keeps x.0 from a sel)
    (behind pairs true false false ps a b to (ap (first_brace false) set_word)
    (operand_braced x.1 ps b to op some))

pub map_braced : (s : Statement) (ps : List PairTree) (from to : List Terminal) → statement.spells s from to
    → anonymous_map s ≡ Some ps → IsBraced pairs true false ps from to
unfolding statement counter log notrack verdict_map
map_braced s ps from to (inl (x, is, e)) has = absurd (cc (rw is at has))
map_braced s ps from to (inr (inl (x, is, e))) has = absurd (cc (rw is at has))
map_braced s ps from to (inr (inr (inl (x, is, e)))) has = absurd (cc (rw is at has))
map_braced s ps from to (inr (inr (inr (inl (x, is, e))))) has = absurd (cc (rw is at has))
map_braced s ps from to (inr (inr (inr (inr (inl (n, is, e)))))) has = nat_braced n ps from to e (rw is at has)
map_braced s ps from to (inr (inr (inr (inr (inr (inl mark)))))) has = mark_braced s ps from to mark has
map_braced s ps from to (inr (inr (inr (inr (inr (inr (inl (x, is, (a, sel, (b, vmap, ref)))))))))) has =
    behind pairs true false false ps from a to ((passes_selector false).keeps x.0 from a sel)
    (behind pairs true false true ps a b to (ap (first_brace false) vmap)
    (map_ref_braced true x.1 ps b to ref (rw is at has)))
map_braced s ps from to (inr (inr (inr (inr (inr (inr (inr (m, is, e)))))))) has = absurd (cc (rw is at has))

-- ---- where they are found

pub set_found : (tokens : List Token) (first to start : ℕ) (s : Statement) (es : List ElementTree) (is_map : Bool)
    → statement.spells s (remaining tokens first) (remaining tokens to) → anonymous_set s ≡ Some es
    → Some (is_map, remaining tokens start) ≡ first_brace false (remaining tokens first)
    → (is_map ≡ false) × (start < to) × ((o : Option (List TokenRange)) → first ≤ start
    → AreReadInBraces element.read tokens start o → IsSomeAnd o (λ rs. AreInBraces element tokens first to es rs))
unfolding elements
set_found tokens first to start s es is_map spelled has read =
    let b = set_braced s es (remaining tokens first) (remaining tokens to) spelled has in
    let same = same_Some _ _ (read ∙ b.opened) in
    let begin : b.begin ≡ remaining tokens start = sym (ap (λ (x : Bool × List Terminal). x.1) same) in
    let fewer = no_longer elements lawful_elements es b.begin b.brace b.spelled in (
      ap (λ (x : Bool × List Terminal). x.0) same,
      omega (arith, fewer, ap length begin, ap length b.closed, length_ahead tokens start, length_ahead tokens to),
      λ o ahead inner. found_in element lawful_elements lawful_element.found tokens first start to to es b.brace o
          (rw begin at b.spelled) ahead b.closed (omega arith) inner,
    )

pub map_found : (tokens : List Token) (first to start : ℕ) (s : Statement) (ps : List PairTree) (is_map : Bool)
    → statement.spells s (remaining tokens first) (remaining tokens to) → anonymous_map s ≡ Some ps
    → Some (is_map, remaining tokens start) ≡ first_brace false (remaining tokens first)
    → (is_map ≡ true) × (start < to) × ((o : Option (List TokenRange)) → first ≤ start
    → AreReadInBraces pair.read tokens start o → IsSomeAnd o (λ rs. AreInBraces pair tokens first to ps rs))
unfolding pairs
map_found tokens first to start s ps is_map spelled has read =
    let b = map_braced s ps (remaining tokens first) (remaining tokens to) spelled has in
    let same = same_Some _ _ (read ∙ b.opened) in
    let begin : b.begin ≡ remaining tokens start = sym (ap (λ (x : Bool × List Terminal). x.1) same) in
    let fewer = no_longer pairs lawful_pairs ps b.begin b.brace b.spelled in (
      ap (λ (x : Bool × List Terminal). x.0) same,
      omega (arith, fewer, ap length begin, ap length b.closed, length_ahead tokens start, length_ahead tokens to),
      λ o ahead inner. found_in pair lawful_pairs lawful_pair.found tokens first start to to ps b.brace o
          (rw begin at b.spelled) ahead b.closed (omega arith) inner,
    )

pub some_brace_set : (s : Statement) (es : List ElementTree) (from to : List Terminal) → statement.spells s from to
    → anonymous_set s ≡ Some es → first_brace false from ≡ None → ⊥
some_brace_set s es from to spelled has none = cc (none, (set_braced s es from to spelled has).opened)

pub some_brace_map : (s : Statement) (ps : List PairTree) (from to : List Terminal) → statement.spells s from to
    → anonymous_map s ≡ Some ps → first_brace false from ≡ None → ⊥
some_brace_map s ps from to spelled has none = cc (none, (map_braced s ps from to spelled has).opened)
