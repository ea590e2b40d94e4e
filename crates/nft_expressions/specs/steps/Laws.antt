-- Values, elements and references: their parsers give exactly what they spell.
use Rattle.std.proofs.Common.{◌≡◌, ◌<◌, Bool, true, false, ◌||◌, List, [], ◌∷◌, length, Some, None, ◌⊎◌, inl, inr, refl, ap, arith}
use Rattle.std.proofs.lemmas.Bool.{not-true}
use Rattle.std.specs.Prelude.{codes, IfSome}
use Rattle.std.specs.Str.{bytes_eq}
use Rattle.std.proofs.lemmas.Option.{same_Some}
use Rattle.list_laws.specs.Options.{option_cases, IfSome_at, IfSome_weaker, IfSome_bind}
use Rattle.nft_lexer.specs.declared.token.Punctuator.TheVariants.{OpenBrace, CloseBrace, Colon, Dot, Slash, Minus, At}
use Rattle.nft_lexer.specs.Terminal as terminals
use Rattle.nft_lexer.specs.Terminal.{Terminal}
use Rattle.nft_tree.specs.Tree as tree
use Rattle.nft_tree.specs.Tree.{Text, ValueTree, RangeTree, KeyTree, DataTree}
use Rattle.token_reader.specs.Grammar.{Grammar, begins_with, this_punctuator, punctuation, a_number, many, made, passing, ◌▹◌}
use Rattle.token_reader.specs.steps.Reading.{all_at, word_at}
use Rattle.token_reader.specs.steps.Laws.{else_found}
use Rattle.token_reader.specs.steps.Lawful.{Lawful, lawful_keyword, lawful_punctuation, lawful_word, lawful_number}
use Rattle.token_reader.specs.steps.Lawful.{lawful_string, lawful_one_of, lawful_then, lawful_after, lawful_before}
use Rattle.token_reader.specs.steps.Lawful.{lawful_either, lawful_made, lawful_maybe, lawful_many, lawful_passing}
use Rattle.token_reader.specs.steps.Lawful.{are_apart, shortens, begins, unread, neither, begins_with_left}
use Rattle.token_reader.specs.steps.Lawful.{begins_with_right}
use Rattle.nft_expressions.specs.Elements.{terminal_of, value, ranges, range, next_value, keys, key, comment, element}
use Rattle.nft_expressions.specs.Elements.{verdict_keywords, verdict, is_verdict_word, is_data_value, map_data, pair}
use Rattle.nft_expressions.specs.Elements.{elements, pairs, reference, set_ref, map_ref}
use Rattle.nft_expressions.specs.steps.Braces.{braceless, HoldsNoBrace, keeps_keyword, keeps_punctuation, keeps_word}
use Rattle.nft_expressions.specs.steps.Braces.{keeps_number, keeps_address, keeps_string, keeps_then, keeps_after}
use Rattle.nft_expressions.specs.steps.Braces.{keeps_either, keeps_made, keeps_passing, keeps_maybe, keeps_many}
use Rattle.nft_expressions.specs.steps.Braces.{keeps_one_of, lawful_up_to_brace}
use Rattle.nft_expressions.specs.steps.Reading.{value_at, one_or_prefix, range_after, next_value_at, joined_after, key_after}

-- ---- values

value_found : (ts : List Terminal) → IfSome (value_at ts) (λ x. ts ≡ terminal_of x.0 ∷ x.1)
value_found (terminals.word w ∷ ts) = refl
value_found (terminals.number n ∷ ts) = refl
value_found (terminals.address a ∷ ts) = refl
value_found (terminals.string s ∷ ts) = refl
value_found ts = tt

-- A value is read, starts with a token of FIRST, and is no closing brace.
value_laws : (v : ValueTree) (to : List Terminal)
    → (value_at (terminal_of v ∷ to) ≡ Some (v, to)) × (begins_with value.first (terminal_of v ∷ to) ≡ true)
    × (braceless (terminal_of v ∷ to) ≡ braceless to)
value_laws (tree.number n) to = (refl, refl, refl)
value_laws (tree.address a) to = (refl, refl, refl)
value_laws (tree.word w) to = (refl, refl, refl)
value_laws (tree.string s) to = (refl, refl, refl)

value_only : (v : ValueTree) (to : List Terminal) → value_at (terminal_of v ∷ to) ≡ Some (v, to)
value_only v to = (value_laws v to).0

pub lawful_value : Lawful value
lawful_value = record {
  found = value_found;
  only = λ v from to s none. rw s (value_only v to);
  front = λ v from to s. inl (omega (arith, ap length s), rw s (value_laws v to).1);
}

high_law : Lawful (punctuation Minus ▹ value)
high_law = lawful_after (lawful_punctuation Minus) lawful_value refl

length_law : Lawful (punctuation Slash ▹ a_number)
length_law = lawful_after (lawful_punctuation Slash) lawful_number refl

next_value_law : Lawful next_value
next_value_law = lawful_after (lawful_punctuation Dot) lawful_value refl

-- ---- ranges

one_or_prefix_found : (v : ValueTree) (from to : List Terminal) → from ≡ terminal_of v ∷ to
    → ranges.spells (one_or_prefix v to).0 from (one_or_prefix v to).1
unfolding one_or_prefix
one_or_prefix_found (tree.address a) from to e =
    elim (option_cases ((punctuation Slash ▹ a_number).read to)) [
      | inl none ↦ rw none (inl (tree.address a, refl, e))
      | inr n ↦ rw n.1 (inr (inr ((a, n.0.0), refl, (to, e, IfSome_at _ _ n.0 n.1 (length_law.found to)))))
    ]
one_or_prefix_found v from to e = inl (v, refl, e)

range_after_found : (v : ValueTree) (from to : List Terminal) → from ≡ terminal_of v ∷ to
    → ranges.spells (range_after v to).0 from (range_after v to).1
unfolding range_after
range_after_found v from to e =
    elim (option_cases ((punctuation Minus ▹ value).read to)) [
      | inl none ↦ rw none (one_or_prefix_found v from to e)
      | inr high ↦ rw high.1 (inr (inl (
        (v, high.0.0),
        refl,
        (to, e, IfSome_at _ _ high.0 high.1 (high_law.found to)),
      )))
    ]

one_only : (v : ValueTree) (ts : List Terminal) → begins_with range.follow ts ≡ false
    → range_after v ts ≡ (tree.one v, ts)
unfolding range range_after one_or_prefix
one_only (tree.address a) ts none =
    let rests = neither (this_punctuator Minus ∷ []) (this_punctuator Slash ∷ []) ts none in
    rw (
      unread (punctuation Minus ▹ value) high_law refl ts rests.0,
      unread (punctuation Slash ▹ a_number) length_law refl ts rests.1,
    ) refl
one_only v ts none =
    let rests = neither (this_punctuator Minus ∷ []) (this_punctuator Slash ∷ []) ts none in
    rw (unread (punctuation Minus ▹ value) high_law refl ts rests.0) refl

-- A punctuator that continues the first value is no part of a range that is one value.
only_ranges : (r : RangeTree) (from to : List Terminal) → ranges.spells r from to
    → begins_with range.follow to ≡ false → range.read from ≡ Some (r, to)
unfolding range range_after one_or_prefix
only_ranges r from to (inl (v, e, s)) none = rw (s, value_only v to, e, one_only v to none) refl
only_ranges r from to (inr (inl (x, e, (mid, s, (last, h, n))))) none =
    rw (s, value_only x.0 mid, h, n, value_only x.1 to, e) refl
only_ranges r from to (inr (inr (x, e, (mid, s, (last, h, n))))) none = rw (s, h, n, e) refl

ranges_front : (r : RangeTree) (from to : List Terminal) → ranges.spells r from to
    → ((length to < length from) × (begins_with value.first from ≡ true)) ⊎ ((from ≡ to) × (false ≡ true))
ranges_front r from to (inl (v, e, s)) = lawful_value.front v from to s
ranges_front r from to (inr (inl (x, e, s))) = (lawful_then lawful_value high_law refl).front x from to s
ranges_front r from to (inr (inr (x, e, (mid, s, (last, h, n))))) =
    inl (omega (arith, ap length s, ap length h, ap length n), rw s refl)

pub lawful_range : Lawful range
unfolding range
lawful_range = record {
  found = λ ts. IfSome_bind _ (value_at ts) _ (value_found ts) (λ v ev. range_after_found v.0 ts v.1 ev);
  only = only_ranges;
  front = ranges_front;
}

-- ---- keys and elements

more_law : Lawful (many next_value)
more_law = lawful_many next_value_law refl refl

key_after_found : (v : ValueTree) (from to : List Terminal) → from ≡ terminal_of v ∷ to
    → keys.spells (key_after v to).0 from (key_after v to).1
unfolding key_after joined_after range
key_after_found v from to e =
    elim (option_cases (next_value.read to)) [
      | inl none ↦ rw none (inl ((range_after v to).0, refl, range_after_found v from to e))
      | inr w ↦ rw w.1 (inr (
        (v, (w.0.0, (all_at next_value_at w.0.1).0)),
        refl,
        (to, e, (w.0.1, IfSome_at _ _ w.0 w.1 (next_value_law.found to), more_law.found w.0.1)),
      ))
    ]

keys_only : (k : KeyTree) (from to : List Terminal) → keys.spells k from to
    → begins_with key.follow to ≡ false → key.read from ≡ Some (k, to)
unfolding key key_after joined_after range range_after one_or_prefix
keys_only k from to (inl (r, e, inl (v, er, s))) none =
    let rests = neither (this_punctuator Dot ∷ []) (this_punctuator Minus ∷ this_punctuator Slash ∷ []) to
    none in
    rw (s, value_only v to, e, er, unread next_value next_value_law refl to rests.0, one_only v to rests.1)
    refl
keys_only k from to (inl (r, e, inr (inl (x, er, (mid, s, (last, h, n)))))) none =
    rw (s, value_only x.0 mid, h, n, value_only x.1 to, e, er) refl
keys_only k from to (inl (r, e, inr (inr (x, er, (mid, s, (last, h, n)))))) none = rw (s, h, n, e, er) refl
keys_only k from to (inr (x, e, (a, s, (b, n, more)))) none =
    let rests = neither (this_punctuator Dot ∷ []) (this_punctuator Minus ∷ this_punctuator Slash ∷ []) to
    none in
    let second : next_value_at a ≡ Some (x.1.0, b) = next_value_law.only x.1.0 a b n refl in
    let others : all_at next_value_at b ≡ (x.1.1, to) =
    same_Some _ _ (more_law.only x.1.1 b to more rests.0) in
    rw (s, value_only x.0 a, second, others, e) refl

keys_front : (k : KeyTree) (from to : List Terminal) → keys.spells k from to
    → ((length to < length from) × (begins_with value.first from ≡ true)) ⊎ ((from ≡ to) × (false ≡ true))
unfolding range
keys_front k from to (inl (r, e, s)) = ranges_front r from to s
keys_front k from to (inr (x, e, s)) = (lawful_then lawful_value (lawful_then next_value_law more_law refl)
    refl).front x from to s

pub lawful_key : Lawful key
unfolding key
lawful_key = record {
  found = λ ts. IfSome_bind _ (value_at ts) _ (value_found ts) (λ v ev. key_after_found v.0 ts v.1 ev);
  only = keys_only;
  front = keys_front;
}

pub lawful_comment : Lawful comment
unfolding comment
lawful_comment = lawful_maybe (lawful_after (lawful_keyword (codes "comment")) lawful_string refl) refl

pub lawful_element : Lawful element
unfolding element key comment
lawful_element = lawful_made _ (lawful_then lawful_key lawful_comment refl)

-- ---- verdicts and pairs

pub lawful_verdict : Lawful verdict
unfolding verdict
lawful_verdict =
    lawful_either (lawful_one_of verdict_keywords refl)
    (lawful_either (lawful_made tree.jump (lawful_after (lawful_keyword (codes "jump")) lawful_word refl))
    (lawful_made tree.goto (lawful_after (lawful_keyword (codes "goto")) lawful_word refl)) refl refl)
    refl refl

no_word : (a b c d e f : Bool) → (a || b || c || d || e || f) ≡ false
    → (a || (b || (c || (d || (e || (f || false)))))) ≡ false
no_word false false false false false false none = refl
no_word a b c d e f none = absurd cc

-- A verdict starts with a word.
pub no_verdict_without_word : (ts : List Terminal) → word_at ts ≡ None → verdict.read ts ≡ None
unfolding verdict
no_verdict_without_word (terminals.word w ∷ ts) none = absurd cc
no_verdict_without_word ts none = refl

-- No verdict starts with a value that is data.
no_verdict : (v : ValueTree) (to : List Terminal) → is_data_value v ≡ true
    → begins_with verdict.first (terminal_of v ∷ to) ≡ false
unfolding verdict
no_verdict (tree.word w) to e =
    let is = λ (v : Text). bytes_eq w v in
    no_word (is (codes "accept")) (is (codes "drop")) (is (codes "continue")) (is (codes "return"))
    (is (codes "jump")) (is (codes "goto")) (not-true (is_verdict_word w) e)
no_verdict v to e = refl

abbrev verdict_data : Grammar DataTree
verdict_data = made tree.to_verdict verdict

abbrev other_data : Grammar DataTree
other_data = made tree.to_value (passing is_data_value value)

pub lawful_map_data : Lawful map_data
unfolding map_data verdict
lawful_map_data =
    let l = lawful_made tree.to_verdict lawful_verdict in
    let k = lawful_made tree.to_value (lawful_passing is_data_value lawful_value) in
    record {
      found = λ ts. else_found _ (verdict_data.read ts) _ _ (l.found ts) (λ x ex. inl ex)
          (IfSome_weaker (other_data.read ts) _ _ (λ x ex. inr ex) (k.found ts));
      only = λ x from to s none.
          elim s [
            | inl a ↦ rw (l.only x from to a refl) refl
            | inr b ↦ rw (
              unread verdict_data l refl from (rw b.2.0 (no_verdict b.0 to b.2.1)),
              k.only x from to b refl,
            ) refl
          ];
      front = λ x from to s.
          elim s [
            | inl a ↦ inl (
              shortens verdict_data l refl x from to a,
              begins_with_left verdict_data.first other_data.first from
                  (begins verdict_data l refl x from to a),
            )
            | inr b ↦ inl (
              shortens other_data k refl x from to b,
              begins_with_right verdict_data.first other_data.first from
                  (begins other_data k refl x from to b),
            )
          ];
    }

pub lawful_pair : Lawful pair
unfolding pair range comment map_data
lawful_pair = lawful_made _ (lawful_then lawful_range
    (lawful_then lawful_comment (lawful_after (lawful_punctuation Colon) lawful_map_data refl) refl) refl)

-- ---- lists and references

keeps_value : HoldsNoBrace value
keeps_value = record { keeps = λ v from to s. rw s (value_laws v to).2 }

keeps_range : HoldsNoBrace range
unfolding range
keeps_range =
    let between = keeps_then keeps_value (keeps_after (keeps_punctuation Minus refl) keeps_value) in
    let prefix = keeps_then keeps_address (keeps_after (keeps_punctuation Slash refl) keeps_number) in
    let all : HoldsNoBrace ranges = keeps_either (keeps_made tree.one keeps_value)
    (keeps_either (keeps_made _ between) (keeps_made _ prefix)) in
    record { keeps = all.keeps }

keeps_next : HoldsNoBrace next_value
keeps_next = keeps_after (keeps_punctuation Dot refl) keeps_value

keeps_key : HoldsNoBrace key
unfolding key
keeps_key =
    let all : HoldsNoBrace keys = keeps_either (keeps_made tree.single keeps_range)
    (keeps_made _ (keeps_then keeps_value (keeps_then keeps_next (keeps_many keeps_next)))) in
    record { keeps = all.keeps }

keeps_comment : HoldsNoBrace comment
unfolding comment
keeps_comment = keeps_maybe (keeps_after (keeps_keyword (codes "comment")) keeps_string)

keeps_element : HoldsNoBrace element
unfolding element
keeps_element = keeps_made _ (keeps_then keeps_key keeps_comment)

keeps_verdict : HoldsNoBrace verdict
unfolding verdict
keeps_verdict = keeps_either (keeps_one_of verdict_keywords)
    (keeps_either (keeps_made tree.jump (keeps_after (keeps_keyword (codes "jump")) keeps_word))
    (keeps_made tree.goto (keeps_after (keeps_keyword (codes "goto")) keeps_word)))

keeps_pair : HoldsNoBrace pair
unfolding pair map_data
keeps_pair =
    let value_or_verdict = keeps_either (keeps_made tree.to_verdict keeps_verdict)
    (keeps_made tree.to_value (keeps_passing is_data_value keeps_value)) in
    keeps_made _ (keeps_then keeps_range
    (keeps_then keeps_comment (keeps_after (keeps_punctuation Colon refl) value_or_verdict)))

pub lawful_elements : Lawful elements
unfolding elements element key comment
lawful_elements = lawful_up_to_brace element lawful_element refl refl keeps_element

pub lawful_pairs : Lawful pairs
unfolding pairs pair range comment map_data verdict
lawful_pairs = lawful_up_to_brace pair lawful_pair refl refl keeps_pair

lawful_reference : {A B : Type 0} (named : Text → B) (listed : A → B) {p : Grammar A} → Lawful p
    → are_apart p.follow (this_punctuator CloseBrace ∷ []) ≡ true → Lawful (reference named listed p)
lawful_reference named listed l apart =
    lawful_either (lawful_made named (lawful_after (lawful_punctuation At) lawful_word refl))
    (lawful_made listed (lawful_after (lawful_punctuation OpenBrace)
    (lawful_before l (lawful_punctuation CloseBrace) apart) refl)) refl refl

pub lawful_set_ref : Lawful set_ref
unfolding set_ref elements
lawful_set_ref = lawful_reference tree.named_set tree.elements lawful_elements refl

pub lawful_map_ref : Lawful map_ref
unfolding map_ref pairs
lawful_map_ref = lawful_reference tree.named_map tree.pairs lawful_pairs refl
