-- Matches: their parser gives exactly what they spell.
use Rattle.std.proofs.Common.{◌≡◌, ◌≤◌, List, [], ◌∷◌, ◌++◌, length, Bool, true, false, Option, Some, None, inl, inr, refl, sym, ap, ◌∙◌, arith}
use Rattle.std.proofs.lemmas.Bool.{and_parts}
use Rattle.std.specs.Prelude.{IsTrue}
use Rattle.std.specs.List.{list_all}
use Rattle.std.proofs.lemmas.Option.{same_Some}
use Rattle.list_laws.specs.Options.{option_cases, IfSome_weaker, IfSome_bind, ◌>>=◌}
use Rattle.nft_lexer.specs.Terminal.{Terminal, word}
use Rattle.nft_lexer.specs.declared.token.Punctuator.TheVariants.{At, Bar, Comma, Dot, OpenBrace, Slash}
use Rattle.nft_tree.specs.declared.selector.Selector.{Selector}
use Rattle.nft_tree.specs.declared.selector.Selector.TheVariants.{TcpFlags, CtState, CtStatus}
use Rattle.nft_tree.specs.declared.statement.Operator.{Operator}
use Rattle.nft_tree.specs.declared.statement.BitField.{BitField}
use Rattle.nft_tree.specs.declared.statement.BitField.TheVariants.{State, Status}
use Rattle.nft_tree.specs.Tree as tree
use Rattle.nft_tree.specs.Tree.{FlagTree, MatchTree, RangeTree, Text, ValueTree}
use Rattle.token_reader.specs.Repeats.{Many}
use Rattle.token_reader.specs.Grammar.{Lookahead, Grammar, a_word, many, maybe, one_of, passing, punctuation, begins_with, this_punctuator, ◌∣◌, ◌⨾◌, ◌▹◌}
use Rattle.token_reader.specs.steps.Laws.{Finds, else_found}
use Rattle.token_reader.specs.steps.Lawful.{Ended, Lawful, are_apart, begins, lawful_after, lawful_before}
use Rattle.token_reader.specs.steps.Lawful.{lawful_either, lawful_made, lawful_many, lawful_maybe, lawful_named}
use Rattle.token_reader.specs.steps.Lawful.{lawful_number, lawful_one_of, lawful_passing, lawful_separated}
use Rattle.token_reader.specs.steps.Lawful.{lawful_punctuation, lawful_then, lawful_word, neither, no_longer}
use Rattle.token_reader.specs.steps.Lawful.{not_continued, shortens, begins_with_apart, unread}
use Rattle.nft_expressions.specs.Selectors.{is_word_for, selector, selectors}
use Rattle.nft_expressions.specs.steps.SelectorLaws.{lawful_selector, lawful_selectors}
use Rattle.nft_expressions.specs.Elements.{elements, range, set_ref, terminal_of}
use Rattle.nft_expressions.specs.steps.Laws.{lawful_range, lawful_set_ref}
use Rattle.nft_rules.specs.Matches.{bits, comparison, direct, equality, flag, flag_group, flag_list, flags}
use Rattle.nft_rules.specs.Matches.{inequality, is_flag, is_range_for, is_value_for, masked, matching, operator}
use Rattle.nft_rules.specs.Matches.{set_test, one_test, words}

lawful_equality : Lawful equality
unfolding equality
lawful_equality = lawful_either (lawful_made _ (lawful_punctuation _)) (lawful_made _ (lawful_punctuation _))
    refl refl

lawful_inequality : Lawful inequality
unfolding inequality
lawful_inequality =
    lawful_either (lawful_made _ (lawful_punctuation _))
    (lawful_either (lawful_made _ (lawful_punctuation _))
    (lawful_either (lawful_made _ (lawful_punctuation _)) (lawful_made _ (lawful_punctuation _)) refl
    refl) refl refl) refl refl

lawful_operator : Lawful operator
unfolding operator inequality equality
lawful_operator = lawful_either (lawful_made _ lawful_equality) lawful_inequality refl refl

abbrev range_for : Selector → Grammar RangeTree
range_for s = passing (is_range_for s) range

lawful_range_for : (s : Selector) → Lawful (range_for s)
lawful_range_for s = lawful_passing _ lawful_range

lawful_comparison : (s : Selector) → Lawful (comparison s)
unfolding comparison operator inequality equality range
lawful_comparison s = lawful_made _ (lawful_then (lawful_maybe lawful_operator refl) (lawful_range_for s)
    refl)

abbrev words_for : Selector → Grammar (List Text)
words_for s = passing (list_all (is_word_for s)) words

lawful_words_for : (s : Selector) → Lawful (words_for s)
unfolding words
lawful_words_for s = lawful_passing _ (lawful_separated (lawful_punctuation _) lawful_word refl refl refl
    refl)

lawful_bits : (field : BitField) (s : Selector) → Lawful (bits field s)
unfolding bits words equality
lawful_bits field s = lawful_made _ (lawful_then (lawful_maybe lawful_equality refl) (lawful_words_for s)
    refl)

lawful_flag : Lawful flag
unfolding flag
lawful_flag = lawful_either (lawful_made _ lawful_word) (lawful_made _ lawful_number) refl refl

lawful_flags : Lawful flags
unfolding flags flag
lawful_flags = lawful_passing _ (lawful_separated
    (lawful_either (lawful_punctuation _) (lawful_punctuation _) refl refl) lawful_flag refl refl refl refl)

lawful_flag_group : Lawful flag_group
unfolding flag_group flags flag
lawful_flag_group = lawful_either lawful_flags
    (lawful_after (lawful_punctuation _) (lawful_before lawful_flags (lawful_punctuation _) refl) refl) refl
    refl

lawful_flag_list : Lawful flag_list
unfolding flag_list flags flag equality
lawful_flag_list =
    lawful_named _ (lawful_then (lawful_maybe lawful_equality refl)
    (lawful_then lawful_flags (lawful_maybe (lawful_after (lawful_punctuation _) lawful_flags refl) refl)
    refl) refl)

lawful_masked : Lawful masked
unfolding masked flag_group flags flag equality
lawful_masked = lawful_made _ (lawful_after (lawful_punctuation _)
    (lawful_then lawful_flag_group (lawful_then lawful_equality lawful_flag_group refl) refl) refl)

lawful_flag_test : Lawful (flag_list ∣ masked)
unfolding flag_list masked flags flag equality
lawful_flag_test = lawful_either lawful_flag_list lawful_masked refl refl

lawful_set_test : (ss : List Selector) → Lawful (set_test ss)
unfolding set_test equality set_ref
lawful_set_test ss = lawful_made _ (lawful_then (lawful_maybe lawful_equality refl) lawful_set_ref refl)

-- ---- matches

-- The FOLLOW set of a match contains those of its parts.
record EndsParts (ts : List Terminal) : Type 0 where
  words : Ended words ts
  flags : Ended (flag_list ∣ masked) ts
  range : Ended range ts
  no_ref : begins_with set_ref.first ts ≡ false

ends_parts : (ts : List Terminal) → Ended matching ts → EndsParts ts
unfolding matching
ends_parts ts none =
    let first = neither words.follow ((flag_list ∣ masked).follow ++ (range.follow ++ set_ref.first)) ts
    none in
    let second = neither (flag_list ∣ masked).follow (range.follow ++ set_ref.first) ts first.1 in
    let third = neither range.follow set_ref.first ts second.1 in
    record { words = first.0; flags = second.0; range = third.0; no_ref = third.1 }

-- A test of one selector starts with no dot and no set.
record IsDirect (p : Grammar MatchTree) : Type 0 where
  lawful : Lawful p
  some : p.empty ≡ false
  no_dot : are_apart selectors.follow p.first ≡ true
  read_ended_rule : (ts : List Terminal) → Ended matching ts → Ended p ts
  no_set : (m : MatchTree) (from to : List Terminal) → p.spells m from to
      → (maybe equality ⨾ set_ref).read from ≡ None

-- After an equality operator, or without one, there is no set.
no_set_behind : (fs : List Lookahead) → are_apart equality.first fs ≡ true → are_apart set_ref.first fs ≡ true
    → (equal : Option Bool) (from mid : List Terminal) → (maybe equality).spells equal from mid
    → begins_with fs mid ≡ true → (maybe equality ⨾ set_ref).read from ≡ None
unfolding equality set_ref
no_set_behind fs no_sign no_ref equal from mid s stood =
    let equal_read = (lawful_maybe lawful_equality refl).only equal from mid s
    (begins_with_apart equality.first fs mid no_sign stood) in
    rw (
      equal_read,
      unread set_ref lawful_set_ref refl mid
          (begins_with_apart set_ref.first fs mid no_ref stood),
    ) refl

range_no_set : (s : Selector) (op : Option Operator) (r : RangeTree) (from mid to : List Terminal)
    → (maybe operator).spells op from mid → (range_for s).spells r mid to
    → (maybe equality ⨾ set_ref).read from ≡ None
unfolding operator inequality equality set_ref range
range_no_set s None r from mid to e one =
    no_set_behind (range_for s).first refl refl None from mid e
    (begins (range_for s) (lawful_range_for s) refl r mid to one)
range_no_set s (Some op) r from mid to (inl (equal, same, e)) one =
    no_set_behind (range_for s).first refl refl (Some equal) from mid e
    (begins (range_for s) (lawful_range_for s) refl r mid to one)
range_no_set s (Some op) r from mid to (inr e) one =
    no_set_behind inequality.first refl refl None from from refl
    (begins inequality lawful_inequality refl op from mid e)

comparison_direct : (s : Selector) → IsDirect (comparison s)
unfolding comparison operator inequality equality range selectors selector
comparison_direct s = record {
  lawful = lawful_comparison s;
  some = refl;
  no_dot = refl;
  read_ended_rule = λ ts none. (ends_parts ts none).range;
  no_set = λ m from to (x, same, (mid, op, one)). range_no_set s x.0 x.1 from mid to op one;
}

bits_direct : (field : BitField) (s : Selector) → IsDirect (bits field s)
unfolding bits equality words set_ref selectors selector
bits_direct field s = record {
  lawful = lawful_bits field s;
  some = refl;
  no_dot = refl;
  read_ended_rule = λ ts none. (ends_parts ts none).words;
  no_set = λ m from to (x, same, (mid, equal, words)).
      no_set_behind (words_for s).first refl refl x.0 from mid equal
      (begins (words_for s) (lawful_words_for s) refl x.1 mid to words);
}

flags_no_set : (m : MatchTree) (from to : List Terminal) → (flag_list ∣ masked).spells m from to
    → (maybe equality ⨾ set_ref).read from ≡ None
unfolding flag_list masked flags flag equality set_ref
flags_no_set m from to (inl (x, same, (mid, equal, (end, wanted, mask)))) =
    no_set_behind flags.first refl refl x.0 from mid equal
    (begins flags lawful_flags refl x.1.0 mid end wanted)
flags_no_set m from to (inr s) = no_set_behind masked.first refl refl None from from refl
    (begins masked lawful_masked refl m from to s)

flags_direct : IsDirect (flag_list ∣ masked)
unfolding flag_list masked flags flag equality selectors selector
flags_direct = record {
  lawful = lawful_flag_test;
  some = refl;
  no_dot = refl;
  read_ended_rule = λ ts none. (ends_parts ts none).flags;
  no_set = flags_no_set;
}

test_direct : (s : Selector) → IsDirect (one_test s)
unfolding one_test
test_direct CtState = bits_direct State CtState
test_direct CtStatus = bits_direct Status CtStatus
test_direct TcpFlags = flags_direct
test_direct s = comparison_direct s

no_test : IsDirect (one_of [])
unfolding selectors selector
no_test = record {
  lawful = lawful_one_of [] refl;
  some = refl;
  no_dot = refl;
  read_ended_rule = λ ts none. refl;
  no_set = λ m from to s. absurd s;
}

is_direct : (ss : List Selector) → IsDirect (direct ss)
is_direct [] = no_test
is_direct (s ∷ []) = test_direct s
is_direct (s ∷ t ∷ ss) = no_test

tested_found : (ss : List Selector) → Finds (set_test ss ∣ direct ss).spells (set_test ss ∣ direct ss).read
tested_found ss ts = else_found _ ((set_test ss).read ts) _ _ ((lawful_set_test ss).found ts) (λ x ex. inl ex)
    (IfSome_weaker ((direct ss).read ts) _ _ (λ x ex. inr ex) ((is_direct ss).lawful.found ts))

tested_only : (ss : List Selector) (m : MatchTree) (from to : List Terminal)
    → (set_test ss ∣ direct ss).spells m from to → Ended matching to
    → ((set_test ss ∣ direct ss).read from ≡ Some (m, to)) × (begins_with selectors.follow from ≡ false)
unfolding set_test set_ref elements equality selectors selector
tested_only ss m from to (inl s) none =
    let law = lawful_set_test ss in (
      rw (law.only m from to s refl) refl,
      begins_with_apart selectors.follow (set_test ss).first from refl
          (begins (set_test ss) law refl m from to s),
    )
tested_only ss m from to (inr s) none =
    let direct_is = is_direct ss in
    let law = direct_is.lawful in (
      rw (direct_is.no_set m from to s, law.only m from to s (direct_is.read_ended_rule to none)) refl,
      begins_with_apart selectors.follow (direct ss).first from direct_is.no_dot
          (begins (direct ss) law direct_is.some m from to s),
    )

-- Reading the first selector and then the rest of the match equals reading all selectors and then their test.
selectors_first : (ts : List Terminal) → matching.read ts
    ≡ (selectors.read ts >>= λ keys. (set_test keys.0 ∣ direct keys.0).read keys.1)
unfolding matching selectors
selectors_first ts =
    elim (option_cases (selector.read ts)) [
      | inl none ↦ rw none refl
      | inr s ↦ rw s.1 refl
    ]

matching_only : (m : MatchTree) (from to : List Terminal) → matching.spells m from to → Ended matching to
    → matching.read from ≡ Some (m, to)
unfolding matching
matching_only m from to (ss, mid, keys, s) none =
    let tested = tested_only ss m mid to s none in
    selectors_first from ∙ rw (lawful_selectors.only ss from mid keys tested.1, tested.0) refl

tested_takes : (ss : List Selector) (m : MatchTree) (from to : List Terminal)
    → (set_test ss ∣ direct ss).spells m from to → length to ≤ length from
tested_takes ss m from to (inl s) = no_longer (set_test ss) (lawful_set_test ss) m from to s
tested_takes ss m from to (inr s) = no_longer (direct ss) (is_direct ss).lawful m from to s

keys_some : selectors.empty ≡ false
unfolding selectors selector
keys_some = refl

pub lawful_matching : Lawful matching
unfolding matching
lawful_matching = record {
  found = λ ts. rw (selectors_first ts)
      (IfSome_bind _ (selectors.read ts) _ (lawful_selectors.found ts)
      (λ keys e. IfSome_weaker ((set_test keys.0 ∣ direct keys.0).read keys.1)
      _ _ (λ m s. (keys.0, keys.1, e, s)) (tested_found keys.0 keys.1)));
  only = matching_only;
  front = λ m from to (ss, mid, keys, s).
      inl (
        omega (
          arith,
          shortens selectors lawful_selectors keys_some ss from mid keys,
          tested_takes ss m mid to s,
        ),
        begins selectors lawful_selectors keys_some ss from mid keys,
      );
}

-- ---- a word after the first selector

-- Before a word there is no equality operator.
no_equality : (equal : Option Bool) (w : Text) (a to : List Terminal)
    → (maybe equality).spells equal (word w ∷ a) to → to ≡ word w ∷ a
unfolding equality
no_equality None w a to e = sym e
no_equality (Some equal) w a to e = absurd (cc (begins equality lawful_equality refl equal (word w ∷ a) to e))

no_operator : (op : Option Operator) (w : Text) (a to : List Terminal)
    → (maybe operator).spells op (word w ∷ a) to → to ≡ word w ∷ a
unfolding operator inequality equality
no_operator None w a to e = sym e
no_operator (Some op) w a to e = absurd (cc (begins operator lawful_operator refl op (word w ∷ a) to e))

-- The word is a symbolic constant of the selector, and no reference follows it.
abbrev IsWordFor : Selector → Text → List Terminal → Type 0
IsWordFor s w a = (is_word_for s w ≡ true) × (begins_with set_ref.first a ≡ false)

words_fit : (s : Selector) (ws : List Text) (w : Text) (a to : List Terminal)
    → (words_for s).spells ws (word w ∷ a) to → begins_with set_ref.first to ≡ false → IsWordFor s w a
unfolding words set_ref
words_fit s [] w a to (e, listed) none = absurd e
words_fit s (v ∷ vs) w a to ((b, same, others), listed) none =
    let behind : a ≡ b = cc same in
    let first : w ≡ v = cc same in
    rw (behind, first) (
      (and_parts (is_word_for s v) (list_all (is_word_for s) vs) listed).0,
      not_continued (many (punctuation Comma ▹ a_word))
          (lawful_many (lawful_after (lawful_punctuation Comma) lawful_word refl) refl refl) set_ref.first refl
          vs b to others none,
    )

flags_fit : (fs : List FlagTree) (w : Text) (a to : List Terminal) → flags.spells fs (word w ∷ a) to
    → begins_with set_ref.first to ≡ false → IsWordFor TcpFlags w a
unfolding flags flag set_ref
flags_fit [] w a to (e, listed) none = absurd e
flags_fit (f ∷ fs) w a to ((b, inr (n, named, same), others), listed) none = absurd (cc same)
flags_fit (f ∷ fs) w a to ((b, inl (v, named, same), others), listed) none =
    let behind : a ≡ b = cc same in
    let first : w ≡ v = cc same in
    let fits : IsTrue (is_flag f) = (and_parts (is_flag f) (list_all is_flag fs) listed).0 in
    rw (behind, first) (
      rw named at fits,
      not_continued (many ((punctuation Comma ∣ punctuation Bar) ▹ flag))
          (lawful_many (lawful_after (lawful_either (lawful_punctuation Comma) (lawful_punctuation Bar) refl
          refl) lawful_flag refl) refl refl) set_ref.first refl fs b to others none,
    )

flag_test_fits : (m : MatchTree) (w : Text) (a to : List Terminal)
    → (flag_list ∣ masked).spells m (word w ∷ a) to → begins_with set_ref.first to ≡ false
    → IsWordFor TcpFlags w a
unfolding flag_list masked flags flag set_ref
flag_test_fits m w a to (inl (x, same, (mid, equal, (end, wanted, mask)))) none =
    let behind = not_continued (maybe (punctuation Slash ▹ flags))
    (lawful_maybe (lawful_after (lawful_punctuation Slash) lawful_flags refl) refl) set_ref.first refl
    x.1.1 end to mask none in
    flags_fit x.1.0 w a end (rw (no_equality x.0 w a mid equal) at wanted) behind
flag_test_fits m w a to (inr s) none = absurd (cc (begins masked lawful_masked refl m (word w ∷ a) to s))

bits_fit : (field : BitField) (s : Selector) (m : MatchTree) (w : Text) (a to : List Terminal)
    → (bits field s).spells m (word w ∷ a) to → begins_with set_ref.first to ≡ false → IsWordFor s w a
unfolding bits
bits_fit field s m w a to (x, same, (mid, equal, listed)) none =
    words_fit s x.1 w a to (rw (no_equality x.0 w a mid equal) at listed) none

value_is : (v : ValueTree) (w : Text) (a to : List Terminal) → word w ∷ a ≡ terminal_of v ∷ to
    → (v ≡ tree.word w) × (a ≡ to)
value_is (tree.word v) w a to e = (cc e, cc e)
value_is (tree.number n) w a to e = absurd (cc e)
value_is (tree.address n) w a to e = absurd (cc e)
value_is (tree.string t) w a to e = absurd (cc e)

range_fits : (s : Selector) (r : RangeTree) (w : Text) (a to : List Terminal)
    → (range_for s).spells r (word w ∷ a) to → begins_with set_ref.first to ≡ false → IsWordFor s w a
unfolding range set_ref
range_fits s r w a to (inl (v, same, e), listed) none =
    let is = value_is v w a to e in
    (rw (same, is.0) at listed, rw is.1 none)
range_fits s r w a to (inr (inl ((low, high), same, (b, e, (c, minus, other)))), listed) none =
    let is = value_is low w a b e in (
      (and_parts (is_word_for s w) (is_value_for s high) (rw (same, is.0) at listed)).0,
      rw (is.1 ∙ minus) refl,
    )
range_fits s r w a to (inr (inr (x, same, (b, e, other))), listed) none = absurd (cc e)

comparison_fits : (s : Selector) (m : MatchTree) (w : Text) (a to : List Terminal)
    → (comparison s).spells m (word w ∷ a) to → begins_with set_ref.first to ≡ false → IsWordFor s w a
unfolding comparison
comparison_fits s m w a to (x, same, (mid, op, one)) none =
    range_fits s x.1 w a to (rw (no_operator x.0 w a mid op) at one) none

test_fits : (s : Selector) (m : MatchTree) (w : Text) (a to : List Terminal)
    → (one_test s).spells m (word w ∷ a) to → begins_with set_ref.first to ≡ false → IsWordFor s w a
unfolding one_test
test_fits CtState = bits_fit State CtState
test_fits CtStatus = bits_fit Status CtStatus
test_fits TcpFlags = flag_test_fits
test_fits s = comparison_fits s

tested_fits : (s : Selector) (m : MatchTree) (w : Text) (a to : List Terminal)
    → (set_test (s ∷ []) ∣ direct (s ∷ [])).spells m (word w ∷ a) to → begins_with set_ref.first to ≡ false
    → IsWordFor s w a
unfolding set_test equality set_ref
tested_fits s m w a to (inl set) none =
    absurd (cc (begins (set_test (s ∷ [])) (lawful_set_test (s ∷ [])) refl m (word w ∷ a) to set))
tested_fits s m w a to (inr one) none = test_fits s m w a to one none

only_key : (ts : List Selector) (s : Selector) (m : MatchTree) (w : Text) (a mid to : List Terminal)
    → Many (punctuation Dot ▹ selector).spells ts (word w ∷ a) mid
    → (set_test (s ∷ ts) ∣ direct (s ∷ ts)).spells m mid to → begins_with set_ref.first to ≡ false
    → IsWordFor s w a
only_key [] s m w a mid to last tested none = tested_fits s m w a to (rw (sym last) at tested) none
only_key (t ∷ ts) s m w a mid to (b, (c, dot, other), others) tested none = absurd (cc dot)

-- A word after the first selector of a match is a symbolic constant of it, and no reference follows that
-- word.
pub match_word : (m : MatchTree) (from to : List Terminal) → matching.spells m from to → Ended matching to
    → (s : Selector) (w : Text) (a : List Terminal) → selector.spells s from (word w ∷ a)
    → (is_word_for s w ≡ true) × (begins_with (this_punctuator At ∷ this_punctuator OpenBrace ∷ []) a ≡ false)
unfolding matching selectors selector set_ref
match_word m from to ([], mid, keys, tested) none s w a here = absurd keys
match_word m from to (t ∷ ts, mid, (b, first, others), tested) none s w a here =
    let same = same_Some (t, b) (s, word w ∷ a)
    (sym (lawful_selector.only t from b first refl)
    ∙ lawful_selector.only s from (word w ∷ a) here refl) in
    let key : t ≡ s = ap (λ (x : Selector × List Terminal). x.0) same in
    let behind : b ≡ word w ∷ a = ap (λ (x : Selector × List Terminal). x.1) same in
    only_key ts s m w a mid to (rw behind at others) (rw key at tested) (ends_parts to none).no_ref
