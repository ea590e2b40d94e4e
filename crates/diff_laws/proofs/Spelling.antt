-- The addresses of a ruleset are tokens of its text, which have 32 bits.
use Rattle.std.specs.Prelude.{codes, ◌^◌, ◌<◌, IfSome, cond, unwrap_or, option_map}
use Rattle.std.proofs.Common.{◌≡◌, ℕ, zero, suc, Bool, true, false, List, [], ◌∷◌, ◌++◌, Option, Some, None, inl, inr, subst, sym}
use Rattle.std.proofs.lemmas.Option.{option_and_then_some, same_Some}
use Rattle.nft_lexer.specs.declared.token.Punctuator.{Punctuator}
use Rattle.nft_lexer.specs.Terminal as terminals
use Rattle.nft_lexer.specs.Terminal.{LexedToken, Terminal, terminals_of}
use Rattle.nft_lexer.specs.Lexing.{HasTokens, Lexeme, ScansInto, TokenizesTo}
use Rattle.nft_lexer.specs.Lexing as lexing
use Rattle.nft_tree.specs.declared.selector.Selector.{Selector}
use Rattle.nft_tree.specs.declared.selector.Selector.TheVariants as selectors
use Rattle.nft_tree.specs.declared.chain.Priority.TheVariants as priorities
use Rattle.nft_tree.specs.declared.chain.OffsetSign.TheVariants as signs
use Rattle.nft_tree.specs.declared.chain.ChainKind.TheVariants as chain_kinds
use Rattle.nft_tree.specs.declared.chain.Policy.TheVariants as policies
use Rattle.nft_tree.specs.declared.ruleset.Family.{Family}
use Rattle.nft_tree.specs.declared.ruleset.Family.TheVariants.{Ip}
use Rattle.nft_tree.specs.declared.set.SetFlag.TheVariants.{Constant, Interval}
use Rattle.nft_tree.specs.declared.statement.CounterStart.{CounterStart}
use Rattle.nft_tree.specs.declared.set.MapType.{MapType}
use Rattle.nft_tree.specs.declared.statement.BitField.{BitField}
use Rattle.nft_tree.specs.declared.statement.BitField.TheVariants as bit_fields
use Rattle.nft_tree.specs.declared.statement.MarkField.{MarkField}
use Rattle.nft_tree.specs.declared.statement.Operator.TheVariants as operators
use Rattle.nft_tree.specs.Tree as tree
use Rattle.nft_tree.specs.Tree.{DataTree, ItemTree, MapLookupTree, MapRefTree, MapTree, NatTree, OperandTree, PairTree, RuleTree, SetTree, Statement, TableTree, ValueTree}
use Rattle.token_reader.specs.Repeats.{EndsCounted, Many, SomeEnds, SpellsEnd, without_newlines}
use Rattle.token_reader.specs.Grammar.{Grammar, OneOrNone, Separated, a_number, a_string, a_word, an_address, ends, keyword, lines, made, many, maybe, named, one_of}
use Rattle.token_reader.specs.Grammar.{passing, punctuation, separated, some_ends, ◌∣◌, ◌▹◌, ◌◃◌, ◌⨾◌}
use Rattle.nft_expressions.specs.Elements as elements
use Rattle.nft_expressions.specs.Elements.{BracedList, CommaSeparated}
use Rattle.nft_expressions.specs.Selectors as expressions
use Rattle.nft_rules.specs.Matches as matches
use Rattle.nft_rules.specs.Rules as rules
use Rattle.nft_rulesets.specs.Chains as chains
use Rattle.nft_rulesets.specs.Sets as sets
use Rattle.nft_rulesets.specs.Sets.{Field, FieldValues, collect_fields, map_of, set_of, with_field, with_fields}
use Rattle.nft_rulesets.specs.Rulesets as rulesets
use Rattle.nft_parser.specs.Spells.{Spells}
use Rattle.rule_names.specs.Names.{some_of}
use Rattle.diff_laws.specs.Addresses.{AddressesFit, DataFits, Every, ItemFits, NatFits, PairsFit, RefFits, StatementFits}
use Rattle.diff_laws.proofs.Each.{each_append, each_map}

-- ---- tokens

abbrev TokenFits : Terminal → Type 0
TokenFits (terminals.address a) = a < 2 ^ 32
TokenFits _ = Unit {0}

abbrev Good : List Terminal → Type 0
Good ts = Every TokenFits ts

abbrev LexedFits : LexedToken → Type 0
LexedFits t = TokenFits t.terminal

tokens_fit : (p : Lexeme) (bytes : List ℕ) (tokens : List LexedToken) → HasTokens p bytes tokens → Every LexedFits tokens
tokens_fit lexing.blank bytes tokens h = subst (Every LexedFits) (sym h) tt
tokens_fit lexing.line_continuation bytes tokens h = subst (Every LexedFits) (sym h) tt
tokens_fit (lexing.comment c) bytes tokens h = subst (Every LexedFits) (sym h) tt
tokens_fit lexing.line_end bytes tokens h = subst (Every LexedFits) (sym h) (tt, tt)
tokens_fit (lexing.name w) bytes tokens h = subst (Every LexedFits) (sym h) (tt, tt)
tokens_fit (lexing.digits n) bytes tokens h = subst (Every LexedFits) (sym h.1) (tt, tt)
tokens_fit (lexing.hexadecimal n) bytes tokens h = subst (Every LexedFits) (sym h.1) (tt, tt)
tokens_fit (lexing.dotted_quad a b c d) bytes tokens (n, octets, h) = subst (Every LexedFits) (sym h) (octets.0, tt)
tokens_fit (lexing.quoted s) bytes tokens h = subst (Every LexedFits) (sym h) (tt, tt)
tokens_fit (lexing.punctuation m) bytes tokens h = subst (Every LexedFits) (sym h) (tt, tt)

scan_fits : (ps : List Lexeme) (from to : List ℕ) (tokens : List LexedToken) → ScansInto ps from to tokens → Every LexedFits tokens
scan_fits [] from to tokens h = subst (Every LexedFits) (sym h.1) tt
scan_fits (p ∷ ps) from to tokens (bytes, mid, front, others, longest, has, joined, scan) =
    subst (Every LexedFits) (sym joined) (each_append LexedFits front others (tokens_fit p bytes front has) (scan_fits ps mid to others scan))

text_fits : (text : List ℕ) (tokens : List LexedToken) → TokenizesTo text tokens → Good (terminals_of tokens)
text_fits text tokens h = each_map LexedFits TokenFits (λ t. t.terminal) (λ t k. k) tokens (scan_fits h.lexemes text [] tokens h.scan)

-- ---- grammars of which the parts have the property, where the tokens are good

record Sound {A : Type 0} (P : A → Type 0) (g : Grammar A) : Type 0 where
  sound : (x : A) (from to : List Terminal) → Good from → g.spells x from to → P x × Good to

abbrev Any : {A : Type 0} → A → Type 0
Any x = Unit {0}

abbrev Clean : {A : Type 0} → Grammar A → Type 0
Clean {A} g = Sound {A = A} (λ x. Unit {0}) g

rest_of : (t : Terminal) (from to : List Terminal) → Good from → from ≡ t ∷ to → TokenFits t × Good to
rest_of t from to h e = subst Good e h

s_keyword : (w : List ℕ) → Clean (keyword w)
s_keyword w = record { sound = λ x from to h s. (tt, (rest_of (terminals.word w) from to h s).1) }

s_mark : (m : Punctuator) → Clean (punctuation m)
s_mark m = record { sound = λ x from to h s. (tt, (rest_of (terminals.punctuator m) from to h s).1) }

s_word : Clean a_word
s_word = record { sound = λ x from to h s. (tt, (rest_of (terminals.word x) from to h s).1) }

s_number : Clean a_number
s_number = record { sound = λ x from to h s. (tt, (rest_of (terminals.number x) from to h s).1) }

s_string : Clean a_string
s_string = record { sound = λ x from to h s. (tt, (rest_of (terminals.string x) from to h s).1) }

s_address : Sound (λ (a : ℕ). a < 2 ^ 32) an_address
s_address = record { sound = λ x from to h s. rest_of (terminals.address x) from to h s }

end_good : (from to : List Terminal) → Good from → SpellsEnd from to → Good to
end_good from to h (inl e) = (subst Good e h).1
end_good from to h (inr e) = (subst Good e h).1

counted_good : (n : ℕ) (from to : List Terminal) → Good from → EndsCounted n from to → Good to
counted_good zero from to h e = subst Good e h
counted_good (suc n) from to h (mid, x, y) = counted_good n mid to (end_good from mid h x) y

some_good : (from to : List Terminal) → Good from → SomeEnds from to → Good to
some_good from to h (mid, x, (n, y)) = counted_good n mid to (end_good from mid h x) y

s_ends : Clean ends
s_ends = record { sound = λ x from to h s. (tt, counted_good s.0 from to h s.1) }

s_some_ends : Clean some_ends
s_some_ends = record { sound = λ x from to h s. (tt, some_good from to h s) }

module _ {A B : Type 0} {P : A → Type 0} {Q : B → Type 0} {p : Grammar A} {q : Grammar B} where
  seq : Sound P p → Sound Q q → Sound (λ (x : A × B). P x.0 × Q x.1) (p ⨾ q)
  seq h k = record {
    sound = λ x from to g s.
        let one = h.sound x.0 from s.0 g s.1 in
        let two = k.sound x.1 s.0 to one.1 s.2 in
        ((one.0, two.0), two.1);
  }

module _ {B : Type 0} {Q : B → Type 0} {p : Grammar Unit} {q : Grammar B} where
  snd : Clean p → Sound Q q → Sound Q (p ▹ q)
  snd h k = record { sound = λ x from to g s. k.sound x s.0 to (h.sound tt from s.0 g s.1).1 s.2 }

  fst : Sound Q q → Clean p → Sound Q (q ◃ p)
  fst k h = record {
    sound = λ x from to g s.
        let one = k.sound x from s.0 g s.1 in (one.0, (h.sound tt s.0 to one.1 s.2).1);
  }

module _ {A : Type 0} {P : A → Type 0} {p : Grammar A} where
  either_sound : {q : Grammar A} → Sound P p → Sound P q → Sound P (p ∣ q)
  either_sound {q} h k = record { sound = λ x from to g s. by_side x from to g s }
    where
      by_side : (x : A) (from to : List Terminal) → Good from → (p ∣ q).spells x from to → P x × Good to
      by_side x from to g (inl s) = h.sound x from to g s
      by_side x from to g (inr s) = k.sound x from to g s

  s_maybe : Sound P p → Sound (λ (o : Option A). IfSome o P) (maybe p)
  s_maybe h = record { sound = λ o from to g s. one_or_none o from to g s }
    where
      one_or_none : (o : Option A) (from to : List Terminal) → Good from → OneOrNone p.spells o from to → IfSome o P × Good to
      one_or_none None from to g s = (tt, subst Good s g)
      one_or_none (Some x) from to g s = h.sound x from to g s

  many_good : Sound P p → (xs : List A) (from to : List Terminal) → Good from → Many p.spells xs from to → Every P xs × Good to
  many_good h [] from to g s = (tt, subst Good s g)
  many_good h (x ∷ xs) from to g (mid, y, z) =
      let one = h.sound x from mid g y in
      let rest = many_good h xs mid to one.1 z in
      ((one.0, rest.0), rest.1)

  s_many : Sound P p → Sound (Every P) (many p)
  s_many h = record { sound = many_good h }

  s_passing : (t : A → Bool) → Sound P p → Sound P (passing t p)
  s_passing t h = record { sound = λ x from to g s. h.sound x from to g s.0 }

  clean : Sound P p → Clean p
  clean h = record { sound = λ x from to g s. (tt, (h.sound x from to g s).1) }

  s_made : {B : Type 0} {Q : B → Type 0} (f : A → B) → ((x : A) → P x → Q (f x)) → Sound P p → Sound Q (made f p)
  s_made {B} {Q} f w h = record {
    sound = λ y from to g s.
        let one = h.sound s.0 from to g s.2 in (subst Q (sym s.1) (w s.0 one.0), one.1);
  }

  s_named : {B : Type 0} {Q : B → Type 0} (f : A → Option B) → ((x : A) (y : B) → f x ≡ Some y → P x → Q y) → Sound P p → Sound Q (named f p)
  s_named {B} {Q} f w h = record {
    sound = λ y from to g s.
        let one = h.sound s.0 from to g s.2 in (w s.0 y s.1 one.0, one.1);
  }

  module _ {u : Grammar Unit} where
    separated_good : Clean u → Sound P p → (xs : List A) (from to : List Terminal) → Good from → Separated u p xs from to → Every P xs × Good to
    separated_good k h [] from to g s = absurd s
    separated_good k h (x ∷ xs) from to g (mid, y, z) =
        let one = h.sound x from mid g y in
        let rest = (s_many_second k h).sound xs mid to one.1 z in
        ((one.0, rest.0), rest.1)
      where
        s_many_second : Clean u → Sound P p → Sound (Every P) (many (u ▹ p))
        s_many_second k h = record { sound = λ xs from to g s. many_behind k h xs from to g s }
          where
            many_behind : Clean u → Sound P p → (xs : List A) (from to : List Terminal) → Good from → Many (u ▹ p).spells xs from to
                → Every P xs × Good to
            many_behind k h [] from to g s = (tt, subst Good s g)
            many_behind k h (x ∷ xs) from to g (mid, (between, a, b), z) =
                let one = h.sound x between mid (k.sound tt from between g a).1 b in
                let rest = many_behind k h xs mid to one.1 z in
                ((one.0, rest.0), rest.1)

    s_separated : Clean u → Sound P p → Sound (Every P) (separated u p)
    s_separated k h = record { sound = separated_good k h }

  s_lines : Sound P p → Sound (Every P) (lines p)
  s_lines h = record {
    sound = λ xs from to g s.
        let one = separated_good s_some_ends h xs from s.0 g s.1 in (one.0, counted_good s.2.0 s.0 to one.1 s.2.1);
  }

s_one_of : {A : Type 0} (rows : List (List ℕ × A)) → Clean (one_of rows)
s_one_of [] = record { sound = λ x from to g s. absurd s }
s_one_of (row ∷ rows) = either_sound (s_made (λ u. row.1) (λ u h. tt) (s_keyword row.0)) (s_one_of rows)

-- ---- expressions

-- clean parts, mapped
c_made : {A B : Type 0} {P : A → Type 0} {p : Grammar A} (f : A → B) → Sound P p → Clean (made f p)
c_made f h = s_made f (λ x k. tt) h

c_named : {A B : Type 0} {P : A → Type 0} {p : Grammar A} (f : A → Option B) → Sound P p → Clean (named f p)
c_named f h = s_named f (λ x y e k. tt) h

s_selector : Clean expressions.selector
unfolding expressions.selector
s_selector =
    either_sound (snd (s_keyword _) (s_one_of expressions.in_ip)) (either_sound (snd (s_keyword _) (s_one_of expressions.in_meta))
    (either_sound (snd (s_keyword _) (s_one_of expressions.in_tcp)) (either_sound (snd (s_keyword _) (s_one_of expressions.in_udp))
    (either_sound (snd (s_keyword _) (s_one_of expressions.in_th)) (either_sound (snd (s_keyword _) (s_one_of expressions.in_icmp))
    (either_sound (snd (s_keyword _) (s_one_of expressions.in_ct)) (s_one_of expressions.without_meta)))))))

s_selectors : Clean expressions.selectors
unfolding expressions.selectors
s_selectors = clean (s_separated (s_mark _) s_selector)

abbrev ValueFits : ValueTree → Type 0
ValueFits (tree.address a) = a < 2 ^ 32
ValueFits _ = Unit {0}

value_good : (v : ValueTree) (from to : List Terminal) → Good from → from ≡ elements.terminal_of v ∷ to → ValueFits v × Good to
value_good (tree.number n) from to h e = rest_of (terminals.number n) from to h e
value_good (tree.address a) from to h e = rest_of (terminals.address a) from to h e
value_good (tree.word w) from to h e = rest_of (terminals.word w) from to h e
value_good (tree.string s) from to h e = rest_of (terminals.string s) from to h e

s_value : Sound ValueFits elements.value
s_value = record { sound = value_good }

s_ranges : Clean elements.ranges
s_ranges = either_sound (c_made tree.one s_value) (either_sound (c_made (λ x. tree.between x.0 x.1) (seq s_value (snd (s_mark _) s_value)))
    (c_made (λ x. tree.prefix x.0 x.1) (seq s_address (snd (s_mark _) s_number))))

s_range : Clean elements.range
unfolding elements.range
s_range = record { sound = λ x from to g s. s_ranges.sound x from to g s }

s_keys : Clean elements.keys
s_keys = either_sound (c_made tree.single s_range) (c_made (λ x. tree.joined (x.0 ∷ x.1.0 ∷ x.1.1))
    (seq s_value (seq (snd (s_mark _) s_value) (s_many (snd (s_mark _) s_value)))))

s_key : Clean elements.key
unfolding elements.key
s_key = record { sound = λ x from to g s. s_keys.sound x from to g s }

s_comment : Clean elements.comment
unfolding elements.comment
s_comment = clean (s_maybe (snd (s_keyword _) s_string))

s_element : Clean elements.element
unfolding elements.element
s_element = c_made (λ x. record { key = x.0; comment = x.1 }) (seq s_key s_comment)

s_verdict : Clean elements.verdict
unfolding elements.verdict
s_verdict = either_sound (s_one_of elements.verdict_keywords) (either_sound (c_made tree.jump (snd (s_keyword _) s_word))
    (c_made tree.goto (snd (s_keyword _) s_word)))

data_of_value : (v : ValueTree) → ValueFits v → DataFits (tree.to_value v)
data_of_value (tree.number n) h = tt
data_of_value (tree.address a) h = h
data_of_value (tree.word w) h = tt
data_of_value (tree.string s) h = tt

s_data : Sound DataFits elements.map_data
unfolding elements.map_data
s_data = either_sound (s_made tree.to_verdict (λ v h. tt) s_verdict) (s_made tree.to_value data_of_value (s_passing elements.is_data_value s_value))

s_pair : Sound (λ (p : PairTree). DataFits p.value) elements.pair
unfolding elements.pair
s_pair = s_made (λ x. record { key = x.0; comment = x.1.0; value = x.1.1 }) (λ x h. h.1.1) (seq s_range (seq s_comment (snd (s_mark _) s_data)))

-- ---- lists in braces

good_left : (xs ys : List Terminal) → Good (xs ++ ys) → Good xs
good_left [] ys h = tt
good_left (x ∷ xs) ys h = (h.0, good_left xs ys h.1)

good_right : (xs ys : List Terminal) → Good (xs ++ ys) → Good ys
good_right [] ys h = h
good_right (x ∷ xs) ys h = good_right xs ys h.1

good_lines : (ts : List Terminal) → Good ts → Good (without_newlines ts)
good_lines [] h = tt
good_lines (terminals.newline ∷ ts) h = good_lines ts h.1
good_lines (terminals.punctuator m ∷ ts) h = (h.0, good_lines ts h.1)
good_lines (terminals.word w ∷ ts) h = (h.0, good_lines ts h.1)
good_lines (terminals.number n ∷ ts) h = (h.0, good_lines ts h.1)
good_lines (terminals.address a ∷ ts) h = (h.0, good_lines ts h.1)
good_lines (terminals.string s ∷ ts) h = (h.0, good_lines ts h.1)

s_braced : {A : Type 0} {P : A → Type 0} {p : Grammar A} → Sound P p → Sound (Every P) (elements.up_to_brace p)
s_braced {A} {P} {p} h = record {
  sound = λ xs from to g s.
      let all = subst Good s.joined g in (
        (separated_good (s_mark _) h xs (without_newlines s.inner) s.listed.0 (good_lines s.inner (good_left s.inner to all)) s.listed.1).0,
        good_right s.inner to all,
      );
}

s_elements : Clean elements.elements
unfolding elements.elements
s_elements = clean (s_braced s_element)

s_pairs : Sound PairsFit elements.pairs
unfolding elements.pairs
s_pairs = s_braced s_pair

s_set_ref : Clean elements.set_ref
unfolding elements.set_ref
s_set_ref = either_sound (c_made tree.named_set (snd (s_mark _) s_word)) (c_made tree.elements (snd (s_mark _) (fst s_elements (s_mark _))))

s_map_ref : Sound RefFits elements.map_ref
unfolding elements.map_ref
s_map_ref = either_sound (s_made tree.named_map (λ x h. tt) (snd (s_mark _) s_word))
    (s_made tree.pairs (λ x h. h) (snd (s_mark _) (fst s_pairs (s_mark _))))

-- ---- rules

s_equality : Clean matches.equality
unfolding matches.equality
s_equality = either_sound (c_made (λ u. true) (s_mark _)) (c_made (λ u. false) (s_mark _))

s_inequality : Clean matches.inequality
unfolding matches.inequality
s_inequality = either_sound (c_made (λ u. operators.Below) (s_mark _)) (either_sound (c_made (λ u. operators.Above) (s_mark _))
    (either_sound (c_made (λ u. operators.AtMost) (s_mark _)) (c_made (λ u. operators.AtLeast) (s_mark _))))

s_operator : Clean matches.operator
unfolding matches.operator
s_operator = either_sound (c_made (λ equal. cond equal operators.Equal operators.Unequal) s_equality) s_inequality

s_comparison : (s : Selector) → Clean (matches.comparison s)
unfolding matches.comparison
s_comparison s = c_made (λ x. tree.compare s (unwrap_or x.0 operators.Equal) x.1)
    (seq (s_maybe s_operator) (s_passing (matches.is_range_for s) s_range))

s_words : Clean matches.words
unfolding matches.words
s_words = clean (s_separated (s_mark _) s_word)

s_bits : (field : BitField) (s : Selector) → Clean (matches.bits field s)
unfolding matches.bits
s_bits field s = c_made _ (seq (s_maybe s_equality) (s_passing _ s_words))

s_flag : Clean matches.flag
unfolding matches.flag
s_flag = either_sound (c_made tree.flag_word s_word) (c_made tree.flag_number s_number)

s_flags : Clean matches.flags
unfolding matches.flags
s_flags = s_passing _ (clean (s_separated (either_sound (s_mark _) (s_mark _)) s_flag))

s_flag_group : Clean matches.flag_group
unfolding matches.flag_group
s_flag_group = either_sound s_flags (snd (s_mark _) (fst s_flags (s_mark _)))

s_flag_list : Clean matches.flag_list
unfolding matches.flag_list
s_flag_list = c_named (λ x. matches.flag_match x.0 x.1.0 x.1.1) (seq (s_maybe s_equality) (seq s_flags (s_maybe (snd (s_mark _) s_flags))))

s_masked : Clean matches.masked
unfolding matches.masked
s_masked = c_made (λ x. matches.masked_by x.1.0 x.0 x.1.1) (snd (s_mark _) (seq s_flag_group (seq s_equality s_flag_group)))

s_one_test : (s : Selector) → Clean (matches.one_test s)
unfolding matches.one_test
s_one_test selectors.CtState = s_bits bit_fields.State selectors.CtState
s_one_test selectors.CtStatus = s_bits bit_fields.Status selectors.CtStatus
s_one_test selectors.TcpFlags = either_sound s_flag_list s_masked
s_one_test s = s_comparison s

s_direct : (ss : List Selector) → Clean (matches.direct ss)
s_direct [] = s_one_of []
s_direct (s ∷ []) = s_one_test s
s_direct (s ∷ t ∷ ss) = s_one_of []

s_set_test : (ss : List Selector) → Clean (matches.set_test ss)
unfolding matches.set_test
s_set_test ss = c_made (λ x. cond (unwrap_or x.0 true) (tree.is_in ss x.1) (tree.not_in ss x.1)) (seq (s_maybe s_equality) s_set_ref)

s_matching : Clean matches.matching
unfolding matches.matching
s_matching = record {
  sound = λ m from to g s.
      (either_sound (s_set_test s.0) (s_direct s.0)).sound m s.1 to (s_selectors.sound s.0 from s.1 g s.2).1 s.3;
}

s_lookup : Sound (λ (l : MapLookupTree). RefFits l.map) rules.map_lookup
unfolding rules.map_lookup
s_lookup = s_made (λ x. record { selector = x.0; map = x.1 }) (λ x h. h.1) (seq s_selector (snd (s_keyword _) s_map_ref))

s_operand : Clean rules.operand
unfolding rules.operand
s_operand = either_sound (c_made tree.constant s_number) (c_named _ (seq s_selector (s_maybe (snd (s_keyword _) s_map_ref))))

s_ports : Clean rules.ports
unfolding rules.ports
s_ports = c_made _ (seq s_number (s_maybe (snd (s_mark _) s_number)))

s_to : Clean rules.to_word
unfolding rules.to_word
s_to = either_sound (s_keyword _) (snd (s_keyword _) (s_keyword _))

s_source : Sound (λ t. NatFits (tree.source t)) (rules.target tree.source_address tree.source_lookup rules.ports)
s_source = either_sound (s_made (λ x. tree.source_address x.0 x.1) (λ x h. h.0) (seq s_address (s_maybe (snd (s_mark _) s_ports))))
    (s_made tree.source_lookup (λ x h. h) s_lookup)

s_destination : Sound (λ t. NatFits (tree.destination t)) (rules.target tree.destination_address tree.destination_lookup a_number)
s_destination = either_sound (s_made (λ x. tree.destination_address x.0 x.1) (λ x h. h.0) (seq s_address (s_maybe (snd (s_mark _) s_number))))
    (s_made tree.destination_lookup (λ x h. h) s_lookup)

s_nat : Sound NatFits rules.nat
unfolding rules.nat
s_nat = either_sound (s_made tree.source (λ x h. h) (snd (s_keyword _) (snd s_to s_source)))
    (either_sound (s_made tree.destination (λ x h. h) (snd (s_keyword _) (snd s_to s_destination)))
    (either_sound (s_made tree.masquerade (λ x h. tt) (snd (s_keyword _) (s_maybe (snd (s_keyword _) (snd (s_mark _) s_ports)))))
    (s_made tree.redirect (λ x h. tt) (snd (s_keyword _) (s_maybe (snd (s_keyword _) (snd (s_mark _) s_number)))))))

abbrev start : ℕ × ℕ → CounterStart
start x = record { packets = x.0; bytes = x.1 }

s_counter : Sound StatementFits rules.counter
unfolding rules.counter
s_counter = s_made tree.counter (λ x h. tt) (snd (s_keyword _) (s_maybe (c_made (λ (x : ℕ × ℕ). start x)
    (snd (s_keyword _) (seq s_number (snd (s_keyword _) s_number))))))

s_log : Sound StatementFits rules.log
unfolding rules.log
s_log = s_made tree.log (λ x h. tt) (snd (s_keyword _) (s_maybe (snd (s_keyword _) s_string)))

s_notrack : Sound StatementFits rules.notrack
unfolding rules.notrack
s_notrack = s_made (λ u. tree.notrack) (λ x h. tt) (s_keyword _)

set_mark_fits : (o : Option MarkField) (x : OperandTree) (s : Statement) → option_map (λ m. tree.set_mark m x) o ≡ Some s → StatementFits s
set_mark_fits None x s e = absurd cc
set_mark_fits (Some m) x s e = subst StatementFits (same_Some _ _ e) tt

s_set_mark : Sound StatementFits rules.set_mark
unfolding rules.set_mark
s_set_mark = s_named (λ x. option_map (λ m. tree.set_mark m x.1) (rules.mark_field x.0)) (λ x y e h. set_mark_fits (rules.mark_field x.0) x.1 y e)
    (seq s_selector (snd (s_keyword _) s_operand))

s_verdict_map : Sound StatementFits rules.verdict_map
unfolding rules.verdict_map
s_verdict_map = s_made (λ x. tree.verdict_map x.0 x.1) (λ x h. tt) (seq s_selector (snd (s_keyword _) s_map_ref))

s_statement : Sound StatementFits rules.statement
unfolding rules.statement
s_statement = either_sound s_counter (either_sound s_log (either_sound s_notrack (either_sound (s_made tree.verdict (λ x h. tt) s_verdict)
    (either_sound (s_made tree.nat (λ x h. h) s_nat) (either_sound s_set_mark (either_sound s_verdict_map
    (s_made tree.matching (λ x h. tt) s_matching)))))))

abbrev RuleFits : RuleTree → Type 0
RuleFits r = Every StatementFits r.statements

s_rule : Sound RuleFits rules.rule
unfolding rules.rule
s_rule = s_made (λ x. record { statements = x.0 ∷ x.1.0; comment = x.1.1 }) (λ x h. (h.0, h.1.0)) (seq s_statement (seq (s_many s_statement) s_comment))

s_ended_rule : Sound RuleFits rules.ended_rule
unfolding rules.ended_rule
s_ended_rule = record { sound = λ x from to g s. s_rule.sound x from to g s.0 }

-- ---- chains

s_chain_comment : Clean chains.comment
unfolding chains.comment
s_chain_comment = snd (s_keyword _) s_string

s_note : Clean chains.note
unfolding chains.note
s_note = fst s_chain_comment s_some_ends

s_offset : Clean chains.offset
unfolding chains.offset
s_offset = clean (seq (either_sound (c_made (λ u. signs.Plus) (s_mark _)) (c_made (λ u. signs.Minus) (s_mark _))) s_number)

s_priority : Clean chains.priority
unfolding chains.priority
s_priority = either_sound (c_made (priorities.Number signs.Plus) s_number) (either_sound (c_made (priorities.Number signs.Minus) (snd (s_mark _) s_number))
    (c_made chains.named_priority (seq (s_one_of chains.priority_words) (s_maybe s_offset))))

s_policy : Clean chains.policy
unfolding chains.policy
s_policy = snd (s_keyword _) (fst (s_one_of ((codes "accept", policies.Accept) ∷ (codes "drop", policies.Drop) ∷ [])) s_some_ends)

s_head : Clean chains.head
unfolding chains.head
s_head = c_made _ (snd (s_keyword _) (seq (s_one_of ((codes "filter", chain_kinds.Filter) ∷ (codes "nat", chain_kinds.Nat) ∷ []))
    (snd (s_keyword _) (seq (s_one_of chains.hook_names) (snd (s_keyword _) (seq s_priority
    (snd s_some_ends (seq (s_maybe s_policy) (s_many s_note)))))))))

rules_fit : (o : Option (List RuleTree)) → IfSome o (Every RuleFits) → Every RuleFits (unwrap_or o [])
rules_fit None h = tt
rules_fit (Some rs) h = h

s_rules : Sound (Every RuleFits) chains.rules
unfolding chains.rules
s_rules = s_made (λ rs. unwrap_or rs []) rules_fit (s_maybe (s_lines s_ended_rule))

s_chain : Sound (λ c. ItemFits (tree.chain c)) chains.chain
unfolding chains.chain
s_chain = s_made (λ x. record { name = x.0; notes = x.1.0; head = x.1.1.0; rules = x.1.1.1 }) (λ x h. h.1.1.1)
    (snd (s_keyword _) (seq s_word (snd (s_mark _) (snd s_ends (seq (s_many s_note) (seq (s_maybe s_head) (fst s_rules (s_mark _))))))))

-- ---- sets and maps

module _ {K E : Type 0} (P : E → Type 0) where
  abbrev FieldFits : Field K E → Type 0
  FieldFits (sets.elements es) = P es
  FieldFits _ = Unit {0}

  abbrev ValuesFit : FieldValues K E → Type 0
  ValuesFit (k, fs, n, merge, text, es) = IfSome es P

  with_field_fits : (f : Field K E) (all after : FieldValues K E) → with_field f all ≡ Some after → FieldFits f → ValuesFit all → ValuesFit after
  with_field_fits (sets.key k) (None, fs, n, merge, text, es) after e h w = subst ValuesFit (same_Some _ _ e) w
  with_field_fits (sets.key k) (Some x, fs, n, merge, text, es) after e h w = absurd cc
  with_field_fits (sets.flags fs) (k, None, n, merge, text, es) after e h w = subst ValuesFit (same_Some _ _ e) w
  with_field_fits (sets.flags fs) (k, Some x, n, merge, text, es) after e h w = absurd cc
  with_field_fits (sets.size n) (k, fs, None, merge, text, es) after e h w = subst ValuesFit (same_Some _ _ e) w
  with_field_fits (sets.size n) (k, fs, Some x, merge, text, es) after e h w = absurd cc
  with_field_fits sets.auto_merge (k, fs, n, false, text, es) after e h w = subst ValuesFit (same_Some _ _ e) w
  with_field_fits sets.auto_merge (k, fs, n, true, text, es) after e h w = absurd cc
  with_field_fits (sets.comment text) (k, fs, n, merge, None, es) after e h w = subst ValuesFit (same_Some _ _ e) w
  with_field_fits (sets.comment text) (k, fs, n, merge, Some x, es) after e h w = absurd cc
  with_field_fits (sets.elements es) (k, fs, n, merge, text, None) after e h w = subst ValuesFit (same_Some _ _ e) h
  with_field_fits (sets.elements es) (k, fs, n, merge, text, Some x) after e h w = absurd cc

  with_fields_fit : (fs : List (Field K E)) (all after : FieldValues K E) → with_fields fs all ≡ Some after → Every FieldFits fs → ValuesFit all
      → ValuesFit after
  with_fields_fit [] all after e h w = subst ValuesFit (same_Some _ _ e) w
  with_fields_fit (f ∷ fs) all after e h w = option_and_then_some (with_fields fs) (with_field f all) after e
      (λ next x y. with_fields_fit fs next after y h.1 (with_field_fits f all next x h.0 w))

  s_field : {k : Grammar K} {e : Grammar E} → Clean k → Sound P e → Sound FieldFits (sets.any_field k e)
  unfolding sets.any_field sets.other_field sets.set_flags
  s_field hk he = either_sound (s_made sets.key (λ x h. tt) hk)
      (either_sound (s_made sets.flags (λ x h. tt) (snd (s_keyword _) (s_separated (s_mark _)
      (s_one_of ((codes "constant", Constant) ∷ (codes "interval", Interval) ∷ [])))))
      (either_sound (s_made sets.size (λ x h. tt) (snd (s_keyword _) s_number))
      (either_sound (s_made (λ u. sets.auto_merge) (λ x h. tt) (s_keyword _))
      (either_sound (s_made sets.comment (λ x h. tt) (snd (s_keyword _) s_string))
      (s_made sets.elements (λ x h. h) (snd (s_keyword _) (snd (s_mark _) (snd (s_mark _) (fst he (s_mark _))))))))))

  s_block : {k : Grammar K} {e : Grammar E} → Clean k → Sound P e → Sound (λ (x : tree.Text × FieldValues K E). Unit {0} × ValuesFit x.1) (sets.block k e)
  unfolding sets.block
  s_block hk he = seq s_word (s_named collect_fields (λ fs all e h. with_fields_fit fs (None, None, None, false, None, None) all e h tt)
      (snd (s_mark _) (snd s_ends (fst (s_lines (s_field hk he)) (s_mark _)))))

s_value_type : Clean sets.value_type
unfolding sets.value_type
s_value_type = c_named _ s_word

s_value_types : Clean sets.value_types
unfolding sets.value_types
s_value_types = clean (s_separated (s_mark _) s_value_type)

s_set_type : Clean sets.set_type
unfolding sets.set_type
s_set_type = either_sound (snd (s_keyword _) (c_made tree.types s_value_types)) (snd (s_keyword _) (c_made tree.selectors s_selectors))

s_data_type : Clean sets.data_type
unfolding sets.data_type
s_data_type = c_named _ s_word

s_data_selector : Clean sets.data_selector
unfolding sets.data_selector
s_data_selector = either_sound (c_made _ s_selector) (c_made _ (s_keyword _))

s_map_type : Clean sets.map_type
unfolding sets.map_type
s_map_type = either_sound (c_made _ (snd (s_keyword _) (seq s_value_type (snd (s_mark _) s_data_type))))
    (c_made _ (snd (s_keyword _) (seq s_selector (snd (s_mark _) s_data_selector))))

s_set : Clean sets.named_set
unfolding sets.named_set
s_set = c_named set_of (snd (s_keyword _) (s_block (λ es. Unit {0}) s_set_type s_elements))

some_pairs : (es : Option (List PairTree)) → IfSome es PairsFit → PairsFit (some_of es)
some_pairs None h = tt
some_pairs (Some ps) h = h

map_is : (x : tree.Text × FieldValues MapType (List PairTree)) (m : MapTree) → map_of x ≡ Some m → ValuesFit PairsFit x.1 → ItemFits (tree.map_item m)
map_is (name, (Some k, fs, n, merge, text, es)) m e h = subst (λ (y : MapTree). ItemFits (tree.map_item y)) (same_Some _ _ e) (some_pairs es h)
map_is (name, (None, fs, n, merge, text, es)) m e h = absurd cc

s_map : Sound (λ m. ItemFits (tree.map_item m)) sets.named_map
unfolding sets.named_map
s_map = s_named map_of (λ x m e h. map_is x m e h.1) (snd (s_keyword _) (s_block PairsFit s_map_type s_pairs))

-- ---- tables

s_item : Sound ItemFits rulesets.item
unfolding rulesets.item
s_item = either_sound (s_made tree.comment (λ x h. tt) s_chain_comment) (either_sound (s_made tree.chain (λ x h. h) s_chain)
    (either_sound (s_made tree.set (λ x h. tt) s_set) (s_made tree.map_item (λ x h. h) s_map)))

s_table_name : Clean rulesets.table_name
unfolding rulesets.table_name
s_table_name = record { sound = λ x from to g s. named_sound.sound x from to g s }
  where
    named_sound : Clean {A = Family × tree.Text} (made (λ x. (unwrap_or x.0 Ip, x.1)) (maybe (one_of rulesets.families) ⨾ a_word))
    named_sound = c_made (λ x. (unwrap_or x.0 Ip, x.1)) (seq (s_maybe (s_one_of rulesets.families)) s_word)

abbrev TableFits : TableTree → Type 0
TableFits t = Every ItemFits t.items

s_table : Sound TableFits rulesets.table
unfolding rulesets.table
s_table = s_made (λ x. record { family = x.0.0; name = x.0.1; items = x.1 }) (λ x h. h.1)
    (snd (s_keyword _) (seq s_table_name (snd (s_mark _) (snd s_ends (fst (s_many (fst s_item s_ends)) (s_mark _))))))

s_flush : Clean rulesets.flush
unfolding rulesets.flush
s_flush = snd (s_keyword _) (snd (s_keyword _) s_some_ends)

s_whole : Sound AddressesFit rulesets.whole_ruleset
unfolding rulesets.whole_ruleset
s_whole = snd s_ends (snd (c_made (λ o. tt) (s_maybe s_flush)) (s_many (fst s_table s_ends)))

pub addresses_fit : (rules : List TableTree) (text : List ℕ) → Spells rules text → AddressesFit rules
addresses_fit rules text (tokens, lexed, spelled) = (s_whole.sound rules (terminals_of tokens) [] (text_fits text tokens lexed) spelled).0
