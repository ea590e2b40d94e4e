-- Matches (nft(8), "Expressions", "Payload expressions", "Meta expressions", "Conntrack expressions"; the
-- EBNF is (own), as in docs/SPEC.md).
use Rattle.std.specs.Prelude.{List, [], ◌∷◌, ◌++◌, Bool, true, false, cond, ◌&&◌, Option, Some, None, option_map}
use Rattle.std.specs.List.{list_all}
use Rattle.std.specs.Option.{unwrap_or}
use Rattle.nft_lexer.specs.declared.token.Punctuator.TheVariants as punctuators
use Rattle.nft_lexer.specs.Terminal.{Terminal}
use Rattle.nft_tree.specs.declared.selector.Selector.{Selector}
use Rattle.nft_tree.specs.declared.selector.Selector.TheVariants.{TcpFlags, CtState, CtStatus}
use Rattle.nft_tree.specs.declared.statement.Operator.{Operator}
use Rattle.nft_tree.specs.declared.statement.Operator.TheVariants as operators
use Rattle.nft_tree.specs.declared.statement.BitField.{BitField}
use Rattle.nft_tree.specs.declared.statement.BitField.TheVariants.{State, Status}
use Rattle.nft_tree.specs.declared.statement.BitTest.TheVariants as tests
use Rattle.nft_tree.specs.Tree as tree
use Rattle.nft_tree.specs.Tree.{Text, ValueTree, RangeTree, FlagTree, flag_word, flag_number, MatchTree}
use Rattle.token_reader.specs.Grammar.{Grammar, ◌⨾◌, ◌▹◌, ◌◃◌, ◌∣◌, a_number, a_word, made, maybe, named, one_of}
use Rattle.token_reader.specs.Grammar.{passing, separated, punctuation}
use Rattle.list_laws.specs.Options.{◌>>=◌}
use Rattle.token_reader.specs.steps.Reading.{all_at, with_front}
use Rattle.nft_expressions.specs.Selectors.{is_word_for, selector, selectors}
use Rattle.nft_expressions.specs.Elements.{range, set_ref}

-- "==" | "!=": whether it is `==`
unfoldable pub equality : Grammar Bool
equality = made (λ u. true) (punctuation punctuators.EqualTo)
    ∣ made (λ u. false) (punctuation punctuators.NotEqualTo)

-- "<" | ">" | "<=" | ">="
unfoldable pub inequality : Grammar Operator
inequality =
    made (λ u. operators.Below) (punctuation punctuators.Below)
    ∣ made (λ u. operators.Above) (punctuation punctuators.Above)
    ∣ made (λ u. operators.AtMost) (punctuation punctuators.AtMost)
    ∣ made (λ u. operators.AtLeast) (punctuation punctuators.AtLeast)

-- op
unfoldable pub operator : Grammar Operator
operator = made (λ equal. cond equal operators.Equal operators.Unequal) equality ∣ inequality

-- A word that is compared with a selector is a symbolic constant of its data type; any word is an interface's
-- name.
abbrev pub is_value_for : Selector → ValueTree → Bool
is_value_for s (tree.number n) = true
is_value_for s (tree.address a) = true
is_value_for s (tree.word w) = is_word_for s w
is_value_for s (tree.string t) = true

abbrev pub is_range_for : Selector → RangeTree → Bool
is_range_for s (tree.one v) = is_value_for s v
is_range_for s (tree.between low high) = is_value_for s low && is_value_for s high
is_range_for s (tree.prefix a n) = true

-- [op] one; without an operator it is `==`
unfoldable pub comparison : Selector → Grammar MatchTree
comparison s =
    made (λ x. tree.compare s (unwrap_or x.0 operators.Equal) x.1)
    (maybe operator ⨾ passing (is_range_for s) range)

-- WORD {"," WORD}
unfoldable pub words : Grammar (List Text)
words = separated (punctuation punctuators.Comma) a_word

-- bits = ["==" | "!="] WORD {"," WORD}
unfoldable pub bits : BitField → Selector → Grammar MatchTree
bits field s =
    made (λ x. tree.bits field (unwrap_or (option_map (λ equal. cond equal tests.Exactly tests.None) x.0)
    tests.Any)
    x.1) (maybe equality ⨾ passing (list_all (is_word_for s)) words)

abbrev pub is_flag : FlagTree → Bool
is_flag (flag_word w) = is_word_for TcpFlags w
is_flag (flag_number n) = true

-- WORD | NUM
unfoldable pub flag : Grammar FlagTree
flag = made flag_word a_word ∣ made flag_number a_number

-- flags = (WORD | NUM) {("," | "|") (WORD | NUM)}
unfoldable pub flags : Grammar (List FlagTree)
flags = passing (list_all is_flag) (separated (punctuation punctuators.Comma ∣ punctuation punctuators.Bar)
    flag)

-- pflags = flags | "(" flags ")"
unfoldable pub flag_group : Grammar (List FlagTree)
flag_group = flags ∣ punctuation punctuators.OpenParenthesis ▹ flags ◃ punctuation
    punctuators.CloseParenthesis

abbrev pub masked_by : (equal : Bool) (mask wanted : List FlagTree) → MatchTree
masked_by equal mask wanted = cond equal (tree.masked_flags wanted mask)
    (tree.masked_flags_unequal wanted mask)

-- Without a mask there is no `!=`.
abbrev pub flag_match : Option Bool → List FlagTree → Option (List FlagTree) → Option MatchTree
flag_match equal wanted (Some mask) = Some (masked_by (unwrap_or equal true) mask wanted)
flag_match None wanted None = Some (tree.any_flag wanted)
flag_match (Some equal) wanted None = cond equal (Some (tree.exact_flags wanted)) None

-- ["==" | "!="] flags ["/" flags]
unfoldable pub flag_list : Grammar MatchTree
flag_list = named (λ x. flag_match x.0 x.1.0 x.1.1)
    (maybe equality ⨾ flags ⨾ maybe (punctuation punctuators.Slash ▹ flags))

-- "&" pflags ("==" | "!=") pflags
unfoldable pub masked : Grammar MatchTree
masked = made (λ x. masked_by x.1.0 x.0 x.1.1)
    (punctuation punctuators.Ampersand ▹ flag_group ⨾ equality ⨾ flag_group)

-- The tests of one selector.
unfoldable pub one_test : Selector → Grammar MatchTree
one_test CtState = bits State CtState
one_test CtStatus = bits Status CtStatus
one_test TcpFlags = flag_list ∣ masked
one_test s = comparison s

-- A test that is no set lookup: of exactly one selector.
abbrev pub direct : List Selector → Grammar MatchTree
direct (s ∷ []) = one_test s
direct ss = one_of []

-- ["==" | "!="] setref
unfoldable pub set_test : List Selector → Grammar MatchTree
set_test ss = made (λ x. cond (unwrap_or x.0 true) (tree.is_in ss x.1) (tree.not_in ss x.1))
    (maybe equality ⨾ set_ref)

-- match = keys ["==" | "!="] setref | sel [op] one | "ct" ("state" | "status") bits
-- | "tcp" "flags" (["==" | "!="] flags ["/" flags] | "&" pflags ("==" | "!=") pflags)
unfoldable pub matching : Grammar MatchTree
matching = record {
  spells =
      λ m from to. (ss : List Selector) × (mid : List Terminal) × selectors.spells ss from mid
      × (set_test ss ∣ direct ss).spells m mid to;
  read = λ ts. selector.read ts >>= λ s.
      let keys = with_front (s.0 ∷ []) (all_at (punctuation punctuators.Dot ▹ selector).read s.1) in
      (set_test keys.0 ∣ direct keys.0).read keys.1;
  first = selectors.first;
  follow = words.follow ++ ((flag_list ∣ masked).follow ++ (range.follow ++ set_ref.first));
  empty = false;
}
