-- When a match holds for a packet, operator by operator (nft(8), "Expressions", "TCP header expression",
-- "Conntrack expressions"). If its selector has no value it fails, under every operator.
use Rattle.std.specs.Prelude.{ℕ, ◌==◌, nat_lt, nat_le, bit_and, bit_or, not, Bool, false, List, fold, map, Option}
use Rattle.std.specs.Prelude.{Some, None, unwrap_or}
use Rattle.nft_tree.specs.declared.selector.Selector.{Selector}
use Rattle.nft_tree.specs.declared.selector.Selector.TheVariants as selectors
use Rattle.nft_tree.specs.declared.selector.ValueType.{ValueType}
use Rattle.nft_tree.specs.declared.selector.ValueType.TheVariants as types
use Rattle.nft_tree.specs.declared.statement.Operator.{Operator}
use Rattle.nft_tree.specs.declared.statement.Operator.TheVariants as operators
use Rattle.nft_tree.specs.declared.statement.BitField.{BitField}
use Rattle.nft_tree.specs.declared.statement.BitField.TheVariants as bit_fields
use Rattle.nft_tree.specs.declared.statement.BitTest.{BitTest}
use Rattle.nft_tree.specs.declared.statement.BitTest.TheVariants as bit_tests
use Rattle.nft_tree.specs.Tree as tree
use Rattle.nft_tree.specs.Tree.{Text, FlagTree, MatchTree}
use Rattle.nft_tree.specs.ValueTypes.{words_of, number_in}
use Rattle.nft_tree.specs.ComparedTypes.{selector_compared_type}
use Rattle.nft_values.specs.Values.{Span, numbers_of}
use Rattle.rule_meaning.specs.declared.facts.Facts.{Facts}
use Rattle.rule_meaning.specs.Selectors.{value, joined_value}
use Rattle.rule_meaning.specs.Sets.{Scope, spans, set_has}

-- there is a value, and it passes the test
abbrev pub tests : Option ℕ → (ℕ → Bool) → Bool
tests None test = false
tests (Some n) test = test n

-- ---- a value against a number or a range

abbrev pub compares : Operator → Span → ℕ → Bool
compares operators.Equal span n = spans (Some span) n
compares operators.Unequal span n = not (spans (Some span) n)
compares operators.Below span n = nat_lt n span.low
compares operators.Above span n = nat_lt span.high n
compares operators.AtMost span n = nat_le n span.high
compares operators.AtLeast span n = nat_le span.low n

-- a range that denotes no numbers never matches
abbrev pub compares_with : Operator → Option Span → ℕ → Bool
compares_with o None n = false
compares_with o (Some span) n = compares o span n

-- ---- bits

-- the bitwise or of the numbers
abbrev pub union : List ℕ → ℕ
union = fold bit_or 0

-- the number of the type's symbolic constant
abbrev pub word_number : ValueType → Text → ℕ
word_number t w = unwrap_or (number_in (words_of t) w) 0

abbrev pub bit_selector : BitField → Selector
bit_selector bit_fields.State = selectors.CtState
bit_selector bit_fields.Status = selectors.CtStatus

abbrev pub bit_type : BitField → ValueType
bit_type bit_fields.State = types.CtState
bit_type bit_fields.Status = types.CtStatus

abbrev pub bits_of : BitField → List Text → ℕ
bits_of field words = union (map (word_number (bit_type field)) words)

-- at least one of the bits; exactly these bits; none of them, for `!=` (own)
abbrev pub bits_pass : BitTest → ℕ → ℕ → Bool
bits_pass bit_tests.Any bits n = not (bit_and n bits == 0)
bits_pass bit_tests.Exactly bits n = n == bits
bits_pass bit_tests.None bits n = bit_and n bits == 0

abbrev pub flag_number : FlagTree → ℕ
flag_number (tree.flag_word w) = word_number types.TcpFlag w
flag_number (tree.flag_number n) = n

-- a flag by its word, or bits by their number
abbrev pub flags_of : List FlagTree → ℕ
flags_of fs = union (map flag_number fs)

-- ---- matches

abbrev pub holds : Scope → MatchTree → Facts → Bool
holds scope (tree.compare s o r) f =
    tests (value s f) (compares_with o (numbers_of scope.network (selector_compared_type s) r))
holds scope (tree.is_in ss set) f = tests (joined_value ss f) (set_has scope ss set)
holds scope (tree.not_in ss set) f = tests (joined_value ss f) (λ n. not (set_has scope ss set n))
holds scope (tree.bits field test words) f =
    tests (value (bit_selector field) f) (bits_pass test (bits_of field words))
holds scope (tree.any_flag fs) f =
    tests (value selectors.TcpFlags f) (λ n. not (bit_and n (flags_of fs) == 0))
holds scope (tree.exact_flags fs) f = tests (value selectors.TcpFlags f) (λ n. n == flags_of fs)
-- of the flags in the mask exactly the wanted ones are set
holds scope (tree.masked_flags wanted mask) f =
    tests (value selectors.TcpFlags f) (λ n. bit_and n (flags_of mask) == flags_of wanted)
holds scope (tree.masked_flags_unequal wanted mask) f =
    tests (value selectors.TcpFlags f) (λ n. not (bit_and n (flags_of mask) == flags_of wanted))
