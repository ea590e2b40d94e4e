-- Named sets and maps (nft(8), "Sets", "Maps"; the EBNF is (own), as in docs/SPEC.md).
use Rattle.std.specs.Prelude.{ℕ, List, [], ◌∷◌, Option, Some, None, option_map, option_and_then, Bool, true, false}
use Rattle.std.specs.Prelude.{cond, codes}
use Rattle.std.specs.Str.{bytes_eq}
use Rattle.nft_lexer.specs.declared.token.Punctuator.TheVariants.{Dot, Comma, Colon, Equals, OpenBrace, CloseBrace}
use Rattle.nft_tree.specs.declared.selector.ValueType.{ValueType}
use Rattle.nft_tree.specs.declared.set.SetFlag.{SetFlag}
use Rattle.nft_tree.specs.declared.set.MapType.{MapType}
use Rattle.nft_tree.specs.declared.set.TypeOrVerdict.{TypeOrVerdict}
use Rattle.nft_tree.specs.declared.set.SelectorOrVerdict.{SelectorOrVerdict}
use Rattle.nft_tree.specs.declared.set.SetFlag.TheVariants.{Constant, Interval}
use Rattle.nft_tree.specs.declared.set.MapType.TheVariants as map_types
use Rattle.nft_tree.specs.declared.set.TypeOrVerdict.TheVariants as types_or_verdicts
use Rattle.nft_tree.specs.declared.set.SelectorOrVerdict.TheVariants as selectors_or_verdicts
use Rattle.nft_tree.specs.Tree as tree
use Rattle.nft_tree.specs.Tree.{Text, SetTypeTree, SetTree, MapTree}
use Rattle.nft_tree.specs.ValueTypes.{type_named}
use Rattle.token_reader.specs.Grammar.{Grammar, keyword, punctuation, a_word, a_number, a_string, ends, made, named, one_of}
use Rattle.token_reader.specs.Grammar.{separated, lines, ◌⨾◌, ◌▹◌, ◌◃◌, ◌∣◌}
use Rattle.nft_expressions.specs.Selectors.{selector, selectors}
use Rattle.nft_expressions.specs.Elements as lists

-- A field of a set or a map: K is the type of its key, E of its elements.
pub data Field (K E : Type 0) : Type 0 where
  key : K → Field K E
  flags : List SetFlag → Field K E
  size : ℕ → Field K E
  auto_merge : Field K E
  comment : Text → Field K E
  elements : E → Field K E

-- The values of the fields: key, flags, size, auto-merge, comment, elements.
abbrev pub FieldValues : Type 0 → Type 0 → Type 0
FieldValues K E = Option K × Option (List SetFlag) × Option ℕ × Bool × Option Text × Option E

-- The values with one more field; none if that field is already there.
abbrev pub with_field : {K E : Type 0} → Field K E → FieldValues K E → Option (FieldValues K E)
with_field (key k) (None, fs, n, merge, text, es) = Some (Some k, fs, n, merge, text, es)
with_field (flags fs) (k, None, n, merge, text, es) = Some (k, Some fs, n, merge, text, es)
with_field (size n) (k, fs, None, merge, text, es) = Some (k, fs, Some n, merge, text, es)
with_field auto_merge (k, fs, n, false, text, es) = Some (k, fs, n, true, text, es)
with_field (comment text) (k, fs, n, merge, None, es) = Some (k, fs, n, merge, Some text, es)
with_field (elements es) (k, fs, n, merge, text, None) = Some (k, fs, n, merge, text, Some es)
with_field f all = None

abbrev pub with_fields : {K E : Type 0} → List (Field K E) → FieldValues K E → Option (FieldValues K E)
with_fields [] all = Some all
with_fields (f ∷ fs) all = option_and_then (with_fields fs) (with_field f all)

-- The values of fields in any order; none if a field is there twice.
abbrev pub collect_fields : {K E : Type 0} → List (Field K E) → Option (FieldValues K E)
collect_fields fs = with_fields fs (None, None, None, false, None, None)

-- The name of a data type.
unfoldable pub value_type : Grammar ValueType
value_type = named type_named a_word

-- TYPE {"." TYPE}
unfoldable pub value_types : Grammar (List ValueType)
value_types = separated (punctuation Dot) value_type

-- "type" TYPE {"." TYPE} | "typeof" keys
unfoldable pub set_type : Grammar SetTypeTree
set_type =
    keyword (codes "type") ▹ made tree.types value_types
    ∣ keyword (codes "typeof") ▹ made tree.selectors selectors

-- TYPE | "verdict"
unfoldable pub data_type : Grammar TypeOrVerdict
data_type =
    named (λ w. cond (bytes_eq w (codes "verdict")) (Some types_or_verdicts.Verdict)
    (option_map types_or_verdicts.Type (type_named w))) a_word

-- anysel | "verdict"
unfoldable pub data_selector : Grammar SelectorOrVerdict
data_selector =
    made selectors_or_verdicts.Selector selector ∣ made (λ u. selectors_or_verdicts.Verdict)
    (keyword (codes "verdict"))

-- "type" TYPE ":" (TYPE | "verdict") | "typeof" anysel ":" (anysel | "verdict")
unfoldable pub map_type : Grammar MapType
map_type =
    made (λ x. map_types.Types x.0 x.1) (keyword (codes "type") ▹ value_type ⨾ punctuation Colon ▹ data_type)
    ∣ made (λ x. map_types.Selectors x.0 x.1)
    (keyword (codes "typeof") ▹ selector ⨾ punctuation Colon ▹ data_selector)

-- "flags" sflag {"," sflag}
unfoldable pub set_flags : Grammar (List SetFlag)
set_flags =
    keyword (codes "flags") ▹ separated (punctuation Comma)
    (one_of ((codes "constant", Constant) ∷ (codes "interval", Interval) ∷ []))

-- A field other than the key.
unfoldable pub other_field : {K E : Type 0} → Grammar E → Grammar (Field K E)
other_field e =
    made flags set_flags
    ∣ made size (keyword (codes "size") ▹ a_number)
    ∣ made (λ u. auto_merge) (keyword (codes "auto-merge"))
    ∣ made comment (keyword (codes "comment") ▹ a_string)
    ∣ made elements (keyword (codes "elements") ▹ punctuation Equals ▹ punctuation OpenBrace ▹ e ◃ punctuation
    CloseBrace)

-- A field, given the productions of its key and its elements.
unfoldable pub any_field : {K E : Type 0} → Grammar K → Grammar E → Grammar (Field K E)
any_field k e = made key k ∣ other_field e

-- NAME "{" {end} field {end {end} field} {end} "}"
unfoldable pub block : {K E : Type 0} → Grammar K → Grammar E → Grammar (Text × FieldValues K E)
block k e = a_word ⨾ named collect_fields
    (punctuation OpenBrace ▹ ends ▹ lines (any_field k e) ◃ punctuation CloseBrace)

-- The set or map of these values, if a key is among them.
abbrev pub set_of : Text × FieldValues SetTypeTree (List tree.ElementTree) → Option SetTree
set_of (name, (Some k, fs, n, merge, text, es)) =
    Some (record {
      name = name;
      key = k;
      flags = fs;
      size = n;
      auto_merge = merge;
      comment = text;
      elements = es;
    })
set_of _ = None

abbrev pub map_of : Text × FieldValues MapType (List tree.PairTree) → Option MapTree
map_of (name, (Some k, fs, n, merge, text, es)) =
    Some (record {
      name = name;
      types = k;
      flags = fs;
      size = n;
      auto_merge = merge;
      comment = text;
      elements = es;
    })
map_of _ = None

-- set = "set" NAME "{" .. "}"
unfoldable pub named_set : Grammar SetTree
named_set = named set_of (keyword (codes "set") ▹ block set_type lists.elements)

-- map = "map" NAME "{" .. "}"
unfoldable pub named_map : Grammar MapTree
named_map = named map_of (keyword (codes "map") ▹ block map_type lists.pairs)
