-- The values of each type, and the numbers that they denote (nft(8), "Data types").
use Rattle.std.specs.Prelude.{ℕ, ◌+◌, ◌*◌, ◌-◌, ◌/◌, ◌^◌, ◌==◌, ◌&&◌, ◌||◌, not, nat_lt, nat_le, Bool, true, false}
use Rattle.std.specs.Prelude.{List, [], ◌∷◌, ◌++◌, length, take, replicate, Option, Some, None, unwrap_or, cond}
use Rattle.std.specs.Prelude.{is_some}
use Rattle.std.specs.List.{list_all}
use Rattle.std.specs.Option.{option_map}
use Rattle.nft_tree.specs.Tree as tree
use Rattle.nft_tree.specs.Tree.{Text, ValueTree, RangeTree}
use Rattle.nft_tree.specs.ComparedTypes.{compared_type_width}
use Rattle.nft_tree.specs.ValueTypes.{words_of, number_in}
use Rattle.nft_tree.specs.declared.selector.ValueType.TheVariants as types
use Rattle.nft_tree.specs.declared.compared_types.ComparedType.{ComparedType}
use Rattle.nft_tree.specs.declared.compared_types.ComparedType.TheVariants.{Named, Unnamed}
use Rattle.box_file.specs.Box.{PlantTree, named, name_of}
use Rattle.set_intervals.specs.declared.range.Range.{Range}

-- ---- types

-- every type but ipv4_addr, ifname, ct_state and ct_status takes numbers
abbrev pub takes_numbers : ComparedType → Bool
takes_numbers (Named types.Address) = false
takes_numbers (Named types.InterfaceName) = false
takes_numbers (Named types.CtState) = false
takes_numbers (Named types.CtStatus) = false
takes_numbers _ = true

abbrev pub is_address : ComparedType → Bool
is_address (Named types.Address) = true
is_address _ = false

-- ---- names of interfaces

-- 1 to 15 bytes (IFNAMSIZ with its zero is 16) without a backslash (own: nft(8) escapes with it)
abbrev pub is_plain_name : Text → Bool
is_plain_name n = nat_lt 0 (length n) && nat_lt (length n) 16 && list_all (λ b. not (b == 92)) n

-- what comes before a trailing `*`, if there is one
abbrev pub wildcard_prefix : Text → Option Text
wildcard_prefix [] = None
wildcard_prefix (b ∷ []) = cond (b == 42) (Some []) None
wildcard_prefix (b ∷ c ∷ cs) = option_map (λ rest. b ∷ rest) (wildcard_prefix (c ∷ cs))

-- an interface name, or a prefix of names followed by `*`
abbrev pub is_interface_name : Text → Bool
is_interface_name n = is_plain_name (unwrap_or (wildcard_prefix n) n)

-- ---- values of a type

-- a word or a string as an interface name; for iface_index any text is, whether or not the interface exists
abbrev pub is_name_of : ComparedType → Text → Bool
is_name_of (Named types.InterfaceName) n = is_interface_name n
is_name_of (Named types.InterfaceIndex) n = true
is_name_of _ n = false

-- the word is one of the type's symbolic constants
abbrev pub lists_word : ComparedType → Text → Bool
lists_word (Named t) w = is_some (number_in (words_of t) w)
lists_word (Unnamed width) w = false

abbrev pub is_value : ComparedType → ValueTree → Bool
is_value k (tree.number n) = takes_numbers k && nat_lt n (2 ^ compared_type_width k)
is_value k (tree.address a) = is_address k
is_value k (tree.word w) = is_name_of k w || lists_word k w
is_value k (tree.string s) = is_name_of k s

-- the interface of a value of type iface_index exists on the box; an index has 32 bits
abbrev pub is_on_box : PlantTree → ComparedType → ValueTree → Bool
is_on_box network (Named types.InterfaceIndex) (tree.number n) = nat_lt n (2 ^ 32) && is_some (name_of network n)
is_on_box network (Named types.InterfaceIndex) (tree.word w) = is_some (named network w)
is_on_box network (Named types.InterfaceIndex) (tree.string s) = is_some (named network s)
is_on_box network _ v = true

-- ---- numbers

-- the numbers from low to high, both included
pub record Span : Type 0 where
  pub low : ℕ
  pub high : ℕ

abbrev pub span_of : Range → Span
span_of r = record { low = r.low; high = r.high }

abbrev pub one_number : ℕ → Span
one_number n = record { low = n; high = n }

-- bytes as a big-endian number, after those so far
abbrev pub bytes_number : ℕ → List ℕ → ℕ
bytes_number so_far [] = so_far
bytes_number so_far (b ∷ bs) = bytes_number (so_far * 256 + b) bs

-- the text padded to 16 bytes, as a big-endian number
abbrev pub padded : ℕ → Text → ℕ
padded fill n = bytes_number 0 (take 16 (n ++ replicate 16 fill))

-- a name is padded with zeros; one with a `*` denotes all names with the prefix
abbrev pub name_span : Text → Option Text → Span
name_span n None = one_number (padded 0 n)
name_span n (Some beginning) = record { low = padded 0 beginning; high = padded 255 beginning }

-- the numbers of a word or a string: an interface name, an interface's index, or the type's symbolic constant
abbrev pub text_span : PlantTree → ComparedType → Text → Span
text_span network (Named types.InterfaceName) n = name_span n (wildcard_prefix n)
text_span network (Named types.InterfaceIndex) n = one_number (unwrap_or (named network n) 0)
text_span network (Named t) n = one_number (unwrap_or (number_in (words_of t) n) 0)
text_span network (Unnamed width) n = one_number 0

abbrev pub value_span : PlantTree → ComparedType → ValueTree → Span
value_span network k (tree.number n) = one_number n
value_span network k (tree.address a) = one_number a
value_span network k (tree.word w) = text_span network k w
value_span network k (tree.string s) = text_span network k s

-- ---- ranges and prefixes

-- the addresses that share the first n bits of a
abbrev pub prefix_span : ℕ → ℕ → Span
prefix_span a n =
    record {
      low = a / 2 ^ (32 - n) * 2 ^ (32 - n);
      high = a / 2 ^ (32 - n) * 2 ^ (32 - n) + 2 ^ (32 - n) - 1;
    }

abbrev pub range_span : PlantTree → ComparedType → RangeTree → Span
range_span network k (tree.one v) = value_span network k v
range_span network k (tree.between low high) =
    record { low = (value_span network k low).low; high = (value_span network k high).high }
range_span network k (tree.prefix a n) = prefix_span a n

-- a value of the type; two of them in ascending order; for addresses, a prefix of at most 32 bits
abbrev pub is_range : PlantTree → ComparedType → RangeTree → Bool
is_range network k (tree.one v) = is_value k v
is_range network k (tree.between low high) =
    is_value k low && is_value k high && nat_le (value_span network k low).low (value_span network k high).high
is_range network k (tree.prefix a n) = is_address k && nat_le n 32

abbrev pub is_range_on_box : PlantTree → ComparedType → RangeTree → Bool
is_range_on_box network k (tree.one v) = is_on_box network k v
is_range_on_box network k (tree.between low high) = is_on_box network k low && is_on_box network k high
is_range_on_box network k (tree.prefix a n) = true

-- the value denotes a number: a name of type iface_index only if the box has such an interface
abbrev pub has_number : PlantTree → ComparedType → ValueTree → Bool
has_number network (Named types.InterfaceIndex) (tree.word w) = is_some (named network w)
has_number network (Named types.InterfaceIndex) (tree.string s) = is_some (named network s)
has_number network _ v = true

abbrev pub has_numbers : PlantTree → ComparedType → RangeTree → Bool
has_numbers network k (tree.one v) = has_number network k v
has_numbers network k (tree.between low high) = has_number network k low && has_number network k high
has_numbers network k (tree.prefix a n) = true

-- the numbers that a range denotes, if it is one of the type and denotes any
abbrev pub numbers_of : PlantTree → ComparedType → RangeTree → Option Span
numbers_of network k r = cond (is_range network k r && has_numbers network k r) (Some (range_span network k r)) None
