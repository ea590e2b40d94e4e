-- Parsing a box file from left to right: what the code computes, as functions on lists.
use Rattle.std.specs.Prelude.{ℕ, ◌+◌, ◌*◌, ◌-◌, ◌^◌, ◌%◌, ◌==◌, ◌&&◌, ◌||◌, not, nat_lt, Bool, true, false, List, [], ◌∷◌, length, map, filter, Option, Some}
use Rattle.std.specs.Prelude.{None, unwrap_or, if◌then◌else◌, codes}
use Rattle.std.specs.List.{list_all, position}
use Rattle.std.proofs.Common.{suc, take, drop}
use Rattle.std.specs.Option.{option_map}
use Rattle.std.specs.Str.Parse.{digits_value}
use Rattle.list_laws.specs.Options.{◌>>=◌}
use Rattle.box_file.specs.declared.line.InterfaceLine.{InterfaceLine}
use Rattle.box_file.specs.declared.line.RouteLine.{RouteLine}
use Rattle.box_file.specs.declared.idle_line.IdleLine.{IdleLine}
use Rattle.box_file.specs.declared.idle_line.IdleKind.{IdleKind}
use Rattle.box_file.specs.declared.idle_line.IdleKind.TheVariants as kinds
use Rattle.box_file.specs.declared.line.Line as kept
use Rattle.box_file.specs.declared.line.Line.TheVariants as lines
use Rattle.box_file.specs.Text.{is_blank, is_numeral, is_nonempty, words_of, lines_of}
use Rattle.box_file.specs.Idle.{word_of}
use Rattle.box_file.specs.Box.{Interface, NamedRoute, Idle, Line, interface_line, route_line, default_line, idle_line, is_name_byte, same_text}

-- ---- lines without their borrows

abbrev pub interface_tree : InterfaceLine → Interface
interface_tree i = record { index = i.index; name = i.name.now; address = i.address; prefix = i.prefix }

abbrev pub route_tree : RouteLine → NamedRoute
route_tree r = record { address = r.address; prefix = r.prefix; name = r.name.now }

abbrev pub idle_tree : IdleLine → Idle
idle_tree i = record { kind = i.kind; digits = i.seconds.now }

abbrev pub line_tree : kept.Line → Line
line_tree (lines.Interface i) = interface_line (interface_tree i)
line_tree (lines.Route r) = route_line (route_tree r)
line_tree (lines.Default n) = default_line n.now
line_tree (lines.Idle i) = idle_line (idle_tree i)

-- ---- basic parsers

-- the head and the tail of a list
abbrev pub uncons : {A : Type 0} → List A → Option (A × List A)
uncons [] = None
uncons (x ∷ xs) = Some (x, xs)

abbrev pub has_none : {A : Type 0} → List A → Bool
has_none [] = true
has_none (x ∷ xs) = false

-- the bytes before the first such byte, and those after it
abbrev pub cut : ℕ → List ℕ → Option (List ℕ × List ℕ)
cut at bs = option_map (λ n. (take n bs, drop (suc n) bs)) (position (λ b. b == at) bs)

-- the first line of a text, and the text after it
abbrev pub first_line : List ℕ → List ℕ × List ℕ
first_line bs = unwrap_or (cut 10 bs) (bs, [])

abbrev pub begins_word : ℕ → Bool
begins_word b = not (is_blank b)

abbrev pub ends_word : ℕ → Bool
ends_word b = is_blank b || b == 35

-- ---- numbers, names, addresses

-- the decimal number that the bytes spell, below 2^32
unfoldable pub number_in : List ℕ → Option ℕ
number_in ds =
    if is_numeral ds && nat_lt (digits_value 10 ds) 4294967296 then Some (digits_value 10 ds) else None

abbrev pub is_name : List ℕ → Bool
is_name bs = nat_lt 0 (length bs) && nat_lt (length bs) 16 && list_all is_name_byte bs

unfoldable pub name_in : List ℕ → Option (List ℕ)
name_in bs = if is_name bs then Some bs else None

-- a byte of a dotted address
unfoldable pub octet_in : List ℕ → Option ℕ
octet_in ds = number_in ds >>= λ n. if nat_lt n 256 then Some n else None

unfoldable pub address_in : List ℕ → Option ℕ
address_in bs = do
  a ← cut 46 bs
  b ← cut 46 a.1
  c ← cut 46 b.1
  first ← octet_in a.0
  second ← octet_in b.0
  third ← octet_in c.0
  fourth ← octet_in c.1
  Some (first * 16777216 + second * 65536 + third * 256 + fourth)

-- a prefix in CIDR notation: its address and its length
unfoldable pub prefixed_in : List ℕ → Option (ℕ × ℕ)
prefixed_in bs = do
  a ← cut 47 bs
  address ← address_in a.0
  prefix ← number_in a.1
  if nat_lt prefix 33 then Some (address, prefix) else None

-- ---- lines

-- a line by the words after `interface`
unfoldable pub interface_words : List (List ℕ) → Option Line
interface_words ws = do
  a ← uncons ws
  b ← uncons a.1
  c ← uncons b.1
  index ← number_in a.0
  name ← name_in b.0
  p ← prefixed_in c.0
  if has_none c.1 && nat_lt 0 index && nat_lt index 2147483648 && nat_lt 0 p.1
      then Some (interface_line (record { index = index; name = name; address = p.0; prefix = p.1 }))
      else None

-- a line by the words after `route`
unfoldable pub route_words : List (List ℕ) → Option Line
route_words ws = do
  a ← uncons ws
  b ← uncons a.1
  p ← prefixed_in a.0
  name ← name_in b.0
  if has_none b.1 && p.0 % 2 ^ (32 - p.1) == 0
      then Some (route_line (record { address = p.0; prefix = p.1; name = name }))
      else None

-- a line by the words after `default`
unfoldable pub default_words : List (List ℕ) → Option Line
default_words ws = do
  a ← uncons ws
  name ← name_in a.0
  if has_none a.1 then Some (default_line name) else None

-- the kind with this keyword
abbrev pub kind_in : List ℕ → Option IdleKind
kind_in word =
    if same_text word (word_of kinds.Udp) then Some kinds.Udp
    else (if same_text word (word_of kinds.Established) then Some kinds.Established
    else (if same_text word (word_of kinds.Transitory) then Some kinds.Transitory
    else (if same_text word (word_of kinds.Echo) then Some kinds.Echo
    else (if same_text word (word_of kinds.Other) then Some kinds.Other
    else None))))

-- a line by the words after `idle`
unfoldable pub idle_words : List (List ℕ) → Option Line
idle_words ws = do
  a ← uncons ws
  b ← uncons a.1
  kind ← kind_in a.0
  if has_none b.1 && is_numeral b.0 then Some (idle_line (record { kind = kind; digits = b.0 })) else None

-- a line by its first word and the others
abbrev pub line_of : List ℕ → List (List ℕ) → Option Line
line_of word ws =
    if same_text word (codes "interface") then interface_words ws
    else (if same_text word (codes "route") then route_words ws
    else (if same_text word (codes "default") then default_words ws
    else (if same_text word (codes "idle") then idle_words ws
    else None)))

unfoldable pub line_in : List (List ℕ) → Option Line
line_in ws = uncons ws >>= λ a. line_of a.0 a.1

-- the lines of these lists of words, if each is one
unfoldable pub all_in : List (List (List ℕ)) → Option (List Line)
all_in [] = Some []
all_in (t ∷ ts) = line_in t >>= λ l. all_in ts >>= λ ls. Some (l ∷ ls)

-- the lines of a text
abbrev pub lines_in : List ℕ → Option (List Line)
lines_in text = all_in (filter is_nonempty (map words_of (lines_of text)))
