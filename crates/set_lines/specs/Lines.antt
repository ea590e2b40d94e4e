-- Which packets a line lets pass. (own)
use Rattle.std.specs.Prelude.{ℕ, Bool, ◌&&◌, nat_le, List}
use Rattle.std.specs.List.{count_by, list_all, list_any}
use Rattle.packet_sets.specs.declared.fields.Field.{Field}
use Rattle.packet_sets.specs.Sets.{field_value}
use Rattle.set_lines.specs.declared.line.FieldNumbers.{FieldNumbers}
use Rattle.set_lines.specs.declared.line.Line.{Line}
use Rattle.set_lines.specs.declared.line.Numbers.{Numbers}

-- whether a number lies in a range
abbrev pub lies : Numbers → ℕ → Bool
lies range n = nat_le range.low n && nat_le n range.high

-- whether it lies in one of these
unfoldable pub lies_in : List Numbers → ℕ → Bool
lies_in ranges n = list_any (λ range. lies range n) ranges

-- the number that a packet has in a field
abbrev pub number_in : Field → (ℕ → Bool) → ℕ
number_in field packet = field_value field.first field.width packet

-- whether it is one of these
abbrev pub has_number : FieldNumbers → (ℕ → Bool) → Bool
has_number numbers packet = lies_in numbers.ranges.items (number_in numbers.field packet)

-- whether a packet passes a line: each of its fields has one of the line's numbers
unfoldable pub passes : Line → (ℕ → Bool) → Bool
passes line packet = list_all (λ numbers. has_number numbers packet) line.fields.items

-- how many of these lines a packet passes
unfoldable pub passed : List Line → (ℕ → Bool) → ℕ
passed lines packet = count_by (λ line. passes line packet) lines
