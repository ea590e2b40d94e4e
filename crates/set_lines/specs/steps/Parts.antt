-- How a set parts by the number in a field.
use Rattle.std.specs.Prelude.{◌≡◌, ℕ, ◌+◌, ◌^◌, ◌<◌, ◌≤◌, Bool, true, cond, List, All, length, slice_index_or}
use Rattle.std.specs.List.{count_by}
use Rattle.packet_sets.specs.Sets.{DiagramsView, IsSet, holds}
use Rattle.packet_sets.specs.declared.fields.Field.{Field}
use Rattle.packet_sets.specs.declared.packet_set.PacketSet.{PacketSet}
use Rattle.set_lines.specs.Lines.{lies, lies_in, number_in, passed}
use Rattle.set_lines.specs.declared.halves.Halves.{Halves}
use Rattle.set_lines.specs.declared.line.Lines.{Lines}
use Rattle.set_lines.specs.declared.pieces.Piece.{Piece}
use Rattle.set_lines.specs.declared.ways.Way.{Way}

-- where packets go on by the first bit of a field
pub record AreHalves (d : DiagramsView) (set : PacketSet) (field : Field) (halves : Halves) : Type 0 where
  pub wide : 0 < field.width
  pub early : field.first + 1 < 2 ^ 32
  pub low : IsSet d halves.low
  pub high : IsSet d halves.high
  pub same : (packet : ℕ → Bool) → holds d set packet
      ≡ cond (packet field.first) (holds d halves.high packet) (holds d halves.low packet)

-- packets whose number in the field, counted from `start`, lies in the piece are in the set where they are in
-- the piece's
pub record IsPiece (d : DiagramsView) (set : PacketSet) (field : Field) (start : ℕ) (piece : Piece)
    : Type 0 where
  pub is_set : IsSet d piece.rest
  pub above : start ≤ piece.numbers.low
  pub below : piece.numbers.high < start + 2 ^ field.width
  pub same : (packet : ℕ → Bool) → lies piece.numbers (start + number_in field packet) ≡ true
      → holds d set packet ≡ holds d piece.rest packet

-- how many of the pieces have a number
unfoldable pub pieces_with : List Piece → ℕ → ℕ
pieces_with pieces n = count_by (λ piece. lies piece.numbers n) pieces

-- the pieces of a set by a field: each number has one
pub record ArePieces (d : DiagramsView) (set : PacketSet) (field : Field) (start : ℕ) (pieces : List Piece)
    : Type 0 where
  pub each : All (IsPiece d set field start) pieces
  pub once : (packet : ℕ → Bool) → pieces_with pieces (start + number_in field packet) ≡ 1

-- packets with one of the way's numbers in the field are in the set where they are in the way's
pub record IsWay (d : DiagramsView) (set : PacketSet) (field : Field) (way : Way) : Type 0 where
  pub is_set : IsSet d way.rest
  pub same : (packet : ℕ → Bool) → lies_in way.ranges.items (number_in field packet) ≡ true
      → holds d set packet ≡ holds d way.rest packet

-- how many of the ways have a number
unfoldable pub ways_with : List Way → ℕ → ℕ
ways_with ways n = count_by (λ way. lies_in way.ranges.items n) ways

-- the ways of a set by a field: each number has one
pub record AreWays (d : DiagramsView) (set : PacketSet) (field : Field) (ways : List Way) : Type 0 where
  pub each : All (IsWay d set field) ways
  pub once : (packet : ℕ → Bool) → ways_with ways (number_in field packet) ≡ 1

-- the way at a place leads to the set
pub record IsPlace (ways : List Way) (rest : PacketSet) (place : ℕ) : Type 0 where
  pub below : place < length ways
  pub leads : (d : Way) → (slice_index_or ways place d).rest ≡ rest

-- a number has a way more at most, and has one where the piece has it
pub record IsAdded (old new : List Way) (piece : Piece) (n : ℕ) : Type 0 where
  pub most : ways_with new n ≤ ways_with old n + cond (lies piece.numbers n) 1 0
  pub least : ways_with old n ≤ ways_with new n
  pub here : cond (lies piece.numbers n) 1 0 ≤ ways_with new n

-- lines of a set that packets of the set pass so often, and others never
pub record AreLines (d : DiagramsView) (set : PacketSet) (times : (ℕ → Bool) → ℕ) (found : Lines)
    : Type 0 where
  pub most : (packet : ℕ → Bool) → passed found.lines.items packet ≤ cond (holds d set packet) (times packet) 0
  pub whole : found.more ≡ 0 → (packet : ℕ → Bool)
      → passed found.lines.items packet ≡ cond (holds d set packet) (times packet) 0

-- the ways of some pieces: each number has one where it has a piece, and no more than it has pieces
pub record AreWaysOf (d : DiagramsView) (set : PacketSet) (field : Field) (pieces : List Piece) (ways : List Way)
    : Type 0 where
  pub each : All (IsWay d set field) ways
  pub most : (n : ℕ) → ways_with ways n ≤ pieces_with pieces n
  pub some : (n : ℕ) → 0 < pieces_with pieces n → 0 < ways_with ways n
