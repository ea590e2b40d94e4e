-- Big-endian numbers in bytes, network byte order (RFC 791, appendix B).
use Rattle.std.specs.Prelude.{ℕ, ◌+◌, ◌*◌, ◌/◌, ◌%◌, List, slice_index, slice_set}

-- the 8, 16 and 32 bits at an offset
abbrev pub byte_at : List ℕ → ℕ → ℕ
byte_at bytes i = slice_index bytes i

abbrev pub u16_at : List ℕ → ℕ → ℕ
u16_at bytes i = slice_index bytes i * 256 + slice_index bytes (i + 1)

abbrev pub u32_at : List ℕ → ℕ → ℕ
u32_at bytes i = u16_at bytes i * 65536 + u16_at bytes (i + 2)

-- the bytes with 16 and with 32 bits written at an offset
abbrev pub with_u16 : List ℕ → ℕ → ℕ → List ℕ
with_u16 bytes i word = slice_set (slice_set bytes i (word / 256)) (i + 1) (word % 256)

abbrev pub with_u32 : List ℕ → ℕ → ℕ → List ℕ
with_u32 bytes i number = with_u16 (with_u16 bytes i (number / 65536)) (i + 2) (number % 65536)
