-- How far a capture reads ahead (own).
use Rattle.std.specs.Prelude.{ℕ}

-- the size of the buffer: the largest record with its header, so that a full buffer decides the next result
abbrev pub READ_AHEAD : ℕ
READ_AHEAD = 262160
