-- Bytes that are buffered before a writer.
use Rattle.std.specs.Prelude.{ℕ, List}

-- the state of a sink: the bytes not yet written
pub record SinkState : Type 0 where
  pub buffered : List ℕ

-- the size of a sink's buffer
abbrev pub WRITE_BUFFER_BYTES : ℕ
WRITE_BUFFER_BYTES = 131072
