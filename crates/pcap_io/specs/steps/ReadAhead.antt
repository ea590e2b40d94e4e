-- The state of a read buffer.
use Rattle.std.specs.Prelude.{◌≡◌, ◌-◌, ◌<◌, ◌⊎◌, ℕ, Bool, true, false, List, [], ◌++◌, length, drop}
use Rattle.std.specs.Prelude.{Option}
use Rattle.std.specs.Io.KnownBytes.{Consumes, IsAtEnd}

-- the bytes taken last that are still there, those not taken yet, and whether the reader has ended
pub record BufferState : Type 0 where
  pub taken : List ℕ
  pub held : List ℕ
  pub ended : Bool

-- the last of some bytes
abbrev pub last_of : ℕ → List ℕ → List ℕ
last_of n bytes = drop (length bytes - n) bytes

-- the reader gave more bytes, or has ended
pub record FillsBuffer (old new : BufferState) (before after : Option (List ℕ)) : Type 0 where
  pub more : List ℕ
  pub held : new.held ≡ old.held ++ more
  pub consumed : Consumes before after more
  pub progress : ((new.ended ≡ false) × (0 < length more)) ⊎ ((new.ended ≡ true) × (more ≡ [])
      × IsAtEnd after)
