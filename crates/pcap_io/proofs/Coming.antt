-- The bytes to come, while more are read.
use Rattle.std.proofs.Common.{◌≡◌, ℕ, ◌-◌, ◌<◌, Bool, true, false, cond, List, [], ◌++◌, length, Option}
use Rattle.std.proofs.Common.{Some, None, IfSome, Result, Ok, Err, refl, ap, arith, append_assoc}
use Rattle.std.proofs.Common.{append-nil, length-append}
use Rattle.std.proofs.lemmas.Bool.{false≢true}
use Rattle.std.specs.Io.KnownBytes.{IsAtEnd, Keeps, prepend_known}
use Rattle.pcap_io.specs.declared.fault.CaptureFault.TheVariants.{TornEnd, Magic, Version, LinkType, Malformed, TooMany}
use Rattle.pcap_io.specs.declared.fault.CaptureError.{CaptureError}
use Rattle.pcap_io.specs.declared.fault.CaptureError.TheVariants.{Refused, Device, Memory}
use Rattle.pcap_io.specs.CaptureStates.{CaptureState, NextAnswers}
use Rattle.pcap_io.specs.steps.ReadAhead.{BufferState, FillsBuffer}

-- the same bytes are to come after a read as before it
pub filled : (old new : BufferState) (before after : Option (List ℕ)) → old.ended ≡ false
    → FillsBuffer old new before after
    → Keeps (cond old.ended (Some old.held) (prepend_known old.held before)) (cond new.ended (Some new.held)
    (prepend_known new.held after))
filled old new None after going fills = rw going tt
filled old new (Some x) None going fills = absurd fills.consumed
filled old new (Some x) (Some y) going fills = grind (arith, fills.progress, fills.held, fills.consumed, append_assoc, append-nil)

-- and less of the buffer is free, or the reader has ended
pub less_room : (old new : BufferState) (before after : Option (List ℕ)) → old.ended ≡ false → length old.held < 262160
    → FillsBuffer old new before after
    → cond new.ended 0 (262161 - length new.held) < cond old.ended 0 (262161 - length old.held)
less_room old new before after going room fills = grind (arith, fills.progress, length-append, fills.held)

-- a reader that came to its end has none left
pub ended_only_at_end : (old new : BufferState) (before after : Option (List ℕ)) → FillsBuffer old new before after
    → new.ended ≡ true → IsAtEnd after
ended_only_at_end old new before after fills ended = grind (arith, fills.progress, false≢true)

-- a read that failed took none
pub failed : (old new : BufferState) (before after : Option (List ℕ)) → old.ended ≡ false → new.ended ≡ false
    → new.held ≡ old.held → Keeps before after
    → Keeps (cond old.ended (Some old.held) (prepend_known old.held before)) (cond new.ended (Some new.held)
    (prepend_known new.held after))
failed old new None after going on is kept = rw going tt
failed old new (Some x) None going on is kept = absurd kept
failed old new (Some x) (Some y) going on is kept = rw (going, on, is, kept) refl

-- what holds of bytes that are known later holds of those known now
pub known : (a b : Option (List ℕ)) (P : List ℕ → Type 0) → Keeps a b → ((bytes : List ℕ) → b ≡ Some bytes → P bytes)
    → IfSome a P
known None b P kept h = tt
known (Some x) None P kept h = absurd kept
known (Some x) (Some y) P kept h = h x (ap Some kept)

-- the bytes to come are those that are held, and then others
pub record Behind (ended : Bool) (held : List ℕ) (known_left : Option (List ℕ)) (bytes : List ℕ) : Type 0 where
  pub more : List ℕ
  pub joined : bytes ≡ held ++ more
  pub none : ended ≡ true → more ≡ []
  pub left : (later : List ℕ) → cond ended (Some later) (prepend_known later known_left) ≡ Some (later ++ more)

pub behind : (ended : Bool) (held : List ℕ) (left : Option (List ℕ)) (bytes : List ℕ)
    → cond ended (Some held) (prepend_known held left) ≡ Some bytes → Behind ended held left bytes
behind true held left bytes is = grind (arith, append-nil)
behind false held None bytes is = cc
behind false held (Some y) bytes is = grind (arith, false≢true)

-- ---- what `next` says names the capture before it by three parts alone

pub next_from : (bytes : List ℕ) (after : Option (List ℕ)) (a b new : CaptureState) (r : Result Bool CaptureError)
    → a.format ≡ b.format → a.count ≡ b.count → a.latest ≡ b.latest → NextAnswers bytes after a new r
    → NextAnswers bytes after b new r
next_from bytes after a b new (Ok true) f n l next_answers = grind arith
next_from bytes after a b new (Ok false) f n l next_answers = next_answers
next_from bytes after a b new (Err (Refused TornEnd)) f n l next_answers = rw (← f, ← n) next_answers
next_from bytes after a b new (Err (Refused Malformed)) f n l next_answers = rw (← f, ← n) next_answers
next_from bytes after a b new (Err (Refused TooMany)) f n l next_answers = rw (← n) next_answers
next_from bytes after a b new (Err (Refused Magic)) f n l next_answers = next_answers
next_from bytes after a b new (Err (Refused Version)) f n l next_answers = next_answers
next_from bytes after a b new (Err (Refused LinkType)) f n l next_answers = next_answers
next_from bytes after a b new (Err Device) f n l next_answers = next_answers
next_from bytes after a b new (Err Memory) f n l next_answers = next_answers
