-- The confirmation in the code's terms: the connections held before and after.
use Rattle.std.specs.Prelude.{◌≡◌, ℕ, Bool, true, false, IsTrue, List, Result, Ok, Err}
use Rattle.conntrack.specs.declared.connection.ConnId.{ConnId}
use Rattle.conntrack.specs.declared.connection.Flags.{Flags}
use Rattle.conntrack.specs.declared.connection.ConntrackEntry.{ConntrackEntry}
use Rattle.conntrack.specs.declared.belonging.Belonging.{Belonging}
use Rattle.conntrack.specs.declared.belonging.Belonging.TheVariants.{Found}
use Rattle.conntrack.specs.ConntrackEntry.{is_taken}
use Rattle.conntrack.specs.TableEntries.{SlotBounds, has_id, touched_at}
use Rattle.conntrack.specs.Updates.{Confirmation, Unconfirmed, Confirmed, with_begun}
use Rattle.history.specs.declared.outcome.Cause.{Cause}
use Rattle.translation.specs.declared.ct_info.CtInfo.{CtInfo}
use Rattle.translation.specs.declared.ct_info.CtInfo.TheVariants.{Tracked, New, Untracked}
use Rattle.stepping.specs.Lookups.{belonging_of}
use Rattle.stepping.specs.Paths.{PathState}
use Rattle.stepping.specs.Confirmations.{confirmation_by, confirmed}
use Rattle.stepping.specs.steps.Steps.{step_result}

-- the entry that a look-up found, else another one
abbrev pub entry_of : ConnId → Belonging → ConnId
entry_of other (Found found) = found.id
entry_of other _ = other

-- the entry of a packet in this state
abbrev pub entry_in : ConnId → CtInfo → List ConntrackEntry → List ℕ → ConnId
entry_in other Untracked held p = other
entry_in other _ held p = entry_of other (belonging_of held p)

-- its connection is held, or the tuple of the one that it begins is free
abbrev pub CanConfirm : ConnId → CtInfo → List ConntrackEntry → Type 0
CanConfirm entry (Tracked connection) held = IsTrue (has_id entry held)
CanConfirm entry (New new_connection) held = is_taken new_connection.original held ≡ false
CanConfirm entry _ held = Unit {0}

-- ---- the connections held after it

-- after the confirmation of a packet with this state, entry and flags; a new connection gets this id
abbrev pub confirmed_in : ConnId → Flags → ℕ → ConnId → CtInfo → Confirmation → List ConntrackEntry
    → List ConntrackEntry
confirmed_in id flags now entry (Tracked connection) (Confirmed mark reply source dest) held =
    touched_at entry connection.direction flags mark now held
confirmed_in id flags now entry (New new_connection) confirmation held =
    with_begun id (record { tuple = new_connection.original; flags = flags; moment = now }) confirmation held
confirmed_in id flags now entry info confirmation held = held

-- ---- the answer

-- a packet that can't begin its connection isn't confirmed
abbrev pub confirmation_in : Result Bool Cause → CtInfo → ℕ → Confirmation
confirmation_in (Ok begun) info mark = confirmation_by info mark
confirmation_in (Err cause) info mark = Unconfirmed

abbrev pub begun_in : Result Bool Cause → Bool
begun_in (Ok begun) = begun
begun_in (Err cause) = false

-- whether a packet with this state and confirmation begins a connection
abbrev pub begins : CtInfo → Confirmation → Bool
begins (New new_connection) (Confirmed mark reply source dest) = true
begins _ _ = false

-- the answer and the connections held are those of the step, whatever else is known of the packet
pub record Confirms (now : ℕ) (flags : Flags) (entry : ConnId) (info : CtInfo) (mark : ℕ)
    (old new : List ConntrackEntry) (answer : Result Bool Cause) : Type 0 where
  pub id : ConnId
  pub step : (s : PathState) → step_result answer s ≡ confirmed old info s
  pub held : new ≡ confirmed_in id flags now entry info (confirmation_in answer info mark) old
  pub begun : begun_in answer ≡ begins info (confirmation_in answer info mark)

-- how many slots of the table the confirmation of a packet in this state visits at most
abbrev pub confirmation_slots : CtInfo → SlotBounds → ℕ
confirmation_slots (Tracked connection) most = most.touch
confirmation_slots (New new_connection) most = most.begin
confirmation_slots _ most = 0
