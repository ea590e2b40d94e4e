-- An engine's connections and its time, after records.
use Rattle.stepping.proofs.Names.{Arrival, Belonging, Cause, Confirmation, ConnId, ConntrackEntry, Entry, Err, Event, EventsAndTicks, HasProcessed}
use Rattle.stepping.proofs.Names.{IsBeforeFirst, IsNoneLater, Limits, List, Ok, Option, ReceivedPacket, Result, Setup, Tuple, [], after_packet, arith}
use Rattle.stepping.proofs.Names.{belonging_of, confirmation_of, held_by, live_at, moment_of, newest_in, newest_of, tuple_in, ℕ, ◌∷◌, ◌≡◌, ◌≤◌}
use Rattle.stepping.specs.declared.process.RecordResult.{RecordResult}

-- removals make no connection later
none_later-live : (limits : Limits) (now at : ℕ) (held : List ConntrackEntry) → IsNoneLater now held
    → IsNoneLater now (live_at limits at held)
none_later-live limits now at [] h = tt
none_later-live limits now at (x ∷ held) h = grind (arith, none_later-live limits now at held)

-- nor does the time that passes
pub none_later-aged : ((held : List ConntrackEntry) (now later : ℕ) → now ≤ later → IsNoneLater now held
    → IsNoneLater later held)
    → (limits : Limits) (latest now : ℕ) (held aged : List ConntrackEntry) → aged ≡ live_at limits now held
    → latest ≤ now → IsNoneLater latest held → IsNoneLater now aged
none_later-aged law limits latest now held aged is le h =
    rw is (none_later-live limits now now held (law held latest now le h))

-- nor does a record
pub none_later-processed : ((held : List ConntrackEntry) (belonging : Belonging) (id : ConnId) (p : Arrival)
    (confirmation : Confirmation) → IsNoneLater p.moment held
    → IsNoneLater p.moment (after_packet belonging id p confirmation held))
    → (setup : Setup) (arrived : Result ReceivedPacket Cause) (now : ℕ) (held new : List ConntrackEntry)
    (ended : RecordResult) (events : List Event) (packet : List ℕ)
    → HasProcessed setup arrived now held new ended events packet → IsNoneLater now held → IsNoneLater now new
none_later-processed law setup (Err cause) now held new ended events packet has h = rw has.0 h
none_later-processed law setup (Ok a) now held new ended events packet has h =
    let after : (key : Option Tuple) → IsNoneLater now (held_by now has.follows.id a.packet key (confirmation_of has.r) held) =
    λ key. grind (arith, law held (belonging_of held a.packet) has.follows.id) in
    rw has.follows.held (after (tuple_in a.packet has.r))

-- an engine's time is the history's
pub latest_is : (ended : Option RecordResult) (latest : ℕ) (told : EventsAndTicks) (packet : List ℕ)
    (held : List ConntrackEntry) (history : List Entry) → IsBeforeFirst ended latest packet held
    → newest_in ended latest told packet ≡ newest_of history → latest ≡ moment_of history
latest_is ended latest told packet held history first is = grind arith
