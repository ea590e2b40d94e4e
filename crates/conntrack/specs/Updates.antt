-- The effect of one packet on a table's entries, and its record in the history (own).
use Rattle.std.specs.Prelude.{◌≡◌, ℕ, false, List, [], ◌∷◌, ◌++◌, Option, Some, None}
use Rattle.ip_headers.specs.declared.tuple.Mapping.{Mapping}
use Rattle.ip_headers.specs.declared.tuple.Tuple.{Tuple}
use Rattle.conntrack.specs.declared.connection.ConnId.{ConnId}
use Rattle.conntrack.specs.declared.connection.Connection.{Connection}
use Rattle.conntrack.specs.declared.connection.Flags.{Flags}
use Rattle.conntrack.specs.declared.connection.ConntrackEntry.{ConntrackEntry}
use Rattle.conntrack.specs.declared.belonging.Belonging.{Belonging}
use Rattle.conntrack.specs.declared.belonging.Belonging.TheVariants.{Ends, Found}
use Rattle.conntrack.specs.Phases.{no_flags}
use Rattle.conntrack.specs.ConntrackEntry.{is_taken, without}
use Rattle.conntrack.specs.TableEntries.{begun_with, touched_at}
use Rattle.conntrack.specs.Histories.{TrackedPacket, ConnectionChange, NoChange, Begins, Touches}

-- a packet that has a tuple, at its moment
pub record Arrival : Type 0 where
  pub tuple : Tuple
  pub flags : Flags
  pub moment : ℕ

-- whether a packet counts as one of its connection, on which it leaves this mark. It counts at the end of
-- its path, so that a dropped packet doesn't. The first packet creates the connection there, with this reply
-- tuple and these mappings, as by netfilter's nf_conntrack_confirm; that a later packet counts there too is
-- (own), since Linux refreshes a connection at the look-up, before any rule after it
pub data Confirmation : Type 0 where
  Unconfirmed : Confirmation
  Confirmed : (mark : ℕ) (reply : Tuple) (source dest : Option Mapping) → Confirmation

-- ---- the entries after a packet with this lookup result

abbrev pub after_end : Belonging → List ConntrackEntry → List ConntrackEntry
after_end (Ends id) held = without id held
after_end other held = held

-- a new entry gets this id
abbrev pub with_begun : ConnId → Arrival → Confirmation → List ConntrackEntry → List ConntrackEntry
with_begun id p Unconfirmed held = held
with_begun id p (Confirmed mark reply source dest) held =
    let connection : Connection = record {
      original = p.tuple;
      reply = reply;
      mark = mark;
      last = p.moment;
      source = source;
      dest = dest;
    } in
    held ++ begun_with id connection p.flags ∷ []

abbrev pub after_packet : Belonging → ConnId → Arrival → Confirmation → List ConntrackEntry
    → List ConntrackEntry
after_packet (Found found) id p Unconfirmed held = held
after_packet (Found found) id p (Confirmed mark reply source dest) held =
    touched_at found.id found.direction p.flags mark p.moment held
after_packet other id p confirmation held = with_begun id p confirmation (after_end other held)

-- a new entry has no incoming tuple of another one
abbrev pub DoesNotClash : Belonging → Confirmation → List ConntrackEntry → Type 0
DoesNotClash (Found found) confirmation held = Unit {0}
DoesNotClash other Unconfirmed held = Unit {0}
DoesNotClash other (Confirmed mark reply source dest) held = is_taken reply (after_end other held) ≡ false

-- ---- the record of a packet with this lookup result

abbrev pub ended_by_packet : Belonging → Option ℕ
ended_by_packet (Ends id) = Some id.0
ended_by_packet other = None

abbrev pub change_of_packet : Belonging → Arrival → Confirmation → ConnectionChange
change_of_packet belonging p Unconfirmed = NoChange
change_of_packet (Found found) p (Confirmed mark reply source dest) = Touches found.id.0 found.direction
change_of_packet other p (Confirmed mark reply source dest) =
    Begins (record { original = p.tuple; reply = reply; source = source; dest = dest })

abbrev pub mark_left : Confirmation → ℕ
mark_left Unconfirmed = 0
mark_left (Confirmed mark reply source dest) = mark

abbrev pub tracked_packet : Belonging → Arrival → Confirmation → TrackedPacket
tracked_packet belonging p confirmation = record {
  moment = p.moment;
  flags = p.flags;
  mark = mark_left confirmation;
  change = change_of_packet belonging p confirmation;
  ended = ended_by_packet belonging;
}

-- the record of something else than a packet with a tuple
abbrev pub entry_at : ℕ → TrackedPacket
entry_at moment = record { moment = moment; flags = no_flags; mark = 0; change = NoChange; ended = None }
