-- What a `ConnectionTable` shows to its users (own).
use Rattle.std.specs.Prelude.{◌≡◌, ◌+◌, ◌*◌, ℕ, Bool, false, IsTrue, List}
use Rattle.ip_headers.specs.Tuple.{inverse}
use Rattle.ip_headers.specs.declared.tuple.Tuple.{Tuple}
use Rattle.conntrack.specs.declared.belonging.Belonging.{Belonging}
use Rattle.conntrack.specs.declared.belonging.Belonging.TheVariants.{Ends, Found}
use Rattle.conntrack.specs.declared.connection.Connection.{Connection}
use Rattle.conntrack.specs.declared.connection.ConntrackEntry.{ConntrackEntry}
use Rattle.box_file.specs.declared.limits.Limits.{Limits}
use Rattle.conntrack.specs.ConntrackEntry.{is_taken}
use Rattle.conntrack.specs.TableEntries.{SlotBounds, has_id}
use Rattle.translation.specs.declared.ct_info.NewConnection.{NewConnection}

-- its timeouts; its entries in the order of their creation, with expired ones that weren't removed yet; and
-- whether memory for the next connection is reserved. The mappings that it holds follow: those of its
-- entries
pub record Table : Type 0 where
  pub limits : Limits
  pub held : List ConntrackEntry
  pub has_room : Bool

-- a new connection that is created now, with this mark: replies have the inverse of the tuple with which its
-- first packet leaves (netfilter's nf_ct_invert_tuple)
abbrev pub begun_as : NewConnection → ℕ → ℕ → Connection
begun_as new_connection mark now = record {
  original = new_connection.original;
  reply = inverse new_connection.tuple;
  mark = mark;
  last = now;
  source = new_connection.source;
  dest = new_connection.dest;
}

-- the packet can be confirmed: the entry that its lookup found is in the list, or its tuple is free
abbrev pub IsConfirmable : Tuple → Belonging → List ConntrackEntry → Type 0
IsConfirmable tuple (Found found) held = IsTrue (has_id found.id held)
IsConfirmable tuple _ held = is_taken tuple held ≡ false

-- ---- how many slots its tracker visits at most

-- for the look-up of a packet: a closing connection is ended too
abbrev pub look_up_slots : Belonging → SlotBounds → ℕ
look_up_slots (Ends id) most = most.look + most.end
look_up_slots _ most = most.look

-- for so many expired entries, and to see that there is no other
abbrev pub ageing_slots : ℕ → SlotBounds → ℕ
ageing_slots removed most = (removed + 1) * most.age
