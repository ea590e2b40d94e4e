-- Ids below a bound, and what an entry is sought by.
use Rattle.std.specs.Prelude.{ℕ, nat_lt, not, ◌&&◌, Bool, List, if◌then◌else◌}
use Rattle.std.specs.List.{list_all}
use Rattle.ip_headers.specs.declared.tuple.Tuple.{Tuple}
use Rattle.ip_headers.specs.Same.{same_tuple}
use Rattle.conntrack.specs.declared.connection.ConntrackEntry.{ConntrackEntry}
use Rattle.ip_headers.specs.declared.tuple.Direction.{Direction}
use Rattle.conntrack.specs.declared.list_tracker.Sought.{Sought}
use Rattle.conntrack.specs.declared.list_tracker.Sought.TheVariants.{Live, Expired, Id, Incoming}
use Rattle.conntrack.specs.ConntrackEntry.{is_incoming, is_live, is_original, same_id}

-- all ids are below a number
abbrev pub has_ids_below : ℕ → List ConntrackEntry → Bool
has_ids_below n held = list_all (λ h. nat_lt h.id.0 n) held

-- whether it is the tuple of an entry's incoming packets in a direction
abbrev pub has_tuple : Tuple → Direction → ConntrackEntry → Bool
has_tuple tuple direction h = same_tuple (if is_original direction then h.original else h.reply) tuple

-- whether an entry is such a one
abbrev pub is_sought : Sought → ConntrackEntry → Bool
is_sought (Live direction tuple limits now) = λ h. is_live limits now h && has_tuple tuple direction h
is_sought (Expired limits now) = λ h. not (is_live limits now h)
is_sought (Id id) = same_id id
is_sought (Incoming tuple) = is_incoming tuple
