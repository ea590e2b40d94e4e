-- The mappings of entries, after one more packet and with one more entry.
use Rattle.std.proofs.Common.{◌≡◌, ℕ, ◌+◌, ◌*◌, ◌≤◌, Bool, true, false, cond, List, [], ◌∷◌, ◌++◌, length, refl, arith}
use Rattle.std.proofs.lemmas.List.{length-append}
use Rattle.std.proofs.lemmas.List.Concat.{flat_map-append}
use Rattle.ip_headers.specs.declared.tuple.Mapping.{Mapping}
use Rattle.conntrack.specs.declared.connection.ConnId.{ConnId}
use Rattle.ip_headers.specs.declared.tuple.Direction.{Direction}
use Rattle.conntrack.specs.declared.connection.Flags.{Flags}
use Rattle.conntrack.specs.declared.connection.ConntrackEntry.{ConntrackEntry}
use Rattle.conntrack.specs.ConntrackEntry.{same_id}
use Rattle.conntrack.specs.TableEntries.{touched, touched_at}
use Rattle.nat_mapping.specs.HeldMappings.{holders_of}
use Rattle.translation.specs.LiveMappings.{listed, mappings_in, mappings_of}
use Rattle.connection_table.proofs.Counts.{holders-append, length-listed}

-- an entry keeps its mappings
module _ (id : ConnId) (direction : Direction) (flags : Flags) (mark now : ℕ) where
  mappings_of-touched : (b : Bool) (h : ConntrackEntry)
      → mappings_of (cond b (touched direction flags mark now h) h) ≡ mappings_of h
  mappings_of-touched true h = refl
  mappings_of-touched false h = refl

  pub mappings_in-touched_at : (held : List ConntrackEntry)
      → mappings_in (touched_at id direction flags mark now held) ≡ mappings_in held
  mappings_in-touched_at [] = refl
  mappings_in-touched_at (h ∷ held) = rw (mappings_of-touched (same_id id h) h, mappings_in-touched_at held)

-- ---- the holders of a mapping

pub holders-first : (m : Mapping) (h : ConntrackEntry) (held : List ConntrackEntry) → holders_of m (mappings_in (h ∷ held))
    ≡ holders_of m (listed h.source) + (holders_of m (listed h.dest) + holders_of m (mappings_in held))
holders-first m h held = grind (arith, holders-append, h.source, h.dest)

pub holders-begun : (m : Mapping) (held : List ConntrackEntry) (h : ConntrackEntry) → holders_of m (mappings_in (held ++ h ∷ []))
    ≡ holders_of m (listed h.dest) + (holders_of m (listed h.source) + holders_of m (mappings_in held))
holders-begun m held h = grind (arith, flat_map-append, holders-append, holders-first)

-- two for each entry at most
pub length-mappings_in : (held : List ConntrackEntry) → length (mappings_in held) ≤ 2 * length held
length-mappings_in [] = omega arith
length-mappings_in (h ∷ held) = grind (arith, length-append, h.source, h.dest, length-listed, (length-mappings_in held))
