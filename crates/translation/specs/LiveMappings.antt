-- Live mappings: those of live connections.
use Rattle.std.specs.Prelude.{List, [], ◌∷◌, ◌++◌, Option, Some, None}
use Rattle.std.specs.List.{flat_map}
use Rattle.ip_headers.specs.declared.tuple.Mapping.{Mapping}
use Rattle.conntrack.specs.declared.connection.ConntrackEntry.{ConntrackEntry}

abbrev pub listed : {A : Type 0} → Option A → List A
listed None = []
listed (Some x) = x ∷ []

-- those of a connection: its source's, and the one that gave its destination
abbrev pub mappings_of : ConntrackEntry → List Mapping
mappings_of h = listed h.source ++ listed h.dest

-- a mapping lives as long as a connection that began with it (RFC 4787, section 4.3)
abbrev pub mappings_in : List ConntrackEntry → List Mapping
mappings_in live = flat_map mappings_of live
