-- The mappings of connections don't depend on their ids.
use Rattle.std.proofs.Common.{◌≡◌, List, [], ◌∷◌, ◌++◌, map, refl, sym, ap, ◌∙◌}
use Rattle.std.specs.List.{flat_map}
use Rattle.ip_headers.specs.declared.tuple.Mapping.{Mapping}
use Rattle.conntrack.specs.declared.connection.ConntrackEntry.{ConntrackEntry}
use Rattle.conntrack.specs.ConntrackEntry.{without_id}
use Rattle.translation.specs.LiveMappings.{mappings_in, mappings_of}

of_nameless : (held : List ConntrackEntry) → mappings_in held ≡ flat_map mappings_of (map without_id held)
of_nameless [] = refl
of_nameless (h ∷ held) = ap (λ (ms : List Mapping). mappings_of h ++ ms) (of_nameless held)

pub same_mappings : (held others : List ConntrackEntry) → map without_id held ≡ map without_id others
    → mappings_in held ≡ mappings_in others
same_mappings held others same = of_nameless held ∙ ap (flat_map mappings_of) same ∙ sym (of_nameless others)
