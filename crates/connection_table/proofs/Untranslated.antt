-- A packet that isn't translated yet needs no mapping.
use Rattle.std.proofs.Common.{Bool, List, false, true, if◌then◌else◌}
use Rattle.ip_headers.specs.declared.tuple.Mapping.{Mapping}
use Rattle.ip_headers.specs.declared.tuple.Tuple.{Tuple}
use Rattle.conntrack.specs.declared.belonging.Belonging.{Belonging}
use Rattle.conntrack.specs.declared.belonging.Belonging.TheVariants.{NotFound, Ends, Found}
use Rattle.conntrack.specs.ConntrackEntry.{may_begin}
use Rattle.nat_mapping.specs.HeldMappings.{IsOneToOne}
use Rattle.translation.specs.Fitting.{Fits, IsFitting}
use Rattle.translation.specs.CtInfos.{new_connection_of, ct_info_by}
use Rattle.translation.specs.declared.ct_info.CtInfo.TheVariants.{New, Invalid}

no_destination : (tuple : Tuple) (mappings : List Mapping) → IsOneToOne mappings → IsFitting (new_connection_of tuple) mappings
no_destination tuple mappings one = record { one = one; among = λ m none. cc }

first_fits : (begins : Bool) (tuple : Tuple) (mappings : List Mapping) → IsOneToOne mappings
    → Fits (if begins then New (new_connection_of tuple) else Invalid) mappings
first_fits true tuple mappings one = no_destination tuple mappings one
first_fits false tuple mappings one = tt

pub untranslated_fits : (tuple : Tuple) (belonging : Belonging) (mappings : List Mapping) → IsOneToOne mappings
    → Fits (ct_info_by tuple belonging) mappings
untranslated_fits tuple (Found found) mappings one = tt
untranslated_fits tuple NotFound mappings one = first_fits (may_begin tuple.kind) tuple mappings one
untranslated_fits tuple (Ends id) mappings one = first_fits (may_begin tuple.kind) tuple mappings one
