-- When a connection may begin with the mappings of its first packet (own).
use Rattle.std.specs.Prelude.{◌≡◌, List, ◌++◌, Some, Contains}
use Rattle.ip_headers.specs.declared.tuple.Mapping.{Mapping}
use Rattle.nat_mapping.specs.HeldMappings.{IsOneToOne}
use Rattle.translation.specs.declared.ct_info.NewConnection.{NewConnection}
use Rattle.translation.specs.declared.ct_info.CtInfo.{CtInfo}
use Rattle.translation.specs.declared.ct_info.CtInfo.TheVariants.{New}
use Rattle.translation.specs.LiveMappings.{listed}

-- the live mappings stay one to one with its source's, and have the one of its destination
pub record IsFitting (new_connection : NewConnection) (mappings : List Mapping) : Type 0 where
  pub one : IsOneToOne (listed new_connection.source ++ mappings)
  pub among : (m : Mapping) → new_connection.dest ≡ Some m → Contains mappings m

-- only a new connection needs mappings
abbrev pub Fits : CtInfo → List Mapping → Type 0
Fits (New new_connection) mappings = IsFitting new_connection mappings
Fits _ mappings = Unit {0}
