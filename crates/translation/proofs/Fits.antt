-- What a translated packet's mappings are among those that are live.
use Rattle.std.proofs.Common.{◌≡◌, ℕ, List, ◌∷◌, Some, subst}
use Rattle.std.specs.Prelude.{Contains}
use Rattle.ip_headers.specs.declared.tuple.Endpoint.{Endpoint}
use Rattle.ip_headers.specs.declared.tuple.Mapping.{Mapping}
use Rattle.nat_mapping.specs.HeldMappings.{IsOneToOne}
use Rattle.translation.specs.declared.external.ExternalSource.{ExternalSource}
use Rattle.translation.specs.declared.ct_info.NewConnection.{NewConnection}
use Rattle.translation.specs.Fitting.{IsFitting}
use Rattle.translation.specs.Nat.{to_internal, with_source_mapping}

-- a live mapping as its destination's is one of them
pub inward_fits : (held : List Mapping) (new_connection : NewConnection) (internal : Endpoint)
    → Contains held (record {
      kind = new_connection.tuple.kind;
      internal = internal;
      external = new_connection.tuple.destination;
    })
    → IsFitting new_connection held → IsFitting (to_internal new_connection (Some internal)) held
inward_fits held new_connection internal among fits = record {
  one = fits.one;
  among = λ m is.
      subst (Contains held) (some_is m is) among;
}
  where
    found : Mapping
    found = record {
      kind = new_connection.tuple.kind;
      internal = internal;
      external = new_connection.tuple.destination;
    }

    some_is : (m : Mapping) → Some found ≡ Some m → found ≡ m
    some_is m is = cc

-- a mapping with which they stay one to one does as its source's
pub mapped_fits : (held : List Mapping) (new_connection : NewConnection) (x : ExternalSource) (port : ℕ)
    → IsOneToOne (record {
      kind = new_connection.tuple.kind;
      internal = new_connection.tuple.source;
      external = record { address = x.address; port = port };
    } ∷ held)
    → IsFitting new_connection held → IsFitting (with_source_mapping new_connection x port) held
mapped_fits held new_connection x port one fits = record { one = one; among = fits.among }
