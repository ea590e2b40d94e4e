-- How tables and pools represent the list of mappings held.
use Rattle.std.specs.Prelude.{◌≡◌, ℕ, ◌<◌, Bool, true, ◌==◌, List, [], ◌∷◌, ◌++◌, Option, Some, None, Contains, IfSome, is_some, if◌then◌else◌, replicate}
use Rattle.std.specs.HashMap.{HashMap, get, IsUnique}
use Rattle.word_hash.specs.declared.WordState.{WordState}
use Rattle.ip_headers.specs.declared.tuple.Endpoint.{Endpoint}
use Rattle.ip_headers.specs.declared.tuple.Mapping.{Mapping}
use Rattle.nat_mapping.specs.declared.keys.SourceKey.{SourceKey}
use Rattle.nat_mapping.specs.declared.keys.InboundKey.{InboundKey}
use Rattle.nat_mapping.specs.declared.keys.PoolKey.{PoolKey}
use Rattle.nat_mapping.specs.declared.keys.MappedPort.{MappedPort}
use Rattle.nat_mapping.specs.declared.pools.Pools.{Pools}
use Rattle.nat_mapping.specs.HeldMappings.{has_pool}
use Rattle.nat_mapping.specs.steps.KeyTests.{same_inbound, same_source}
use Rattle.nat_mapping.specs.steps.Keys.{from_external, from_internal, inbound_at}
use Rattle.nat_mapping.specs.steps.Pooled.{taken_in, IsPooled}

abbrev pub Sources : Type 0
Sources = HashMap SourceKey MappedPort WordState

abbrev pub Inbounds : Type 0
Inbounds = HashMap InboundKey Endpoint WordState

-- the mappings held, by the entries of the table
unfoldable pub held_by : List (SourceKey × MappedPort) → List Mapping
held_by [] = []
held_by (e ∷ es) = replicate e.1.holders (from_internal e.0 e.1.port) ++ held_by es

abbrev pub holders_at : Option MappedPort → ℕ → ℕ
holders_at None port = 0
holders_at (Some h) port = if port == h.port then h.holders else 0

-- the taken ports of a pool are those that are mapped
abbrev pub ArePorts : (InboundKey → Option Endpoint) → (PoolKey → ℕ → Bool) → Type 0
ArePorts inbounds taken = (key : PoolKey) (port : ℕ) → has_pool key.kind ≡ true
    → taken key port ≡ is_some (inbounds (inbound_at key port))

-- a lookup by key finds the value with which the key makes a mapping of the list, if one does
pub record Finds {K Y : Type 0} (make : K → Y → Mapping) (held : List Mapping) (look : K → Option Y) : Type 0 where
  pub some : (k : K) (y : Y) → look k ≡ Some y → Contains held (make k y)
  pub all : (k : K) (y : Y) → Contains held (make k y) → look k ≡ Some y

-- each entry is of the mappings held
pub record IsTable (sources : Sources) : Type 0 where
  pub unique : IsUnique same_source sources
  pub live : (key : SourceKey) → IfSome (get same_source sources key) (λ h. 0 < h.holders)

-- the other table and the pools agree
pub record IsConsistent (sources : Sources) (inbounds : Inbounds) (pools : Pools) : Type 0 where
  pub table : IsTable sources
  pub inbound : Finds from_external (held_by sources.entries) (get same_inbound inbounds)
  pub ports : ArePorts (get same_inbound inbounds) (taken_in pools)
  pub pooled : IsPooled pools
