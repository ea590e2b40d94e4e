-- The keys of mappings.
use Rattle.std.specs.Prelude.{ℕ, ◌+◌, ◌-◌, nat_lt, if◌then◌else◌, List, ◌++◌, Option, Some, None}
use Rattle.std.specs.Hash as fed
use Rattle.ip_headers.specs.declared.tuple.Endpoint.{Endpoint}
use Rattle.ip_headers.specs.declared.tuple.Mapping.{Mapping}
use Rattle.ip_headers.specs.HashWords.{hash_word}
use Rattle.nat_mapping.specs.declared.keys.SourceKey.{SourceKey}
use Rattle.nat_mapping.specs.declared.keys.InboundKey.{InboundKey}
use Rattle.nat_mapping.specs.declared.keys.PoolKey.{PoolKey}
use Rattle.nat_mapping.specs.declared.keys.MappedPort.{MappedPort}

abbrev pub source_key_of : Mapping → SourceKey
source_key_of m = record { kind = m.kind; internal = m.internal; address = m.external.address }

abbrev pub inbound_key_of : Mapping → InboundKey
inbound_key_of m = record { kind = m.kind; external = m.external }

abbrev pub pool_key_of : Mapping → PoolKey
pool_key_of m = record { kind = m.kind; address = m.external.address }

-- the mapping of an external endpoint to an internal one
abbrev pub from_external : InboundKey → Endpoint → Mapping
from_external key internal = record { kind = key.kind; internal = internal; external = key.external }

-- the mapping of an internal endpoint to a port of an external address
abbrev pub from_internal : SourceKey → ℕ → Mapping
from_internal key port =
    record { kind = key.kind; internal = key.internal; external = record { address = key.address; port = port } }

-- with one holder more: the first, if there was no mapping
abbrev pub one_more : ℕ → Option MappedPort → MappedPort
one_more port None = record { port = port; holders = 1 }
one_more port (Some mapped) = record { port = mapped.port; holders = mapped.holders + 1 }

-- with one holder fewer: none, after the last
abbrev pub one_fewer : MappedPort → Option MappedPort
one_fewer mapped =
    if nat_lt 1 mapped.holders then Some (record { port = mapped.port; holders = mapped.holders - 1 }) else None

-- the key of a port of a pool
abbrev pub inbound_at : PoolKey → ℕ → InboundKey
inbound_at key port = record { kind = key.kind; external = record { address = key.address; port = port } }

-- ---- the writes of a key's hash

abbrev pub source_writes : SourceKey → List (List ℕ)
source_writes key =
    fed.u64 (hash_word key.kind key.internal)
    ++ fed.u64 (hash_word key.kind (record { address = key.address; port = 0 }))

abbrev pub inbound_writes : InboundKey → List (List ℕ)
inbound_writes key = fed.u64 (hash_word key.kind key.external)

abbrev pub pool_writes : PoolKey → List (List ℕ)
pool_writes key = fed.u64 (hash_word key.kind (record { address = key.address; port = 0 }))
