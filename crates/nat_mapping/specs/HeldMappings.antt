-- What a table of mappings promises beside its answers: how many holders each mapping has, how many pools of
-- ports they need, and that they are one-to-one (RFC 4787, REQ-1 and REQ-3).
use Rattle.std.specs.Prelude.{◌≡◌, ℕ, Bool, true, false, ◌&&◌, ◌==◌, List}
use Rattle.std.specs.Prelude.{count_by, Contains}
use Rattle.std.specs.List.{filter}
use Rattle.std.specs.Set.{distinct_count}
use Rattle.ip_headers.specs.declared.tuple.Kind.{Kind}
use Rattle.ip_headers.specs.declared.tuple.Kind.TheVariants.{Other}
use Rattle.ip_headers.specs.declared.tuple.Mapping.{Mapping}
use Rattle.ip_headers.specs.Same.{same_kind}
use Rattle.nat_mapping.specs.Mappings.{same_mapping}

-- both take their ports from the same pool: that of their kind at their external address
abbrev pub share_pool : Mapping → Mapping → Bool
share_pool a b = same_kind a.kind b.kind && a.external.address == b.external.address

-- how many holders a mapping has
unfoldable pub holders_of : Mapping → List Mapping → ℕ
holders_of m held = count_by (same_mapping m) held

-- the same mappings with as many holders each, in any order
abbrev pub HoldsSame : List Mapping → List Mapping → Type 0
HoldsSame one other = (m : Mapping) → holders_of m one ≡ holders_of m other

-- whether a kind has pools of ports: a protocol without ports has one mapping at an external address
abbrev pub has_pool : Kind → Bool
has_pool (Other number) = false
has_pool _ = true

-- those that take a port of a pool
abbrev pub pooled : List Mapping → List Mapping
pooled held = filter (λ m. has_pool m.kind) held

-- how many pools they need: one for each kind and external address of those that take a port
unfoldable pub pool_count_of : List Mapping → ℕ
pool_count_of held = distinct_count share_pool (pooled held)

-- no external endpoint of a kind belongs to two internal ones, and no internal endpoint has two ports at one
-- external address (RFC 4787, REQ-1 and REQ-3)
pub record IsOneToOne (held : List Mapping) : Type 0 where
  pub one_internal : (m n : Mapping) → Contains held m → Contains held n
      → m.kind ≡ n.kind → m.external ≡ n.external → m.internal ≡ n.internal
  pub one_port : (m n : Mapping) → Contains held m → Contains held n
      → m.kind ≡ n.kind → m.internal ≡ n.internal → m.external.address ≡ n.external.address
      → m.external.port ≡ n.external.port
