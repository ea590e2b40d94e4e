-- Pools under their keys.
use Rattle.std.specs.Prelude.{◌≡◌, ◌≢◌, ℕ, Bool, true, false, if◌then◌else◌, Option, Some, None, IfSome}
use Rattle.std.specs.HashMap.{HashMap, get}
use Rattle.word_hash.specs.declared.WordState.{WordState}
use Rattle.port_pool.specs.declared.order.Order.TheVariants.{Zero}
use Rattle.port_pool.specs.declared.pool.Pool.{Pool}
use Rattle.port_pool.specs.Taken.{is_taken, order_of as pool_order}
use Rattle.nat_mapping.specs.declared.keys.PoolKey.{PoolKey}
use Rattle.nat_mapping.specs.Mappings.{order_of}
use Rattle.nat_mapping.specs.HeldMappings.{has_pool}
use Rattle.nat_mapping.specs.steps.KeyTests.{same_inbound, same_pool}
use Rattle.nat_mapping.specs.steps.Keys.{inbound_at}

abbrev pub PoolTable : Type 0
PoolTable = HashMap PoolKey Pool WordState

abbrev pub is_taken_by : Option Pool → ℕ → Bool
is_taken_by None port = false
is_taken_by (Some pool) port = is_taken pool port

-- a pool has the order of its key's kind, which has ports, and a taken one
pub record IsInUse (key : PoolKey) (pool : Pool) : Type 0 where
  pub order : pool_order pool ≡ order_of key.kind
  pub bitmap : has_pool key.kind ≡ true
  pub used : (port : ℕ) × (is_taken pool port ≡ true)

-- no port is taken, and it has a bitmap
pub record IsSpare (pool : Pool) : Type 0 where
  pub unused : (port : ℕ) → is_taken pool port ≡ false
  pub bitmap : pool_order pool ≢ Zero

abbrev pub AreInUse : PoolTable → Type 0
AreInUse pools = (key : PoolKey) → IfSome (get same_pool pools key) (IsInUse key)

-- a port of a pool is taken or given, and no other
abbrev pub SetsPort : (old new : PoolTable) (key : PoolKey) (port : ℕ) (b : Bool) → Type 0
SetsPort old new key port b = (q : PoolKey) (p : ℕ) → is_taken_by (get same_pool new q) p
    ≡ (if same_inbound (inbound_at key port) (inbound_at q p) then b else is_taken_by (get same_pool old q) p)
