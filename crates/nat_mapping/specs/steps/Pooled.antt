-- The taken ports of all pools, and the invariant of pools.
use Rattle.std.specs.Prelude.{◌≤◌, ◌+◌, ℕ, Bool, min, All, vec_len}
use Rattle.std.specs.HashMap.{get, spare, hash_map_len, IsUnique}
use Rattle.nat_mapping.specs.declared.keys.PoolKey.{PoolKey}
use Rattle.nat_mapping.specs.declared.pools.Pools.{Pools}
use Rattle.nat_mapping.specs.steps.KeyTests.{same_pool}
use Rattle.nat_mapping.specs.steps.Ports.{is_taken_by, AreInUse, IsSpare}

abbrev pub taken_in : Pools → PoolKey → ℕ → Bool
taken_in t key port = is_taken_by (get same_pool t.pools key) port

-- for how many more pools memory is reserved
abbrev pub pool_room : Pools → ℕ
pool_room t = min (spare t.pools) (vec_len t.spares)

-- how many pools there are
abbrev pub pool_count : Pools → ℕ
pool_count t = hash_map_len t.pools + vec_len t.spares

pub record IsPooled (t : Pools) : Type 0 where
  pub unique : IsUnique same_pool t.pools
  pub used : AreInUse t.pools
  pub spares : All IsSpare t.spares.items
  pub few : vec_len t.spares ≤ 2
