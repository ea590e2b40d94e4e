-- The number of pools.
use Rattle.nat_mapping.proofs.Names.{Contains, IfSome_at, Inbounds, IsConsistent, IsInUse, List, Mapping, Option, Pool, PoolKey, Pools, Some, Sources, []}
use Rattle.nat_mapping.proofs.Names.{any_of_map, ap, arith, from_external, get, has_pool, hash_map_len, held_by, inbound_at, is_member, is_member-Decides}
use Rattle.nat_mapping.proofs.Names.{is_some, is_some-lookup, is_taken_by, keys_of, length, length-from_keys, length-keys_of, list_any, map, pool_count_of}
use Rattle.nat_mapping.proofs.Names.{pool_key_of, pooled, refl, same_from_decides, same_pool, share_pool, subst, sym, true, unique_keys, ℕ, ◌∙◌, ◌∷◌, ◌≡◌}
use Rattle.std.proofs.lemmas.List.Elements.{All-contains, All-contains_itself, All-filter, filter_passes}
use Rattle.list_laws.specs.Elements.{Contains-map, Contains-unmap}
use Rattle.list_laws.specs.Filters.{has_filter}
use Rattle.nat_mapping.proofs.Equal.{equivalence, here_true, pool_parts, pool_test}
use Rattle.nat_mapping.proofs.Lists.{SameMembers}
use Rattle.nat_mapping.proofs.Represented.{port_taken}

-- mappings share a pool where their pool keys are equal
unique_map : (held : List Mapping) → length (unique_keys same_pool (map pool_key_of held)) ≡ length (unique_keys share_pool held)
unique_map [] = refl
unique_map (x ∷ held) =
    let member : is_member same_pool (map pool_key_of held) (pool_key_of x) ≡ is_member share_pool held x =
    sym (any_of_map (same_pool (pool_key_of x)) pool_key_of held) ∙ (λ i. list_any (λ y. pool_parts (pool_key_of x) (pool_key_of y) i) held) in
    grind (arith, member, unique_map held)

some_of : {X : Type 0} (o : Option X) → is_some o ≡ true → (x : X) × (o ≡ Some x)
some_of o e = grind arith

taken_some : (o : Option Pool) (port : ℕ) → is_taken_by o port ≡ true → is_some o ≡ true
taken_some o port t = grind arith

module _ (sources : Sources) (inbounds : Inbounds) (pools : Pools) (kept : IsConsistent sources inbounds pools)
    (held : List Mapping) (same : SameMembers held (held_by sources.entries)) where
  -- a pool has a mapping that is held
  pool_held : (key : PoolKey) → is_some (get same_pool pools.pools key) ≡ true → Contains (map pool_key_of (pooled held)) key
  pool_held key some =
      let found = some_of (get same_pool pools.pools key) some in
      let in_use = IfSome_at _ (IsInUse key) found.0 found.1 (kept.pooled.used key) in
      let port = in_use.used.0 in
      let out = some_of _ (sym (kept.ports key port in_use.bitmap) ∙ ap (λ o. is_taken_by o port) found.1 ∙ in_use.used.1) in
      let m = from_external (inbound_at key port) out.0 in
      Contains-map pool_key_of (pooled held) m (has_filter (λ (x : Mapping). has_pool x.kind) held m
      (same.back m (kept.inbound.some (inbound_at key port) out.0 out.1)) in_use.bitmap)

  -- a mapping that is held has its pool, if its kind has pools
  held_pool : (m : Mapping) → Contains (pooled held) m → is_some (get same_pool pools.pools (pool_key_of m)) ≡ true
  held_pool m among =
      let is_pooled = λ (x : Mapping). has_pool x.kind in
      let there = All-contains (Contains held) (pooled held) m (All-filter is_pooled (Contains held) held (All-contains_itself held)) among in
      let passes = All-contains (λ x. is_pooled x ≡ true) (pooled held) m (filter_passes is_pooled held) among in
      grind (arith, taken_some, port_taken sources inbounds pools kept m (same.there m there) passes)

  pub pools_counted : hash_map_len pools.pools ≡ pool_count_of held
  unfolding pool_count_of
  pools_counted =
      let es = pools.pools.entries in
      let keys = map pool_key_of (pooled held) in
      let members = λ (q : PoolKey). same_from_decides (is_member same_pool (keys_of es) q) (is_member same_pool keys q) (
        λ t. pool_held q (is_some-lookup (same_pool q) es ∙ t),
        λ among.
            let m = Contains-unmap pool_key_of (pooled held) q among in
            sym (is_some-lookup (same_pool q) es)
            ∙ subst (λ k. is_some (get same_pool pools.pools k) ≡ true) m.2 (held_pool m.0 m.1),
      )
      (is_member-Decides (λ a b. (pool_test.exact a b, here_true same_pool pool_test a b)) keys q) in
      omega (
        arith,
        length-from_keys (equivalence same_pool pool_test) (keys_of es) keys kept.pooled.unique members,
        length-keys_of es,
        unique_map (pooled held),
      )
