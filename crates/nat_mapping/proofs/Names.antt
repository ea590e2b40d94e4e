-- Names of other crates and of the definitions, for the proofs.
unfoldable pub use Rattle.nat_mapping.specs.HeldMappings.{holders_of, pool_count_of}
unfoldable pub use Rattle.nat_mapping.specs.Mappings.{inbound_of, port_of}
unfoldable pub use Rattle.nat_mapping.specs.steps.Consistent.{held_by}
unfoldable pub use Rattle.port_pool.specs.Candidates.{candidates}
unfoldable pub use Rattle.std.specs.List.{IsDistinct}
pub use Rattle.ip_headers.specs.HashWords.{hash_word}
pub use Rattle.ip_headers.specs.Same.{same_endpoint, same_kind}
pub use Rattle.ip_headers.specs.declared.tuple.Endpoint.{Endpoint}
pub use Rattle.ip_headers.specs.declared.tuple.Kind.{Kind}
pub use Rattle.ip_headers.specs.declared.tuple.Mapping.{Mapping}
pub use Rattle.ip_headers.specs.steps.WordBytes.{first_word, words_after}
pub use Rattle.list_laws.specs.Decisions.{Contains-cases, Contains-none, Contains-there}
pub use Rattle.list_laws.specs.Lists.{Contains-head, any_of_map}
pub use Rattle.list_laws.specs.Options.{IfSome_at, option_cases, some_of_map}
pub use Rattle.nat_mapping.specs.Mappings.{is_port_held, or_else, order_of, same_mapping, source_of}
pub use Rattle.nat_mapping.specs.HeldMappings.{HoldsSame, IsOneToOne, has_pool, pooled, share_pool}
pub use Rattle.nat_mapping.specs.declared.keys.InboundKey.{InboundKey}
pub use Rattle.nat_mapping.specs.declared.keys.MappedPort.{MappedPort}
pub use Rattle.nat_mapping.specs.declared.keys.PoolKey.{PoolKey}
pub use Rattle.nat_mapping.specs.declared.keys.SourceKey.{SourceKey}
pub use Rattle.nat_mapping.specs.declared.mappings.MapError.{MapError}
pub use Rattle.nat_mapping.specs.declared.mappings.MapError.TheVariants.{NoPort}
pub use Rattle.nat_mapping.specs.declared.pools.Pools.{Pools}
pub use Rattle.nat_mapping.specs.steps.Consistent.{ArePorts, Finds, Inbounds, IsConsistent, IsTable, Sources, holders_at}
pub use Rattle.nat_mapping.specs.steps.Holders.{holders_cons}
pub use Rattle.nat_mapping.specs.steps.KeyTests.{same_inbound, same_pool, same_source}
pub use Rattle.nat_mapping.specs.steps.Keys.{from_external, from_internal, inbound_at, inbound_key_of, one_fewer, one_more, pool_key_of, source_key_of}
pub use Rattle.nat_mapping.specs.steps.Pooled.{IsPooled, taken_in}
pub use Rattle.nat_mapping.specs.steps.Ports.{IsInUse, IsSpare, is_taken_by}
pub use Rattle.port_pool.specs.Taken.{is_taken}
pub use Rattle.port_pool.specs.declared.order.Order.{Order}
pub use Rattle.port_pool.specs.declared.pool.Pool.{Pool}
pub use Rattle.port_pool.specs.declared.range.CandidateRange.{CandidateRange}
pub use Rattle.std.proofs.Common.{Bool, Err, IfSome, IsSome, List, None, Option, Result, Some, [], ap, arith, cond, eqb, false, get_or, inl, inr, is_some}
pub use Rattle.std.proofs.Common.{length, not, refl, rules, subst, sym, true, vec_len, ℕ, ◌*◌, ◌++◌, ◌+◌, ◌-◌, ◌<◌, ◌↔◌, ◌∙◌, ◌∷◌, ◌≡◌, ◌≤◌}
pub use Rattle.std.proofs.lemmas.Bool.{both_ways, cond-false, cond-true, cond_both, eq-eqb, false_from_ne_true}
pub use Rattle.std.proofs.lemmas.Bool.Decides.{nat_tests, same_from_decides}
pub use Rattle.std.proofs.lemmas.List.Folds.{sum_by-replicate}
pub use Rattle.std.proofs.lemmas.List.Sums.{sum_by-append}
pub use Rattle.std.proofs.lemmas.Map.{lookup-none}
pub use Rattle.std.proofs.lemmas.Map.Entries.{length-keys_of, none_past_head}
pub use Rattle.std.proofs.lemmas.Map.Keys.{IsDistinct-tail}
pub use Rattle.std.proofs.lemmas.Map.Made.{is_member-Decides, is_some-lookup, length-from_keys}
pub use Rattle.std.proofs.lemmas.Option.{none-some, same_Some}
pub use Rattle.std.specs.Cmp.{IsEquivalence}
pub use Rattle.std.specs.HashMap.{IsUnique, get, hash_map_len}
pub use Rattle.std.specs.List.{All, Contains, filter, find, list_any, sum_by}
pub use Rattle.std.specs.Map.{keys_of, lookup}
pub use Rattle.std.specs.Option.{ok_or, option_map}
pub use Rattle.std.specs.Prelude.{if◌then◌else◌, map, replicate, ◌&&◌, ◌==◌}
pub use Rattle.std.specs.Result.{IfOk}
pub use Rattle.std.specs.Set.{is_member, unique_keys}
