-- The tests of two keys that their types derive.
use Rattle.std.specs.Prelude.{Bool}
use Rattle.nat_mapping.specs.declared.keys.SourceKey.{SourceKey}
use Rattle.nat_mapping.specs.declared.keys.InboundKey.{InboundKey}
use Rattle.nat_mapping.specs.declared.keys.PoolKey.{PoolKey}
use Rattle.nat_mapping.specs.contracts.keys.SourceKeyPartialEq.TheImpl as sources
use Rattle.nat_mapping.specs.contracts.keys.InboundKeyPartialEq.TheImpl as inbounds
use Rattle.nat_mapping.specs.contracts.keys.PoolKeyPartialEq.TheImpl as pools

abbrev pub same_source : SourceKey → SourceKey → Bool
same_source a b = sources.eq-value.it a b

abbrev pub same_inbound : InboundKey → InboundKey → Bool
same_inbound a b = inbounds.eq-value.it a b

abbrev pub same_pool : PoolKey → PoolKey → Bool
same_pool a b = pools.eq-value.it a b
