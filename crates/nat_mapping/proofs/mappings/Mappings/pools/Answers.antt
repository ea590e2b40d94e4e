use Rattle.nat_mapping.proofs.Names.{HoldsSame, List, Mapping, arith, hash_map_len, pool_count_of, ◌≡◌}
use Rattle.nat_mapping.proofs.Lists.{members_alike}
use Rattle.nat_mapping.proofs.PoolCounts.{pools_counted}
use Rattle.nat_mapping.proofs.mappings.Mappings.pools.Goals.{After-count}
use Rattle.nat_mapping.proofs.mappings.Mappings.pools.Goals as goal

counted : (c : After-count) (held : List Mapping) → HoldsSame held c.args.self.now.held
    → hash_map_len c.self.inside.pools.pools ≡ pool_count_of held
counted c held same = grind (arith, pools_counted, c.self.invariant, members_alike, c.self.view_is)

pub returns-clause-needed : goal.returns-clause-needed
returns-clause-needed c held same = grind (arith, counted, c.count.ensures)

pub returns-clause-spare : goal.returns-clause-spare
returns-clause-spare c held same = grind (arith, counted, c.count.ensures, c.self.invariant.pooled.few)
