-- Chains in one another in a ruleset. (own)
use Rattle.std.specs.Prelude.{List}
use Rattle.nft_tree.specs.Tree.{TableTree}
use Rattle.box_file.specs.Box.{PlantTree}
use Rattle.chain_ways.specs.Nesting.{SomeNestsOver}
use Rattle.chain_sets.specs.declared.ways.TheConstants.{LEVELS}
use Rattle.rule_reach.specs.Reach.{run_chains}

-- more than packets are told of, from a base chain on to which packets come
abbrev pub NestsTooDeep : PlantTree → List TableTree → Type 0
NestsTooDeep network tables = SomeNestsOver LEVELS network tables (run_chains tables)
