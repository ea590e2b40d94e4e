-- The configuration of a box (own).
use Rattle.std.specs.Prelude.{List}
use Rattle.nft_tree.specs.Tree.{TableTree}
use Rattle.box_file.specs.Box.{PlantTree}
use Rattle.box_file.specs.declared.limits.Limits.{Limits}

-- the ruleset and the box file
pub record Setup : Type 0 where
  pub rules : List TableTree
  pub network : PlantTree

-- the idle timeouts of connections
abbrev pub limits_of : Setup → Limits
limits_of setup = setup.network.idle
