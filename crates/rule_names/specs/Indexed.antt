-- The names of a table by kind, as they are indexed (own).
use Rattle.nft_tree.specs.Tree.{TableTree}
use Rattle.rule_names.specs.Names.{chain_names, map_names, set_names}
use Rattle.rule_names.specs.declared.ruleset_names.ItemNames.{ItemNames}

-- those of its chains, of its sets and of its maps, each in text order
abbrev pub names_in : TableTree → ItemNames
names_in t = record { chains = chain_names t; sets = set_names t; maps = map_names t }
