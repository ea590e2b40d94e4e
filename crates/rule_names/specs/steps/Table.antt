-- The names of a table, and its items by kind.
use Rattle.std.specs.Prelude.{◌≡◌, ◌⊎◌, All, Bool, true, false, List, map}
use Rattle.std.specs.List.{filter_map}
use Rattle.nft_tree.specs.Tree.{Text, ChainTree, SetTree, MapTree, ItemTree, TableTree}
use Rattle.nft_tree.specs.TreeViews.{chain_tree, set_tree, map_tree}
use Rattle.nft_tree.specs.TableItems.{chain_in, set_in, map_in}
use Rattle.rule_names.specs.Indexed.{names_in}
use Rattle.rule_names.specs.Names.{HasDuplicate, set_or_map_name}
use Rattle.rule_names.specs.declared.ruleset_names.ItemNames.{ItemNames}
use Rattle.rule_names.specs.declared.table.Listed.{Listed}

-- the items have a duplicate name
abbrev pub HasDuplicateIn : List ItemTree → Type 0
HasDuplicateIn items =
    HasDuplicate (map (λ c. c.name) (filter_map chain_in items))
    ⊎ HasDuplicate (filter_map set_or_map_name items)

-- the table has no duplicate names
abbrev pub HasUniqueNames : TableTree → Type 0
HasUniqueNames t = HasDuplicateIn t.items → ⊥

-- ---- names

-- these are the names of chains, sets and maps, and no two are the same
pub record AreNames (cs : List ChainTree) (ss : List SetTree) (ms : List MapTree) (both : List Text) (names : ItemNames) : Type 0 where
  pub chains : names.chains ≡ map (λ c. c.name) cs
  pub sets : names.sets ≡ map (λ s. s.name) ss
  pub maps : names.maps ≡ map (λ m. m.name) ms
  pub chains_apart : HasDuplicate (map (λ c. c.name) cs) → ⊥
  pub both_apart : HasDuplicate both → ⊥

-- these are the names of the items
abbrev pub IsIndexOf : List ItemTree → ItemNames → Type 0
IsIndexOf items names =
    AreNames (filter_map chain_in items) (filter_map set_in items) (filter_map map_in items) (filter_map set_or_map_name items) names

abbrev pub IsIndexOrDuplicate : List ItemTree → ItemNames → Bool → Type 0
IsIndexOrDuplicate items names true = IsIndexOf items names
IsIndexOrDuplicate items names false = HasDuplicateIn items

-- these are the names of tables, each without duplicates
abbrev pub AreIndexed : List TableTree → List ItemNames → Type 0
AreIndexed tables names = (names ≡ map names_in tables) × All HasUniqueNames tables

-- ---- items

-- these are the chains, sets and maps
pub record AreThose (cs : List ChainTree) (ss : List SetTree) (ms : List MapTree) (listed : Listed) : Type 0 where
  pub chains : map (λ c. chain_tree c.now) listed.chains.items ≡ cs
  pub sets : map (λ s. set_tree s.now) listed.sets.items ≡ ss
  pub maps : map (λ m. map_tree m.now) listed.maps.items ≡ ms

-- those among the items
abbrev pub AreListed : List ItemTree → Listed → Type 0
AreListed items = AreThose (filter_map chain_in items) (filter_map set_in items) (filter_map map_in items)

-- the table's names without duplicates, and its items
pub record IsNamed (t : TableTree) (names : ItemNames) (listed : Listed) : Type 0 where
  pub named : names ≡ names_in t
  pub apart : HasUniqueNames t
  pub items : AreListed t.items listed
