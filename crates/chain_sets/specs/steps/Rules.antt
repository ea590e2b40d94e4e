-- The rules of a chain of a table; a chain that isn't there has none.
use Rattle.std.specs.Prelude.{ℕ, List, [], unwrap_or, slice_get}
use Rattle.std.specs.Option.{option_map}
use Rattle.nft_tree.specs.Tree.{RuleTree, TableTree}
use Rattle.nft_tree.specs.TableItems.{chains_of}

abbrev pub rules_in : TableTree → ℕ → List RuleTree
rules_in t c = unwrap_or (option_map (λ chain. chain.rules) (slice_get (chains_of t) c)) []
