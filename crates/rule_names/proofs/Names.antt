-- Names of other crates and of the definitions, for the proofs.
pub use Rattle.list_laws.specs.Lists.{any_of_map, map-more}
pub use Rattle.nft_tree.specs.Tree.{TableTree, Text}
pub use Rattle.nft_tree.specs.TreeViews.{item_tree, table_tree}
pub use Rattle.rule_names.specs.Names.{HasDuplicate, table_names}
pub use Rattle.rule_names.specs.steps.Index.{IsAdded}
pub use Rattle.rule_names.specs.steps.Table.{HasUniqueNames}
pub use Rattle.rule_names.specs.steps.NameFaults.{passes}
pub use Rattle.std.proofs.Common.{Bool, List, None, Option, Some, [], ap, ap₂, arith, cond, false, get_or, inr, length, map, refl, rules, subst, sym, take}
pub use Rattle.std.proofs.Common.{true, ℕ, ⊎_elim, ◌++◌, ◌+◌, ◌<◌, ◌||◌, ◌∙◌, ◌∷◌, ◌≡◌}
pub use Rattle.std.proofs.lemmas.List.{map-append}
pub use Rattle.std.specs.Borrow.{Bor}
pub use Rattle.std.specs.List.{list_any}
pub use Rattle.std.specs.Option.{option_map}
pub use Rattle.std.specs.Prelude.{All, Contains, MatchOption}
pub use Rattle.std.specs.Str.{bytes_eq}
