-- Names of other crates and of the definitions, for the proofs.
pub use Rattle.box_file.specs.Box.{PlantTree}
pub use Rattle.lowering.specs.Lowered.{HasDeclared, HasMap, HasTable, Keeps, same}
pub use Rattle.lowering.specs.steps.Tables.{IsDeclaredSet, IsMapNumbers, IsMapVerdicts, IsNumberType, Table, entry_gives}
pub use Rattle.nft_tree.specs.ComparedTypes.{compared_type_width, map_data_compared_type, map_key_compared_type, selector_compared_type}
pub use Rattle.nft_tree.specs.TableItems.{maps_of, set_in, sets_of}
pub use Rattle.nft_tree.specs.Tree.{ItemTree, MapTree, SetTree, TableTree, Text, VerdictTree}
pub use Rattle.nft_tree.specs.TreeViews.{element_tree, flag_tree, map_tree, pair_tree, set_tree}
pub use Rattle.nft_tree.specs.TreeViews.{value_tree}
pub use Rattle.nft_tree.specs.declared.compared_types.ComparedType.{ComparedType}
pub use Rattle.nft_tree.specs.declared.compared_types.ComparedType.TheVariants.{Named, Unnamed}
pub use Rattle.rule_code.specs.declared.code.Lookups.{Lookups}
pub use Rattle.rule_meaning.specs.Matches.{flag_number, flags_of, union, word_number}
pub use Rattle.rule_meaning.specs.Selectors.{join}
pub use Rattle.rule_meaning.specs.Sets.{data_number, data_verdict, declared_gives, elements_have, pairs_give, parts}
pub use Rattle.rule_meaning.specs.Statements.{give, rule_verdict_of, with_value}
pub use Rattle.rule_types.specs.Types.{is_too_wide, item_mismatches, map_ref_mismatches, same_compared_type, same_data, set_mismatches}
pub use Rattle.set_intervals.specs.Pairs.{first_value}
pub use Rattle.set_intervals.specs.declared.range.Range.{Range}
pub use Rattle.std.proofs.Common.{Bool, List, None, Option, Some, [], ap, append_assoc, arith, bit_or, cond, drop, false, get_or, length, length-drop, map}
pub use Rattle.std.proofs.Common.{refl, subst, suc, sym, true, zero, ℕ, ◌&&◌, ◌*◌, ◌++◌, ◌+◌, ◌<◌, ◌^◌, ◌||◌, ◌∙◌, ◌∷◌, ◌≡◌, ◌≤◌}
pub use Rattle.std.proofs.lemmas.Bool.{or_from, or_parts}
pub use Rattle.std.proofs.lemmas.List.{append-nil, drop_all, drop_more}
pub use Rattle.std.proofs.lemmas.Result.{IfOk-weaker}
pub use Rattle.std.specs.List.{filter_map, fold, list_any}
pub use Rattle.std.specs.Option.{option_and_then, option_map, option_or}
pub use Rattle.std.specs.Prelude.{MatchOption, find, is_some, not, slice_get, sum_by}
