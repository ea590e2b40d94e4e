-- Names of other crates and of the definitions, for the proofs.
pub use Rattle.box_file.specs.Box.{PlantTree}
pub use Rattle.code_layout.proofs.AddLaws.{declared_kept, extends_code_itself, extends_code_on, extends_itself, keeps_push, slice_get-push}
pub use Rattle.code_layout.specs.Adding.{AddsChain, ExtendsCode, rule_out_of_range}
pub use Rattle.code_layout.specs.CodeLayout.{AreTableCodes, IsCode, IsTableCode, RulesAt, StatementsAt, chain_steps, dropped_rules, left_program}
pub use Rattle.code_layout.specs.CodeLayout.{left_statements, rules_in}
pub use Rattle.code_layout.specs.DroppedRules.{AreLeft, IsDropped, IsLeft, IsShadowed, always_ends, ends_chain, lists, merged_selectors, rule_at}
pub use Rattle.compiler.specs.Compiled.{StartHead, base_chain_head, cost_in, start_cost, start_head, total_cost}
pub use Rattle.compiler.specs.declared.compiled_chain.CompiledChain.{CompiledChain}
pub use Rattle.compiler.specs.steps.Bases.{AreOrdered, Prices, PricesTable, base, costed, hook_starts, priced, runs_on_hook, start_of}
pub use Rattle.compiler.specs.steps.Dropping.{FailsAt, LeadsTo, LeavesOut, LeavesOutOf, goes_on}
pub use Rattle.filter_vm.specs.Machine.{Continuation, Stop, apply_effect, base_chain_result, enter_chain, exec, return_from, run_table, starts_of, stop}
pub use Rattle.filter_vm.specs.declared.code.Code.{Code}
pub use Rattle.filter_vm.specs.declared.code.Start.{Start}
pub use Rattle.list_laws.specs.Elements.{Contains-tail, Contains-unmap}
pub use Rattle.list_laws.specs.Options.{some_of_map}
pub use Rattle.nft_tree.specs.TableItems.{chain_in, chains_of}
pub use Rattle.nft_tree.specs.Tree.{ChainTree, HeadTree, ItemTree, MatchTree, Statement, TableTree, Text, VerdictTree}
pub use Rattle.nft_tree.specs.TreeViews.{chain_tree, tables_of}
pub use Rattle.nft_tree.specs.declared.chain.Chain.{Chain}
pub use Rattle.nft_tree.specs.declared.chain.Hook.{Hook}
pub use Rattle.rule_code.specs.declared.code.TableCode.{TableCode}
pub use Rattle.rule_laws.specs.Ranking.{IsRanking, IsStatementOf, chain_cost_by, weight_by}
pub use Rattle.rule_meaning.specs.Hooks.{BaseChain, HookResult, InOrder, RunsBaseChain, base_chain_of, base_chains_from, base_chains_of, base_chains_of_tables}
pub use Rattle.rule_meaning.specs.Hooks.{is_on_hook, policy_of, priority, runs_before, same_hook, with_policy}
pub use Rattle.rule_meaning.specs.Statements.{StatementEffect, fail, give, passes_if}
pub use Rattle.rule_meaning.specs.declared.event.ChainNo.{ChainNo}
pub use Rattle.rule_meaning.specs.declared.facts.Facts.{Facts}
pub use Rattle.rule_paths.proofs.ReadLaws.{costs-long}
pub use Rattle.rule_types.specs.Types.{item_mismatches, rule_mismatches, table_mismatches}
pub use Rattle.rule_values.specs.Faults.{chain_out_of_range, has_wrong_value, item_out_of_range}
pub use Rattle.std.proofs.Common.{Bool, Bor, Equal, Global, Greater, Less, List, None, Option, Some, Vec, [], add-one, add-zero, ap, append_assoc, ap₂, arith}
pub use Rattle.std.proofs.Common.{cond, drop, false, get_or, if◌then◌else◌, inl, inr, length, length-append, map, not, refl, rules, subst, suc, sym, take}
pub use Rattle.std.proofs.Common.{take_all, true, zero, ℕ, ℤ, ⊎_elim, ◌&&◌, ◌*◌, ◌++◌, ◌+◌, ◌-◌, ◌<◌, ◌^◌, ◌↔◌, ◌∙◌, ◌∷◌, ◌≡◌, ◌≤◌, ◌⊎◌}
pub use Rattle.std.proofs.Math.Path.{fun_ext}
pub use Rattle.std.proofs.lemmas.Bool.{cases_lt, false_from_ne_true, false≢true, or_parts}
pub use Rattle.std.proofs.lemmas.List.{append-nil, drop_all, drop_more, get_or-map, length-map, length-take-le, map-append, map-id, take_more}
pub use Rattle.std.proofs.lemmas.List.Elements.{All-cons, All-contains, All-filter, All-head, All-nil, All-tail}
pub use Rattle.std.proofs.lemmas.List.Folds.{Any-from_list_any, fold-map, list_any_at}
pub use Rattle.std.proofs.lemmas.List.Sorted.{All-permutation, list_any-IsPermutation, sum_by-IsPermutation}
pub use Rattle.std.proofs.lemmas.List.Sums.{sum_by-append, sum_by-cons, sum_by_push}
pub use Rattle.std.proofs.lemmas.Option.{MatchOption-at_none, MatchOption-at_some, get_or_from_slice_get, none-some, same_Some, slice_get-map, slice_get_read}
pub use Rattle.std.proofs.lemmas.Option.{slice_get_within}
pub use Rattle.std.proofs.lemmas.Slice.Zip.{AllZip-left, all_zipped_more, firsts-zip}
pub use Rattle.std.specs.List.{AllZip, filter_map, fold, list_any, zip}
pub use Rattle.std.specs.List.Sorted.{IsPermutation, IsSortedBy, IsStableBy, ties}
pub use Rattle.std.specs.Option.{IsSomeAnd, option_map}
pub use Rattle.std.specs.Prelude.{All, Contains, filter, int_lt, min, slice_get, slice_index, sum_by}
