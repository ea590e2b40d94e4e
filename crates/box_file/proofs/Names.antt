-- Names of other crates and of the definitions, for the proofs.
pub use Rattle.box_file.specs.Box.{AreLimits, HasBoxFault, Idle, Interface, IsBox, IsIndex, IsLine, IsName, Line, NamedRoute, PlantTree, Reads, RouteEntry}
pub use Rattle.box_file.specs.Box.{any_pair, best_interface, best_of, covers, default_line, defaults_in, each_is_line, entering_of, greatest, has_address}
pub use Rattle.box_file.specs.Box.{has_index, idle_for, idle_line, idles_in, index_of, interface_line, interfaces_in, is_named, is_of_kind, is_out_of_range}
pub use Rattle.box_file.specs.Box.{is_malformed, is_unknown, known_index, least_fault, plant_of, route_line, route_of_line, routes_in, same_text, seconds_of}
pub use Rattle.box_file.specs.Box.{two_indexes, two_names, words_in}
pub use Rattle.box_file.specs.Idle.{limit_for, minimum_for, usual_limits, word_of}
pub use Rattle.box_file.specs.Text.{before_comment, dotted, dotted_prefix, is_blank, is_newline, is_nonempty, is_numeral, lines_of, onto_first, parts_of}
pub use Rattle.box_file.specs.Text.{words_of}
pub use Rattle.box_file.specs.declared.idle_line.IdleKind.{IdleKind}
pub use Rattle.box_file.specs.steps.Best.{IsLongestFirst, begin_of, end_of, first_interface, route_entry}
pub use Rattle.box_file.specs.steps.Plant.{EachIndexed, EachRouteIndexed, KnowsNames, interface_of}
pub use Rattle.box_file.specs.steps.Reading.{begins_word, cut, ends_word, first_line, has_none, idle_tree, interface_tree, kind_in, line_of, line_tree}
pub use Rattle.box_file.specs.steps.Reading.{lines_in, route_tree, uncons}
unfoldable pub use Rattle.box_file.specs.steps.Reading.{address_in, all_in, default_words, idle_words, interface_words, line_in, name_in, number_in, octet_in}
unfoldable pub use Rattle.box_file.specs.steps.Reading.{prefixed_in, route_words}
pub use Rattle.box_file.specs.steps.Tests.{AreLinesByKind, lacks, two_values}
pub use Rattle.list_laws.specs.Lists.{any_of_map, find-filter, rest_from}
pub use Rattle.list_laws.specs.Options.{IfSome_at, ◌>>=◌}
pub use Rattle.set_intervals.specs.Pairs.{first_value, in_range}
pub use Rattle.std.proofs.Common.{Bool, Err, List, None, Ok, Option, Result, Some, [], add-one, ap, append_assoc, arith, cond, drop, eqb, eqb-true, false}
pub use Rattle.std.proofs.Common.{get_or, inl, inr, length, length-drop, ltb, map, nat_eq, not, one-add, refl, rules, subst, suc, sym, take, tests, true, ℕ}
pub use Rattle.std.proofs.Common.{◌%◌, ◌&&◌, ◌*◌, ◌++◌, ◌+◌, ◌-◌, ◌/◌, ◌<◌, ◌==◌, ◌^◌, ◌||◌, ◌∙◌, ◌∷◌, ◌≡◌, ◌≢◌, ◌≤◌, ◌⊎◌}
pub use Rattle.std.proofs.Math.Bool.{Bool-set, not-not}
pub use Rattle.std.proofs.lemmas.Bool.{and_parts, cases_Bool, cases_eq, cases_lt, cond_both, eq-eqb, false_from_ne_true, false≢true, le-ltb, lt-ltb, ltb-false}
pub use Rattle.std.proofs.lemmas.Bool.{ltb-true, ne_eqb, not-false, or_parts}
pub use Rattle.std.proofs.lemmas.Bool.Decides.{nat_tests}
pub use Rattle.std.proofs.lemmas.Fmt.{IsAscii-from_digits, decimal-digits_value, decimal_nonempty, digits_decimal, digits_value-decimal, first_decimal}
pub use Rattle.std.proofs.lemmas.Fmt.{length-decimal-le}
pub use Rattle.std.proofs.lemmas.Iterator.{YieldsList-from_slice}
pub use Rattle.std.proofs.lemmas.Iterator.Search.{position_from_yields_List}
pub use Rattle.std.proofs.lemmas.List.{append-nil, drop_all, get_or-map, length-append, length-map, map_more, map_push, nil_from_length, take_all, take_at}
pub use Rattle.std.proofs.lemmas.List.Elements.{filter_agree, filter_map-append}
pub use Rattle.std.proofs.lemmas.Result.{IfOk-weaker}
pub use Rattle.std.specs.Borrow.{Bor}
pub use Rattle.std.specs.Char.{is_ascii_digit}
pub use Rattle.std.specs.Cmp.{IsEquivalence, IsStrictWeakOrder}
pub use Rattle.std.specs.Cmp.Lexicographic.{pointwise}
pub use Rattle.std.specs.HashMap.{get}
pub use Rattle.std.specs.HashSet.{contains}
pub use Rattle.std.specs.List.{AllByRecursion, cons_option, filter_map, list_all, list_any, position, position_or_len}
pub use Rattle.std.specs.List.Sorted.{IsSortedBy, IsStableBy, ties}
pub use Rattle.std.specs.Option.{option_map, option_or}
pub use Rattle.std.specs.Prelude.{IfSome, IsTrue, MatchResult, codes, filter, find, if◌then◌else◌, is_some, nat_lt, unwrap_or}
pub use Rattle.std.specs.Str.Parse.{digits_value}
