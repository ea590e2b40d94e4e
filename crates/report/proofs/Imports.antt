-- Names of other crates and of the definitions, for the proofs.
pub use Rattle.history.specs.History.{Entry}
pub use Rattle.history.specs.Outcomes.{report_index}
pub use Rattle.history.specs.declared.outcome.Cause.{Cause}
pub use Rattle.nft_tree.proofs.Chains.{chains_among}
pub use Rattle.nft_tree.specs.TableItems.{chains_of, counter_in, numbered_from_one}
pub use Rattle.nft_tree.specs.Tree.{ChainTree, TableTree, Text}
pub use Rattle.nft_tree.specs.TreeViews.{chain_tree, rule_tree, statement, table_tree, tables_of}
pub use Rattle.nft_tree.specs.declared.statement.CounterStart.{CounterStart}
pub use Rattle.devices.specs.Counting.{AppendsPrefix}
pub use Rattle.report.specs.Report.{and_number, drop_line, entry_lines, next_number, next_position}
pub use Rattle.report.specs.Representing.{IsReportOf, ReportState, Tallies, counter_at, drops_of, note_line, tally_at, tally_of}
pub use Rattle.report.specs.declared.notes.Note.{Note}
pub use Rattle.report.specs.declared.tallies.Tally.{Tally}
pub use Rattle.report.specs.steps.Bounds.{AllWithin}
pub use Rattle.report.specs.steps.Noting.{noted, noted_events}
pub use Rattle.report.specs.steps.Paging.{PutsAllBut, piece_text}
pub use Rattle.report.specs.steps.TallyLines.{chains_text, counter_text, numbered_lines, position_of, rules_text, statements_text, tables_text, tally_line}
pub use Rattle.report.specs.steps.TallyLines.{tally_or_zero}
pub use Rattle.report.specs.steps.Tallying.{changed, changed_from_one, counted_all, fresh_statement, fresh_table}
pub use Rattle.report.specs.steps.Totals.{drops_in}
pub use Rattle.rule_meaning.specs.declared.event.Event.{Event}
pub use Rattle.rule_meaning.specs.declared.event.StatementPosition.{StatementPosition}
pub use Rattle.std.proofs.Common.{Bool, List, None, Some, [], add-one, ap, append-nil, append_assoc, arith, cond, drop, false, get_or, inl, inr, length, map}
pub use Rattle.std.proofs.Common.{refl, set, slice_get, slice_index, suc, sym, take, true, zero, ℕ, ◌*◌, ◌++◌, ◌+◌, ◌-◌, ◌<◌, ◌==◌, ◌^◌, ◌∙◌, ◌∷◌, ◌≡◌, ◌≤◌}
pub use Rattle.std.proofs.KnownBytes.{Appends-kept}
pub use Rattle.std.proofs.Math.Seq.{drop-cons}
pub use Rattle.std.proofs.lemmas.Grind.{common_steps}
pub use Rattle.std.proofs.lemmas.List.Elements.{All-push}
pub use Rattle.std.proofs.lemmas.List.Sums.{sum_by-cons}
pub use Rattle.std.proofs.lemmas.Option.{slice_get-map}
pub use Rattle.std.specs.Fmt.{decimal}
pub use Rattle.std.specs.Io.KnownBytes.{Appends}
pub use Rattle.std.specs.List.{flat_map}
pub use Rattle.std.specs.Option.{option_and_then, option_map}
pub use Rattle.std.specs.Prelude.{All, count_by, is_some}
pub use Rattle.std.specs.declared.option.Option.{Option}
pub use mir.Val.{bool_byte}
