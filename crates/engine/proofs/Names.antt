-- Names of other crates and of the definitions, for the proofs.
pub use Rattle.box_file.specs.Box.{HasBoxFault, IsBox, PlantTree}
pub use Rattle.engine.specs.AfterFault.{CountsFault, Devices, LeftDevices, NoneFailed, NothingTaken, RecordsTaken, Untouched, devices, failed_read}
pub use Rattle.engine.specs.AfterFault.{IsNotAhead, WriterFailed, failed_report, failed_write}
pub use Rattle.engine.specs.Judged.{JudgeRefuses, Judged}
pub use Rattle.engine.specs.Meaning.{Accepted, Meaning, WroteOutputs, ending_of}
pub use Rattle.engine.specs.Refusals.{IsBeforeHeader, IsOfTexts, IsRefusal, IsRefused, Refuses, Spelled, fault_at}
pub use Rattle.engine.specs.declared.fault.RulesFault.TheVariants.{Check, Text}
pub use Rattle.engine.specs.declared.fault.RunFault.{RunFault}
pub use Rattle.engine.specs.declared.fault.RunFault.TheVariants.{Box, Capture, Device, Rules}
pub use Rattle.engine.specs.declared.judging.Counts.{Counts}
pub use Rattle.engine.specs.declared.replay.Replay.{Replay}
pub use Rattle.engine.specs.steps.Inputs.{IsChecked, Laws}
pub use Rattle.engine.specs.steps.Replayed.{AllWritten, BeginsWithRecords, BreaksAtRecord, FinishFails, IsBegun, IsStop, LeavesOf, LeavesPrefix, OfBegun}
pub use Rattle.engine.specs.steps.Replayed.{OfEach, PrefixWritten, ReplayInput, ReplayRepresents, ReplayStart, Replayed, RepresentsSome, TakesRecord}
pub use Rattle.engine.specs.steps.Replayed.{WritesOutputs, ending_at, input_at, start_of, torn_at, unread_input}
pub use Rattle.history.specs.History.{Entry, IsEntry, IsNewest, capture_text, live_in, sends}
pub use Rattle.history.specs.Setup.{Setup}
pub use Rattle.nft_tree.specs.Tree.{TableTree}
pub use Rattle.nft_tree.specs.TreeViews.{table_tree, tables_of}
pub use Rattle.pcap_io.specs.CaptureStates.{CaptureState, FailsBetween, IsOfRecords, NextAnswers, ReadsRecord, ahead, is_ready}
pub use Rattle.pcap_io.specs.ReadAhead.{READ_AHEAD}
pub use Rattle.devices.specs.Counting.{AppendsPrefix, one_failure}
pub use Rattle.pcap_io.specs.Pcap.{Captured, Ending, Ends, HEADER_BYTES, IsRecord, Malformed, Over, Pcap, Recorded, Torn, Whole, decoded_after, decoded_records}
pub use Rattle.pcap_io.specs.Pcap.{format_of, frame, header_fault, own_moment, stream_of}
pub use Rattle.pcap_io.specs.Sll2.{Sent, sll2_header, sll2_record}
pub use Rattle.pcap_io.specs.declared.fault.CaptureError.{CaptureError}
pub use Rattle.pcap_io.specs.declared.fault.CaptureError.TheVariants.{Refused}
pub use Rattle.pcap_io.specs.declared.fault.CaptureFault.{CaptureFault}
pub use Rattle.devices.specs.declared.failures.Failures.{Failures}
pub use Rattle.pcap_io.specs.declared.format.Format.{Format}
pub use Rattle.devices.specs.steps.Written.{gets_more, gets_none, gets_part, part_after, part_first, part_none, part_same, part_whole}
pub use Rattle.report.specs.Report.{closing_lines, entry_lines, lines_of, report_text}
pub use Rattle.rule_check.specs.WellFormed.{LeastFault, WellFormed}
pub use Rattle.rule_check.specs.declared.fault.CheckFault.{CheckFault}
pub use Rattle.rule_check.specs.Limits.{chain_count, rule_count}
pub use Rattle.std.proofs.Common.{Bool, Err, IfErr, IfSome, List, None, Ok, Option, Result, Some, [], ap, append-nil, append_assoc, arith, drop, false, inl}
pub use Rattle.std.proofs.Common.{inr, length, length-append, max, min, refl, rules, subst, sym, true, ℕ, ◌++◌, ◌-◌, ◌<◌, ◌^◌, ◌∙◌, ◌∷◌, ◌≡◌, ◌≤◌, ◌⊎◌}
pub use Rattle.std.proofs.KnownBytes.{Appends-kept, Appends-trans, Consumes-nil, Keeps-refl}
pub use Rattle.std.proofs.lemmas.Grind.{flat_map-append}
pub use Rattle.std.proofs.lemmas.Result.{err_from_is_err_and}
pub use Rattle.std.specs.Io.KnownBytes.{Appends, Consumes, IsAtEnd, Keeps}
pub use Rattle.std.specs.List.{flat_map}
pub use Rattle.stepping.specs.Next.{IsHistoryOf, Next}
pub use Rattle.stepping.specs.Representing.{EngineState, Represents, recorded_of, sends_of, setup_of}
