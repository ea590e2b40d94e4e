-- Names of other crates and of the definitions, for the proofs.
pub use Rattle.box_file.specs.declared.limits.Limits.{Limits}
pub use Rattle.conntrack.specs.ConntrackEntry.{belongs_in}
pub use Rattle.conntrack.specs.TableEntries.{IsNoneLater, SameExceptIds, belonging_without_id, has_distinct_ids}
pub use Rattle.conntrack.specs.ConntrackEntry.{without_id}
pub use Rattle.conntrack.specs.TableEntries.{live_at}
pub use Rattle.conntrack.specs.Histories.{is_creation, live_list}
pub use Rattle.conntrack.specs.Updates.{Arrival, Confirmation, Unconfirmed, after_end, after_packet, change_of_packet, entry_at}
pub use Rattle.conntrack.specs.declared.belonging.Belonging.{Belonging}
pub use Rattle.conntrack.specs.declared.connection.ConnId.{ConnId}
pub use Rattle.conntrack.specs.declared.connection.ConntrackEntry.{ConntrackEntry}
pub use Rattle.conntrack.specs.declared.connection.Flags.{Flags}
pub use Rattle.filter_vm.specs.Machine.{EventsAndTicks}
pub use Rattle.history.specs.History.{Entry, live_in, moment_of, tracked_of}
pub use Rattle.history.specs.Setup.{Setup, limits_of}
pub use Rattle.history.specs.declared.outcome.Cause.{Cause}
pub use Rattle.ip_headers.specs.Header.{transport_of}
pub use Rattle.ip_headers.specs.Tuple.{inner_tuple_of, tuple_of}
pub use Rattle.ip_headers.specs.declared.tuple.Mapping.{Mapping}
pub use Rattle.ip_headers.specs.declared.tuple.Tuple.{Tuple}
pub use Rattle.pcap_io.specs.Pcap.{Recorded}
pub use Rattle.rule_meaning.specs.declared.event.Event.{Event}
pub use Rattle.rule_meaning.specs.declared.event.HookVerdict.TheVariants.{Accepted}
pub use Rattle.rule_meaning.specs.declared.facts.CtFacts.{CtFacts}
pub use Rattle.rule_meaning.specs.declared.facts.CtFacts.TheVariants.{Notrack}
pub use Rattle.rule_meaning.specs.declared.facts.Facts.{Facts}
pub use Rattle.std.proofs.Common.{◌+◌, ◌-◌, Bool, Err, List, None, Ok, Option, Result, Some, [], ap, arith, drop, false, length, map, refl}
pub use Rattle.std.proofs.Common.{subst, sym, take, vec_capacity, vec_len, ℕ, ◌∙◌, ◌∷◌, ◌≡◌, ◌≤◌}
pub use Rattle.std.proofs.lemmas.List.{length-drop}
pub use Rattle.std.proofs.lemmas.Result.{err_from_is_err_and}
pub use Rattle.std.specs.Prelude.{IsTrue, find, max}
pub use Rattle.stepping.specs.Carried.{ReceivedPacket, carried, interface_facts}
pub use Rattle.stepping.specs.Confirmations.{confirmation_by, confirmation_of, confirmed, mark_in, refusal, reply_to, unless_refused}
pub use Rattle.stepping.specs.Lookups.{belonging_by_tuple, belonging_of, ct_info_by_tuple, error_belonging, flags_in, looked_up_info, lookup_tuple_of}
pub use Rattle.stepping.specs.Lookups.{others_beside, others_in}
pub use Rattle.stepping.specs.Next.{EntryOf, HooksAndConfirm, Next, Path, arrival_of, entry_of_packet, entry_without_packet, final_state}
pub use Rattle.stepping.specs.Next.{live_at_record, moment_after}
pub use Rattle.stepping.specs.Next.{tracked_as, tuple_in, with_info}
pub use Rattle.stepping.specs.Paths.{AfterRouting, Continue, DestinationNat, Drop, Hooks, InputOrForward, NatChains, PathState, RunsStage, SourceNat, Step}
pub use Rattle.stepping.specs.Paths.{StepResult, after_chains, destination_nat_result, goes_on, on_arrival, routed, source_nat_result, stops, unless_dropped}
pub use Rattle.stepping.specs.Paths.{◌⨾◌}
pub use Rattle.stepping.specs.Representing.{EngineState, ShownEntry, newest_of, recorded_of, shown_entry}
pub use Rattle.stepping.specs.steps.Confirming.{CanConfirm, Confirms, begins, begun_in, confirmed_in, entry_in, entry_of}
pub use Rattle.stepping.specs.steps.Interfaces.{interfaces_of, is_at}
pub use Rattle.stepping.specs.steps.Processing.{Extends, Follows, HasProcessed, IsBeforeFirst, held_by, newest_in}
pub use Rattle.stepping.specs.steps.Steps.{Spends, TakesStep, path_state, setup_in, step_result}
pub use Rattle.translation.specs.CtInfos.{ct_info_by, error_ct_info, facts_after_destination_nat, facts_after_source_nat, untranslated}
pub use Rattle.translation.specs.Fitting.{Fits}
pub use Rattle.translation.specs.LiveMappings.{mappings_in}
pub use Rattle.translation.specs.declared.ct_info.CtInfo.{CtInfo}
pub use Rattle.translation.specs.declared.ct_info.CtInfo.TheVariants.{New, Tracked, Untracked}
pub use Rattle.translation.specs.declared.ct_info.NewConnection.{NewConnection}
pub use Rattle.translation.specs.declared.ct_info.TrackedConnection.{TrackedConnection}
