-- Names of other crates and of the definitions, for the proofs.
pub use Rattle.box_file.specs.Box.{PlantTree, owner}
pub use Rattle.conntrack.specs.ConntrackEntry.{belongs_in, connection_of, connection_ref, may_begin, is_incoming}
pub use Rattle.conntrack.specs.TableEntries.{begun_with, have_disjoint_tuples}
pub use Rattle.conntrack.specs.ConntrackEntry.{is_live, is_taken, max_connections, of_original, of_reply, same_id}
pub use Rattle.conntrack.specs.TableEntries.{touched, touched_at}
pub use Rattle.conntrack.specs.Histories.{Begins, ConnectionChange, Creation, NoChange, Touches, TrackedPacket, creation_in, begun_in, connection_in, is_alive}
pub use Rattle.conntrack.specs.Histories.{is_creation, is_ended, live_list}
pub use Rattle.conntrack.specs.Updates.{Arrival, Confirmation, Confirmed, DoesNotClash, Unconfirmed, after_end, after_packet, change_of_packet, entry_at}
pub use Rattle.conntrack.specs.declared.belonging.Belonging.{Belonging}
pub use Rattle.conntrack.specs.declared.belonging.Belonging.TheVariants.{Ends, Found, NotFound}
pub use Rattle.conntrack.specs.declared.belonging.ConnectionRef.{ConnectionRef}
pub use Rattle.conntrack.specs.declared.connection.ConnId.{ConnId}
pub use Rattle.conntrack.specs.declared.connection.ConntrackEntry.{ConntrackEntry}
pub use Rattle.ip_headers.specs.declared.tuple.Direction.{Direction}
pub use Rattle.ip_headers.specs.declared.tuple.Direction.TheVariants.{Original, Reply}
pub use Rattle.conntrack.specs.declared.connection.Flags.{Flags}
pub use Rattle.history.specs.History.{Entry, moment_of, tracked_of}
pub use Rattle.history.specs.Setup.{Setup, limits_of}
pub use Rattle.history.specs.declared.outcome.Cause.{Cause}
pub use Rattle.ip_headers.specs.Header.{fault_of, packet_of, payload_of, protocol, transport_of, ttl}
pub use Rattle.ip_headers.specs.Same.{same_tuple}
pub use Rattle.ip_headers.specs.Tuple.{inner_tuple_of, inverse, inverse_kind, kind_of, tuple_of, tuple_with}
pub use Rattle.ip_headers.specs.declared.tuple.Endpoint.{Endpoint}
pub use Rattle.ip_headers.specs.declared.tuple.Kind.{Kind}
pub use Rattle.ip_headers.specs.declared.tuple.Kind.TheVariants.{Other}
pub use Rattle.ip_headers.specs.declared.tuple.Mapping.{Mapping}
pub use Rattle.ip_headers.specs.declared.tuple.Tuple.{Tuple}
pub use Rattle.ip_headers.specs.steps.Equal.{same_tuple-refl, same_tuple-true}
pub use Rattle.list_laws.specs.Elements.{Contains-cases, Contains-tail, Contains-unmap}
pub use Rattle.list_laws.specs.Lists.{Contains-head}
pub use Rattle.list_laws.specs.Options.{none_not_some, some_of_map, some_unique}
pub use Rattle.nat_mapping.specs.Mappings.{first_free_port, is_port_held, or_else, order_of, source_of}
pub use Rattle.nat_mapping.specs.HeldMappings.{IsOneToOne}
unfoldable pub use Rattle.nat_mapping.specs.Mappings.{inbound_of, port_of}
pub use Rattle.pcap_io.specs.Pcap.{Recorded}
pub use Rattle.rewrite.specs.Endpoints.{PortsMatchKind, between}
pub use Rattle.rewrite.specs.Rewritten.{rewritten}
pub use Rattle.rule_meaning.specs.Hooks.{BaseChain, Chains, HookResult, InTurn, NoChain, RunsBaseChain, Traversal, policy_of, with_policy}
pub use Rattle.rule_meaning.specs.declared.event.Event.{Event}
pub use Rattle.rule_meaning.specs.declared.event.HookVerdict.{HookVerdict}
pub use Rattle.rule_meaning.specs.declared.event.HookVerdict.TheVariants.{Accepted, Dropped, Translated}
pub use Rattle.rule_meaning.specs.declared.facts.CtFacts.{CtFacts}
pub use Rattle.rule_meaning.specs.declared.facts.CtFacts.TheVariants.{Known, NotLookedUp, Notrack}
pub use Rattle.rule_meaning.specs.declared.facts.Facts.{Facts}
pub use Rattle.rule_meaning.specs.declared.facts.Interface.{Interface}
pub use Rattle.std.proofs.Common.{◌++◌, ◌-◌, Bool, Err, IsTrue, List, None, Ok, Option, Result, Some, [], ap, append-nil, append_assoc, arith, cond, drop}
pub use Rattle.std.proofs.Common.{false, if◌then◌else◌, inl, inr, is_some, not, refl, subst, sym, true, ℕ, ◌∙◌, ◌∷◌, ◌≡◌, ◌≢◌, ◌≤◌, ◌⊎◌}
pub use Rattle.std.proofs.lemmas.Bool.{and_from, and_parts, both_ways, cond_both, false_from_ne_true, lt-ltb, ltb-true, not_from_false, or_left, or_parts}
pub use Rattle.std.proofs.lemmas.Bool.{or_right}
pub use Rattle.std.proofs.lemmas.List.Elements.{All-contains, All-contains_itself, All-filter, Contains-append_cases, Contains-append_left}
pub use Rattle.std.proofs.lemmas.List.Elements.{Contains-append_right, Contains-push_cases, filter_passes}
pub use Rattle.std.proofs.lemmas.Option.{none-some, same_Some}
pub use Rattle.std.specs.List.{Contains, filter, list_any}
pub use Rattle.stepping.specs.Carried.{ReceivedPacket, carried, carried_after, carried_by, carried_with, input_interface, interface_facts}
pub use Rattle.stepping.specs.Confirmations.{confirmation_by, confirmed, mark_in, port_choice_by, port_choice_for, port_choice_in, refusal, reply_to}
pub use Rattle.stepping.specs.Lookups.{belonging_of, ct_info_by_tuple, error_belonging, flags_in, looked_up_info, lookup_tuple_of, others_beside}
pub use Rattle.stepping.specs.Next.{AfterLookUp, EntryOf, HooksAndConfirm, IsHistoryOf, LookUp, Next, Path, arrival_of, entry_of_packet, live_at_record}
pub use Rattle.stepping.specs.Next.{moment_after, outcome_by, sent_on}
pub use Rattle.stepping.specs.Paths.{AfterRouting, Continue, DestinationNat, Drop, Hooks, InputOrForward, NatChains, PathState, Routing, RunsStage}
pub use Rattle.stepping.specs.Paths.{SourceNat, Step, StepResult, after_chains, destination_nat_result, on_arrival, source_nat_result, unless_dropped, ◌⨾◌}
pub use Rattle.translation.specs.CtInfos.{change_of, ct_facts_after_nat, ct_info_by, error_ct_info, facts_after_destination_nat}
pub use Rattle.translation.specs.CtInfos.{facts_after_source_nat, new_connection_of, outgoing, tracked_connection}
pub use Rattle.translation.specs.LiveMappings.{listed, mappings_in, mappings_of}
pub use Rattle.translation.specs.Nat.{after_destination_nat, after_source_nat, external_source, has_ports, is_same_interface, range_of, to_internal}
pub use Rattle.translation.specs.Nat.{with_destination_nat, with_source_mapping, with_source_nat}
pub use Rattle.translation.specs.declared.ct_info.CtInfo.{CtInfo}
pub use Rattle.translation.specs.declared.ct_info.CtInfo.TheVariants.{Invalid, New, Tracked}
pub use Rattle.translation.specs.declared.ct_info.NewConnection.{NewConnection}
pub use Rattle.translation.specs.declared.external.ExternalSource.{ExternalSource}
pub use Rattle.translation_laws.specs.Histories.{EntriesFollow, IsHistory, alive_at, latest_choice}
pub use Rattle.translation_laws.specs.Laws.{AllocatedAmong, AreApart, ComesWith, EndsSourceNat, EntryLaws, HasIncoming, HistoryLaws, HoldsMapping}
pub use Rattle.translation_laws.specs.Laws.{IsAccepted, IsHairpinned, LeavesWith, LivesOn, TouchesLive, did_translate, did_untrack, does_end, given_to}
pub use Rattle.translation_laws.specs.Laws.{hairpinned, names_of, names_ports, touch_of}
