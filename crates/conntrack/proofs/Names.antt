-- Names of other crates and of the definitions, for the proofs.
pub use Rattle.box_file.specs.declared.limits.Limits.{Limits}
pub use Rattle.conntrack.specs.ConntrackEntry.{belonging_by, belongs_in, connection_of, connection_ref}
pub use Rattle.conntrack.specs.TableEntries.{IsNoneLater, begun_with, belonging_without_id}
pub use Rattle.conntrack.specs.ConntrackEntry.{is_incoming, is_live, is_taken, limit_of, of_original}
pub use Rattle.conntrack.specs.TableEntries.{has_distinct_ids, has_id, have_disjoint_tuples, live_at}
pub use Rattle.conntrack.specs.ConntrackEntry.{of_reply, same_id, without, without_id}
pub use Rattle.conntrack.specs.TableEntries.{touched, touched_at}
pub use Rattle.conntrack.specs.Histories.{ConnectionChange, Creation, TrackedPacket, begun_in, belongs, connection_in, is_ended, is_that, is_touch_of}
pub use Rattle.conntrack.specs.Histories.{live_list, number_if_begins, replayed}
pub use Rattle.conntrack.specs.Phases.{no_flags}
pub use Rattle.conntrack.specs.Tuples.{no_tuple}
pub use Rattle.conntrack.specs.Updates.{Arrival, Confirmation, Confirmed, DoesNotClash, Unconfirmed, after_end, after_packet, change_of_packet, ended_by_packet}
pub use Rattle.conntrack.specs.Updates.{entry_at, tracked_packet, with_begun}
pub use Rattle.conntrack.specs.declared.belonging.Belonging.{Belonging}
pub use Rattle.conntrack.specs.declared.belonging.Belonging.TheVariants.{Ends, Found, NotFound}
pub use Rattle.conntrack.specs.declared.belonging.ConnectionRef.{ConnectionRef}
pub use Rattle.conntrack.specs.declared.connection.ConnId.{ConnId}
pub use Rattle.conntrack.specs.declared.connection.Connection.{Connection}
pub use Rattle.conntrack.specs.declared.connection.ConntrackEntry.{ConntrackEntry}
pub use Rattle.ip_headers.specs.declared.tuple.Direction.{Direction}
pub use Rattle.ip_headers.specs.declared.tuple.Direction.TheVariants.{Original, Reply}
pub use Rattle.conntrack.specs.declared.connection.Flags.{Flags}
pub use Rattle.conntrack.specs.steps.Entries.{has_ids_below, has_tuple}
pub use Rattle.ip_headers.specs.Same.{same_tuple}
pub use Rattle.ip_headers.specs.declared.tuple.Kind.{Kind}
pub use Rattle.ip_headers.specs.declared.tuple.Tuple.{Tuple}
pub use Rattle.ip_headers.specs.steps.Equal.{same_tuple-refl, same_tuple-true}
pub use Rattle.list_laws.specs.Lists.{any_of_map, find-filter}
pub use Rattle.std.proofs.Common.{Bool, List, None, Option, Some, [], ap, arith, cond, drop, false, length, map, not, refl, rules, subst, sym, take, tests}
pub use Rattle.std.proofs.Common.{true, ℕ, ◌&&◌, ◌++◌, ◌+◌, ◌-◌, ◌<◌, ◌||◌, ◌∙◌, ◌∷◌, ◌≡◌, ◌≤◌}
pub use Rattle.std.proofs.Math.Bool.{or-false}
pub use Rattle.std.proofs.lemmas.Bool.{and_parts, eq-eqb, lt-ltb, ltb-true, not-true, or_parts}
pub use Rattle.std.proofs.lemmas.Bool.Decides.{nat_tests}
pub use Rattle.std.proofs.lemmas.Iterator.{YieldsList-from_slice}
pub use Rattle.std.proofs.lemmas.Iterator.Search.{find_from_yields_List}
pub use Rattle.std.proofs.lemmas.List.{append-nil, get_or_default, length-map, map-append, map-id}
pub use Rattle.std.proofs.lemmas.List.Edits.{map_over_more}
pub use Rattle.std.proofs.lemmas.List.Elements.{filter-append}
pub use Rattle.std.proofs.lemmas.List.Folds.{list_all-append, list_any-append}
pub use Rattle.std.specs.List.{find, list_all, list_any}
pub use Rattle.std.specs.Option.{option_map}
pub use Rattle.std.specs.Prelude.{filter, if◌then◌else◌, is_some, nat_lt}
