-- Names of other crates and of the definitions, for the proofs.
unfoldable pub use Rattle.std.specs.List.{IsDistinct}
pub use Rattle.aged_tracker.specs.declared.aged_slots.AgedSlots.{AgedSlots}
pub use Rattle.aged_tracker.specs.declared.slot.Link.{Link}
pub use Rattle.aged_tracker.specs.declared.slot.Neighbour.TheVariants.{Next, Previous}
pub use Rattle.aged_tracker.specs.declared.slot.Slot.{Slot}
pub use Rattle.aged_tracker.specs.steps.Table.{AreLiveUntil, AreOldest, AreOldestBut, HasRings, IsAllLive, IsIndexed, IsLiveQueue, IsNode, IsNumbered, IsRing, IsRings}
pub use Rattle.aged_tracker.specs.steps.Table.{IsRising, IsTable, Lists, MAX_KEYS, Relinks, Relists, SameBy, Sets, belonging_as, belonging_at, belonging_in, connections_by, cons_held}
pub use Rattle.aged_tracker.specs.steps.Table.{entry_at, entry_below, except_links, held_at, held_by, held_from, held_of, is_first, key_in, last_at, last_by}
pub use Rattle.aged_tracker.specs.steps.Table.{limit_at, link_at, link_by, neighbour, next_of, number, numbered_entry, off, owner_by, owner_of, prev_of}
pub use Rattle.aged_tracker.specs.steps.Table.{pushed, queue_by, queue_of, serial_at, serial_by, slots_of, updated}
pub use Rattle.box_file.specs.declared.limits.Limits.{Limits}
pub use Rattle.conntrack.proofs.Ids.{apart-filter, apart-push, apart-touched_at, distinct-filter, distinct-push, distinct-touched_at, found_by_id}
pub use Rattle.conntrack.proofs.Ids.{length-without, without_new}
pub use Rattle.conntrack.specs.ConntrackEntry.{belonging_by, belongs_in, connection_of, connection_ref}
pub use Rattle.conntrack.specs.TableEntries.{IsNoneLater, aged_of, begun_with, has_distinct_ids}
pub use Rattle.conntrack.specs.ConntrackEntry.{is_incoming, is_live, is_taken, limit_of, same_id}
pub use Rattle.conntrack.specs.TableEntries.{has_id, have_disjoint_tuples, live_at, removed_entry}
pub use Rattle.conntrack.specs.TableEntries.{touched, touched_at}
pub use Rattle.conntrack.specs.declared.belonging.Belonging.{Belonging}
pub use Rattle.conntrack.specs.declared.belonging.Belonging.TheVariants.{Found, NotFound}
pub use Rattle.conntrack.specs.declared.connection.Aged.{Aged}
pub use Rattle.conntrack.specs.declared.connection.ConnId.{ConnId}
pub use Rattle.conntrack.specs.declared.connection.Connection.{Connection}
pub use Rattle.conntrack.specs.declared.connection.ConntrackEntry.{ConntrackEntry}
pub use Rattle.ip_headers.specs.declared.tuple.Direction.{Direction}
pub use Rattle.ip_headers.specs.declared.tuple.Direction.TheVariants.{Original, Reply}
pub use Rattle.conntrack.specs.declared.connection.Flags.{Flags}
pub use Rattle.futures.proofs.LinkLemmas.{IsIn-without, IsOn, IsRing-kept, IsRing-push, IsRing-skip, free_not_on, next_on, prev_end_on, prev_on, rings_apart}
pub use Rattle.futures.proofs.LinkLemmas.{without_absent, without_head}
pub use Rattle.futures.specs.LinkedLists.{IsApart, IsIn, without}
pub use Rattle.futures.specs.Links.{Inserts, Joins}
pub use Rattle.ip_headers.specs.Same.{same_tuple}
pub use Rattle.ip_headers.specs.declared.tuple.Tuple.{Tuple}
pub use Rattle.ip_headers.specs.steps.Equal.{same_tuple-true}
pub use Rattle.list_laws.specs.Elements.{Contains-map, Contains-unmap}
pub use Rattle.list_laws.specs.Lists.{find-filter}
pub use Rattle.list_laws.specs.Options.{option_cases, some_of_map}
pub use Rattle.slab.proofs.SlabLemmas.{Contains-entries, ContainsKey-within}
pub use Rattle.slab.specs.Slab.{Slab, Updates, entries, entries_from, get}
pub use Rattle.std.proofs.Common.{Bool, IsSome, List, None, Option, Some, [], add-one, ap, arith, cond, eqb, false, get_or, inl, inr, is_some, length}
pub use Rattle.std.proofs.Common.{length-append, map, not, refl, rules, set, subst, suc, sym, true, zero, ℕ, ◌&&◌, ◌++◌, ◌+◌, ◌-◌, ◌<◌, ◌||◌, ◌∙◌, ◌∷◌, ◌≡◌}
pub use Rattle.std.proofs.Common.{◌≢◌, ◌≤◌, ◌⊎◌}
pub use Rattle.std.proofs.lemmas.Bool.{and_parts, cases_Bool, cases_eq, cond-true, eq-eqb, eqb-true, ne_eqb, not-true, not_from_false, or_cases, or_parts}
pub use Rattle.std.proofs.lemmas.Bool.{true≢false}
pub use Rattle.std.proofs.lemmas.Bool.Decides.{nat_tests}
pub use Rattle.std.proofs.lemmas.Grind.{common_steps}
pub use Rattle.std.proofs.lemmas.Iterator.{YieldsList-from_map, YieldsList-from_slice, items_from_collect}
pub use Rattle.std.proofs.lemmas.Iterator.Consumers.{YieldsList-from_first}
pub use Rattle.std.proofs.lemmas.List.{get_or-set_other, get_or-set_same, length-map}
pub use Rattle.std.proofs.lemmas.List.Kept.{IsNonDecreasingBy-filter}
pub use Rattle.std.proofs.lemmas.List.Sorted.{Contains-permutation, IsNonDecreasingBy-from_sort_by_key, IsNonDecreasingBy-push, IsPermutation-map}
pub use Rattle.std.proofs.lemmas.List.Sorted.{IsPermutation-sym}
pub use Rattle.std.proofs.lemmas.Map.Keys.{IsDistinct-IsPermutation}
pub use Rattle.std.proofs.lemmas.Option.{none-some, same_Some}
pub use Rattle.std.specs.List.{AllByRecursion, Contains, filter, find, list_any}
pub use Rattle.std.specs.List.Sorted.{IsNonDecreasingBy, IsPermutation}
pub use Rattle.std.specs.Prelude.{IfNone, IfSome, if◌then◌else◌, option_map, slice_get}
