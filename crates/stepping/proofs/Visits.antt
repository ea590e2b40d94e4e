-- The visits of slots that a packet's look-up and confirmation count.
use Rattle.stepping.proofs.Names.{CtFacts, CtInfo, ConntrackEntry, List, None, Notrack, Option, Some, arith, looked_up_info, tuple_of, untranslated, ℕ}
use Rattle.stepping.proofs.Names.{◌+◌, ◌≡◌, ◌≤◌}
use Rattle.std.specs.Prelude.{option_map}
use Rattle.conntrack.specs.TableEntries.{IsWithin, SlotBounds}
use Rattle.connection_table.specs.Table.{look_up_slots}
use Rattle.stepping.specs.Lookups.{belonging_of, ct_info_by_tuple}
use Rattle.stepping.specs.steps.Confirming.{confirmation_slots}
use Rattle.stepping.specs.steps.Processing.{packet_slots}

pub unvisited : (bounds : Option SlotBounds) (most : SlotBounds → ℕ) (count : ℕ) → IsWithin (option_map most bounds) count count
unvisited None most count = omega arith
unvisited (Some b) most count = omega arith

within_both : (bounds : Option SlotBounds) (first second most : SlotBounds → ℕ) (old between new : ℕ)
    → ((b : SlotBounds) → first b + second b ≤ most b) → IsWithin (option_map first bounds) old between
    → IsWithin (option_map second bounds) between new → IsWithin (option_map most bounds) old new
within_both None first second most old between new fit one other = omega arith
within_both (Some b) first second most old between new fit one other = omega (arith, fit b)

-- NAT changes no packet's kind of state
kept : (info before : CtInfo) (b : SlotBounds) → untranslated info ≡ untranslated before
    → confirmation_slots info b ≡ confirmation_slots before b
kept info before b same = grind arith

module _ (bounds : Option SlotBounds) (held : List ConntrackEntry) (p : List ℕ) where
  confirmed : (ct : CtFacts) (info : CtInfo) (b : SlotBounds) → untranslated info ≡ untranslated (looked_up_info ct held p)
      → confirmation_slots info b ≤ confirmation_slots (ct_info_by_tuple held p (tuple_of p)) b
  confirmed Notrack info b same = omega (arith, kept info (looked_up_info Notrack held p) b same)
  confirmed ct info b same = omega (arith, kept info (ct_info_by_tuple held p (tuple_of p)) b same)

  -- a packet that is dropped after its look-up
  pub visits_dropped : (old new : ℕ) → IsWithin (option_map (look_up_slots (belonging_of held p)) bounds) old new
      → IsWithin (option_map (packet_slots held p) bounds) old new
  visits_dropped old new look =
      within_both bounds (look_up_slots (belonging_of held p)) (λ b. 0) (packet_slots held p) old new new
      (λ b. omega arith) look (unvisited bounds (λ b. 0) new)

  pub visits_confirmed : (ct : CtFacts) (info : CtInfo) (old between new : ℕ)
      → untranslated info ≡ untranslated (looked_up_info ct held p)
      → IsWithin (option_map (look_up_slots (belonging_of held p)) bounds) old between
      → IsWithin (option_map (confirmation_slots info) bounds) between new
      → IsWithin (option_map (packet_slots held p) bounds) old new
  visits_confirmed ct info old between new same look confirm =
      within_both bounds (look_up_slots (belonging_of held p)) (confirmation_slots info) (packet_slots held p) old between new
      (λ b. omega (arith, confirmed ct info b same)) look confirm
