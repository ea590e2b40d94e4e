-- The mappings after the removal of an entry.
use Rattle.std.proofs.Common.{◌≡◌, ℕ, ◌+◌, Bool, true, false, not, cond, List, [], ◌∷◌}
use Rattle.std.proofs.Common.{◌++◌, Some, refl, sym, ◌∙◌, ap, arith}
use Rattle.std.specs.List.{find}
use Rattle.std.specs.Option.{option_map}
use Rattle.std.proofs.lemmas.Bool.{and_parts, eqb-true, not-true}
use Rattle.std.proofs.lemmas.Bool.Decides.{nat_tests}
use Rattle.ip_headers.specs.declared.tuple.Mapping.{Mapping}
use Rattle.conntrack.specs.declared.connection.Aged.{Aged}
use Rattle.conntrack.specs.declared.connection.ConnId.{ConnId}
use Rattle.conntrack.specs.declared.connection.ConntrackEntry.{ConntrackEntry}
use Rattle.conntrack.specs.ConntrackEntry.{same_id, without}
use Rattle.conntrack.specs.TableEntries.{aged_of, has_distinct_ids, has_id, removed_entry}
use Rattle.nat_mapping.specs.HeldMappings.{HoldsSame, holders_of}
use Rattle.translation.specs.LiveMappings.{listed, mappings_in}
use Rattle.connection_table.proofs.Counts.{holders-append}
use Rattle.connection_table.proofs.Mapped.{holders-first}

without_new : (id : ConnId) (held : List ConntrackEntry) → has_id id held ≡ false → without id held ≡ held
without_new id [] h = refl
without_new id (x ∷ held) h = grind (arith, nat_tests, without_new id held)

-- those of the removed entry
handed : Mapping → Aged → ℕ
handed m aged = holders_of m (listed aged.source) + holders_of m (listed aged.dest)

module _ (m : Mapping) (id : ConnId) where
  here_or_there : (b : Bool) (h : ConntrackEntry) (aged : Aged) (held : List ConntrackEntry) → same_id id h ≡ b
      → not (has_id h.id held) ≡ true
      → option_map aged_of (cond b (Some h) (find (same_id id) held)) ≡ Some aged
      → (removed_entry id held ≡ Some aged
      → handed m aged + holders_of m (mappings_in (without id held)) ≡ holders_of m (mappings_in held))
      → handed m aged + holders_of m (mappings_in (cond (not b) (h ∷ without id held) (without id held)))
      ≡ holders_of m (mappings_in (h ∷ held))
  unfolding handed
  here_or_there true h aged held is new taken rest =
      let same : h.id.0 ≡ id.0 = eqb-true h.id.0 id.0 is in
      let stays : without h.id held ≡ held = without_new h.id held (not-true _ new) in
      let without_id : without id held ≡ held = ap (λ n. without (record { 0 = n }) held) (sym same) ∙ stays in
      let of_aged : aged_of h ≡ aged = cc in
      rw (← of_aged, without_id) (omega (arith, holders-first m h held))
  here_or_there false h aged held is new taken rest =
      omega (arith, holders-first m h (without id held), holders-first m h held, rest taken)

  taken_apart : (held : List ConntrackEntry) (aged : Aged) → has_distinct_ids held ≡ true → removed_entry id held ≡ Some aged
      → handed m aged + holders_of m (mappings_in (without id held)) ≡ holders_of m (mappings_in held)
  taken_apart [] aged distinct taken = cc
  taken_apart (h ∷ held) aged distinct taken =
      let parts = and_parts _ _ distinct in
      here_or_there (same_id id h) h aged held refl parts.0 taken (taken_apart held aged parts.1)

pub held_with_removed : (id : ConnId) (held : List ConntrackEntry) (aged : Aged) → has_distinct_ids held ≡ true
    → removed_entry id held ≡ Some aged
    → HoldsSame (listed aged.source ++ (listed aged.dest ++ mappings_in (without id held))) (mappings_in held)
unfolding handed
held_with_removed id held aged distinct taken m =
    let others = mappings_in (without id held) in
    let first = holders-append m (listed aged.source) (listed aged.dest ++ others) in
    let second = holders-append m (listed aged.dest) others in
    omega (arith, first, second, taken_apart m id held aged distinct taken)

-- the same for any list with the mappings held before
pub released_with_removed : (id : ConnId) (held : List ConntrackEntry) (aged : Aged) (mappings : List Mapping)
    → has_distinct_ids held ≡ true → removed_entry id held ≡ Some aged → HoldsSame (mappings_in held) mappings
    → HoldsSame (listed aged.source ++ (listed aged.dest ++ mappings_in (without id held))) mappings
released_with_removed id held aged mappings distinct taken same m =
    held_with_removed id held aged distinct taken m ∙ same m
