-- What a key's place among the entries says of the map, and of the map after a change there.
use Rattle.std.proofs.Common.{◌≡◌, ℕ, ◌<◌, Bool, true≢false, cond, [], ◌∷◌, ◌++◌, sym, ap, subst, ◌∙◌}
use Rattle.std.specs.Prelude.{Option, Some, None, IfSome, IfNone, IsSome, is_some, slice_get}
use Rattle.std.specs.Cmp.{IsEquivalence}
use Rattle.std.specs.HashMap.{HashMap, get, values, hash_map_len, IsUnique}
use Rattle.std.specs.List.{swap_remove, IsDistinct}
use Rattle.std.specs.Map.{keys_of, lookup}
use Rattle.std_collections.proofs.Entries.{keys_set_value_at}
use Rattle.std_collections.proofs.HashLookup.{IsFirst, IsFirst-from_position, IsAbsent-from_position, first-lt, lookup-IsFirst, lookup-IsAbsent}
use Rattle.std_collections.proofs.HashLookup.{Updated-None, Updated-push, Updated-set, Updated-take, distinct_push, distinct_swap_remove}
use Rattle.chained_map.specs.Values.{position, set_value_at}

-- what a look-up says, by its two cases
pub by_result : (r p : Option ℕ) (P : ℕ → Type 0) (Q : Type 0) → IfSome r P → IfNone r Q
    → ((i : ℕ) → P i → p ≡ Some i) → (Q → p ≡ None) → r ≡ p
by_result None p P Q a b some none = sym (none b)
by_result (Some i) p P Q a b some none = sym (some i a)

-- nothing is none and some
pub none_there : {X : Type 0} {o : Option X} → o ≡ None → IsSome o → ⊥
none_there none some = true≢false (sym some ∙ ap is_some none)

module _ {K V S : Type 0} (eq : K → K → Bool) (key : K) (m : HashMap K V S) where
  module _ {i : ℕ} (place : Some i ≡ position (eq key) m.entries) where
    first : IsFirst (eq key) m.entries i
    first = IsFirst-from_position (eq key) m.entries i (sym place)

    pub found_within : i < hash_map_len m
    found_within = first-lt (eq key) m.entries i first

    pub found_value : {v : V} → slice_get (values m) i ≡ Some v → get eq m key ≡ Some v
    found_value at = lookup-IsFirst (eq key) m.entries i first ∙ at

    pub found_some : {v : V} → slice_get (values m) i ≡ Some v → get eq m key ≡ None → ⊥
    found_some at none = true≢false (sym (ap is_some (found_value at)) ∙ ap is_some none)

    module _ (laws : IsEquivalence eq) (n : HashMap K V S) where
      -- another value is written there
      pub written_values : (w : V) → n.entries ≡ set_value_at m.entries i w → (q : K) → get eq n q ≡ cond (eq key q) (Some w) (get eq m q)
      written_values w after q =
          ap (lookup (eq q)) after ∙ (Updated-set eq laws (eq key) (laws.congr key) m.entries i w first).0 q

      pub written_unique : (w : V) → n.entries ≡ set_value_at m.entries i w → IsUnique eq m → IsUnique eq n
      written_unique w after unique = subst (IsDistinct eq) (sym (ap keys_of after ∙ keys_set_value_at m.entries i w)) unique

      -- it is taken out
      pub taken_values : (e : K × V) → n.entries ≡ swap_remove m.entries i e → IsUnique eq m
          → (q : K) → get eq n q ≡ cond (eq key q) None (get eq m q)
      taken_values e after unique q =
          ap (lookup (eq q)) after ∙ (Updated-take eq laws (eq key) (laws.congr key) m.entries i e unique first).0 q

      pub taken_unique : (e : K × V) → n.entries ≡ swap_remove m.entries i e → IsUnique eq m → IsUnique eq n
      taken_unique e after unique =
          subst (λ es. IsDistinct eq (keys_of es)) (sym after) (distinct_swap_remove eq laws m.entries i e found_within unique)

  module _ (place : None ≡ position (eq key) m.entries) where
    pub not_found : get eq m key ≡ None
    not_found = lookup-IsAbsent (eq key) m.entries (IsAbsent-from_position (eq key) m.entries (sym place))

    pub not_some : IsSome (get eq m key) → ⊥
    not_some some = none_there not_found some

    module _ (laws : IsEquivalence eq) where
      pub same_values : (q : K) → get eq m q ≡ cond (eq key q) None (get eq m q)
      same_values = (Updated-None eq laws (eq key) (laws.congr key) m.entries (IsAbsent-from_position (eq key) m.entries (sym place))).0

      -- it is added
      pub pushed_values : (n : HashMap K V S) (w : V) → n.entries ≡ m.entries ++ (key, w) ∷ []
          → (q : K) → get eq n q ≡ cond (eq key q) (Some w) (get eq m q)
      pushed_values n w after q =
          ap (lookup (eq q)) after
          ∙ (Updated-push eq laws m.entries key w (IsAbsent-from_position (eq key) m.entries (sym place))).0 q

      pub pushed_unique : (n : HashMap K V S) (w : V) → n.entries ≡ m.entries ++ (key, w) ∷ [] → IsUnique eq m → IsUnique eq n
      pushed_unique n w after unique =
          subst (λ es. IsDistinct eq (keys_of es)) (sym after)
          (distinct_push eq laws m.entries (key, w) unique (IsAbsent-from_position (eq key) m.entries (sym place)))
