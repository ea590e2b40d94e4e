-- Whether some name is declared twice is decidable.
use Rattle.rule_names.proofs.Names.{Bool, HasDuplicate, List, TableTree, Text, [], bytes_eq, false, inr, list_any, refl, table_names, true, ⊎_elim, ◌∷◌, ◌≡◌}
use Rattle.std.proofs.Common.{Contains, inl, ◌⊎◌}
use Rattle.nft_tree.specs.declared.ruleset.Family.{Family}
use Rattle.rule_names.specs.Names.{DuplicateName, chain_names, set_and_map_names, two_chains, two_sets_or_maps, two_tables}
use Rattle.rule_names.proofs.Duplicates.{any-named, named-any, repeats-here, repeats-more, repeats-none, repeats-split}
use Rattle.list_laws.specs.Decisions.{Decided, decided_as, either_decided, some_decided}
use Rattle.nft_tree.specs.declared.ruleset.Family.TheVariants as families

by_test : (names : List Text) (name : Text) (stands : Bool) → list_any (bytes_eq name) names ≡ stands → Decided (Contains names name)
by_test names name true t = inl (any-named names name t)
by_test names name false f = inr (λ a. let t = named-any names name a in absurd cc)

repeats_decided : (names : List Text) → Decided (HasDuplicate names)
repeats_decided [] = inr repeats-none
repeats_decided (name ∷ names) =
    decided_as (⊎_elim (repeats-here name names) (repeats-more name names)) (repeats-split name names)
    (either_decided (by_test names name (list_any (bytes_eq name) names) refl) (repeats_decided names))

-- ---- tables

abbrev HasDuplicateTables : List TableTree → Type 0
HasDuplicateTables tables = HasDuplicate (table_names families.Ip tables) ⊎ HasDuplicate (table_names families.Inet tables)

abbrev HasDuplicateNames : (TableTree → List Text) → List TableTree → Type 0
HasDuplicateNames names tables = (t : TableTree) × Contains tables t × HasDuplicate (names t)

to_duplicate : (tables : List TableTree) → HasDuplicateTables tables
    ⊎ (HasDuplicateNames chain_names tables ⊎ HasDuplicateNames set_and_map_names tables) → DuplicateName tables
to_duplicate tables (inl (inl r)) = two_tables families.Ip r
to_duplicate tables (inl (inr r)) = two_tables families.Inet r
to_duplicate tables (inr (inl h)) = two_chains h.0 h.1 h.2
to_duplicate tables (inr (inr h)) = two_sets_or_maps h.0 h.1 h.2

of_family : (family : Family) (tables : List TableTree) → HasDuplicate (table_names family tables) → HasDuplicateTables tables
of_family families.Ip tables r = inl r
of_family families.Inet tables r = inr r

of_duplicate : (tables : List TableTree) → DuplicateName tables → HasDuplicateTables tables
    ⊎ (HasDuplicateNames chain_names tables ⊎ HasDuplicateNames set_and_map_names tables)
of_duplicate tables (two_tables family r) = inl (of_family family tables r)
of_duplicate tables (two_chains t at r) = inr (inl (t, at, r))
of_duplicate tables (two_sets_or_maps t at r) = inr (inr (t, at, r))

names_duplicate : (names : TableTree → List Text) (tables : List TableTree) → Decided (HasDuplicateNames names tables)
names_duplicate names tables = some_decided (λ t. HasDuplicate (names t)) tables (λ t at. repeats_decided (names t))

pub name_duplicate : (tables : List TableTree) → DuplicateName tables ⊎ (DuplicateName tables → ⊥)
name_duplicate tables =
    decided_as (to_duplicate tables) (of_duplicate tables)
    (either_decided (either_decided (repeats_decided (table_names families.Ip tables)) (repeats_decided (table_names families.Inet tables)))
    (either_decided (names_duplicate chain_names tables) (names_duplicate set_and_map_names tables)))
