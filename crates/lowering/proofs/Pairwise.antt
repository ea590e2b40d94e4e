-- The tables of a table's declarations, in text order.
use Rattle.lowering.proofs.Names.{ComparedType, HasDeclared, HasMap, IsDeclaredSet, IsMapNumbers, IsMapVerdicts, ItemTree, List, Lookups, MapTree, Named, None}
use Rattle.lowering.proofs.Names.{Option, PlantTree, Some, Table, TableTree, [], arith, false, filter_map, item_mismatches, list_any, map_data_compared_type}
use Rattle.lowering.proofs.Names.{maps_of, or_from, or_parts, refl, set_in, set_mismatches, sets_of, slice_get, subst, suc, zero, ℕ, ◌++◌, ◌∷◌, ◌≡◌}
use Rattle.nft_tree.specs.declared.selector.ValueType.TheVariants as types
use Rattle.lowering.specs.steps.Tables.{AllPairs}
use Rattle.lowering.specs.steps.Tables.AllPairs.{none, more}
use Rattle.nft_tree.specs.Tree as tree

-- with tables for the declarations that are left there are tables for all
abbrev pub Completes : {A B : Type 0} → (A → B → Type 0) → List A → List A → List B → Type 0
Completes {A} {B} P left all ys = (more : List B) → AllPairs P left more → AllPairs P all (ys ++ more)

-- each element of the first list has its partner in the second
two-at : {A B : Type 0} (P : A → B → Type 0) {xs : List A} {ys : List B} → AllPairs P xs ys
    → (i : ℕ) (x : A) → slice_get xs i ≡ Some x → (y : B) × (slice_get ys i ≡ Some y) × P x y
two-at P none i x at = absurd cc
two-at P (more a b others bs q rest) zero x at = let e : a ≡ x = cc in (b, refl, subst (λ v. P v b) e q)
two-at P (more a b others bs q rest) (suc i) x at = two-at P rest i x at

has-map : (network : PlantTree) (t : TableTree) (l : Lookups) (i : ℕ) (m : MapTree) (k : Option ComparedType)
    → map_data_compared_type m.types ≡ k
    → (v : Table _) × (slice_get l.verdicts.items i ≡ Some v) × IsMapVerdicts network t m v
    → (w : Table ℕ) × (slice_get l.numbers.items i ≡ Some w) × IsMapNumbers network m w → HasMap network t l i m k
has-map network t l i m None e v w = (v.0, v.1, v.2 e)
has-map network t l i m (Some (Named types.Mark)) e v w = (w.0, w.1, w.2 types.Mark tt e)
has-map network t l i m (Some (Named types.Address)) e v w = (w.0, w.1, w.2 types.Address tt e)
has-map network t l i m (Some k) e v w = tt

pub all-declared : (network : PlantTree) (t : TableTree) (l : Lookups)
    → AllPairs (IsDeclaredSet network) (sets_of t) l.sets.items
    → AllPairs (IsMapVerdicts network t) (maps_of t) l.verdicts.items
    → AllPairs (IsMapNumbers network) (maps_of t) l.numbers.items → HasDeclared network t l
all-declared network t l ss vs ns = grind (arith, two-at, has-map)

-- the sets of items without type faults have none
pub sets-fit : (t : TableTree) (items : List ItemTree) → list_any (item_mismatches t) items ≡ false
    → list_any set_mismatches (filter_map set_in items) ≡ false
sets-fit t [] e = refl
sets-fit t (item ∷ items) e = let parts = or_parts (item_mismatches t item) (list_any (item_mismatches t) items) e in
    by item parts.0 (sets-fit t items parts.1)
  where
    by : (item : ItemTree) → item_mismatches t item ≡ false → list_any set_mismatches (filter_map set_in items) ≡ false
        → list_any set_mismatches (filter_map set_in (item ∷ items)) ≡ false
    by (tree.set s) here rest = or_from (set_mismatches s) _ here rest
    by _ here rest = rest
