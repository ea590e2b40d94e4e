-- The tables of declared sets and maps by name.
use Rattle.lowering.proofs.Names.{Bool, ComparedType, HasMap, HasTable, IsNumberType, Keeps, List, Lookups, MapTree, MatchOption, Named, None, Option}
use Rattle.lowering.proofs.Names.{PlantTree, Some, Table, TableTree, Text, [], ap, arith, cond, data_number, data_verdict, declared_gives, false, find, map}
use Rattle.lowering.proofs.Names.{map_data_compared_type, map_key_compared_type, map_ref_mismatches, maps_of, not, option_map, refl, rule_verdict_of, same}
use Rattle.lowering.proofs.Names.{same_compared_type, same_data, selector_compared_type, slice_get, suc, true, ℕ, ◌&&◌, ◌∙◌, ◌∷◌, ◌≡◌}
use Rattle.std.specs.Str.{bytes_eq}
use Rattle.nft_tree.specs.declared.selector.Selector.{Selector}
use Rattle.nft_tree.specs.declared.selector.ValueType.{ValueType}
use Rattle.nft_tree.specs.declared.selector.ValueType.TheVariants as types
use Rattle.nft_tree.specs.Tree as tree
use Rattle.rule_names.specs.Names.{index_in, map_names, map_named}
use Rattle.rule_code.specs.Actions.{lookup_in}

-- a table keeps its contents when more are added
pub stays : {V W : Type 0} (old new : List (Table V)) (i : ℕ) (shown : Option V → W) (wanted : ℕ → W)
    → HasTable old i shown wanted → Keeps old new → (n : ℕ) → shown (lookup_in (slice_get new i) n) ≡ wanted n
stays old new i shown wanted has keeps n = ap (λ o. shown (lookup_in o n)) (keeps i has.0 has.1) ∙ has.2 n

-- the first match in a list is the element with the index, if there is one
abbrev pub IsFirst : {A : Type 0} → List A → Option A → Option ℕ → Type 0
IsFirst {A} xs first o = MatchOption o (first ≡ None) (λ i. (x : A) × (slice_get xs i ≡ Some x) × (first ≡ Some x))

first-more : {A : Type 0} (x : A) (xs : List A) (b : Bool) (first : Option A) (o : Option ℕ) → IsFirst xs first o
    → IsFirst (x ∷ xs) (cond b (Some x) first) (cond b (Some 0) (option_map suc o))
first-more x xs true first o h = (x, refl, refl)
first-more x xs false first None h = h
first-more x xs false first (Some i) h = h

pub by_name : {A : Type 0} (name_of : A → Text) (name : Text) (xs : List A) (o : Option ℕ) → o ≡ index_in name (map name_of xs)
    → IsFirst xs (find (λ y. bytes_eq (name_of y) name) xs) o
by_name name_of name [] o e = rw e refl
by_name name_of name (x ∷ xs) o e = rw e (first-more x xs (bytes_eq (name_of x) name) _ _ (by_name name_of name xs _ refl))

-- ---- maps whose types fit

second-fits : (a b : Bool) → not (a && b) ≡ false → b ≡ true
second-fits a b e = grind arith

-- a map that may stand in a statement has the data that are wanted there
pub named-map : (t : TableTree) (s : Selector) (wanted : Option ComparedType) (name : Text) (i : ℕ)
    → Some i ≡ index_in name (map_names t) → map_ref_mismatches t s wanted (tree.named_map name) ≡ false
    → (m : MapTree) × (slice_get (maps_of t) i ≡ Some m) × (map_named t name ≡ Some m)
    × (same_data wanted (map_data_compared_type m.types) ≡ true)
named-map t s wanted name i e fits =
    let m = by_name (λ (m : MapTree). m.name) name (maps_of t) (Some i) e in
    (m.0, m.1, m.2, second-fits (same_compared_type (selector_compared_type s) (map_key_compared_type m.0.types)) _ (rw m.2 at fits))

module _ (network : PlantTree) (t : TableTree) (l : Lookups) (i : ℕ) (m : MapTree) where
  pub has-verdicts : (k : Option ComparedType) → same_data None k ≡ true → HasMap network t l i m k
      → HasTable l.verdicts.items i same (λ n. option_map (rule_verdict_of t) (declared_gives data_verdict network (Some m) n))
  has-verdicts None fits has = has
  has-verdicts (Some k) fits has = absurd cc

  pub has-numbers : (given : ValueType) (k : Option ComparedType) → IsNumberType given → same_data (Some (Named given)) k ≡ true
      → HasMap network t l i m k → HasTable l.numbers.items i same (declared_gives (data_number network (Named given)) network (Some m))
  has-numbers types.Mark (Some (Named types.Mark)) read fits has = has
  has-numbers types.Address (Some (Named types.Address)) read fits has = has
  has-numbers types.Mark _ read fits has = absurd cc
  has-numbers types.Address _ read fits has = absurd cc
  has-numbers _ _ read fits has = absurd read
