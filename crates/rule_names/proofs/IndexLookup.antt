-- Indices of names, and the elements there.
use Rattle.rule_names.proofs.Names.{Bool, Bor, List, MatchOption, None, Option, Some, Text, [], ap, ap₂, arith, bytes_eq, cond, false, get_or, length}
use Rattle.rule_names.proofs.Names.{list_any, map}
use Rattle.rule_names.proofs.Names.{option_map, refl, sym, true, ℕ, ◌+◌, ◌<◌, ◌∙◌, ◌∷◌, ◌≡◌}
use Rattle.std.proofs.Common.{suc, ◌≤◌}
use Rattle.std.specs.Prelude.{IfSome, Vec, find, is_some, nat_eq, position, slice_get}
use Rattle.std.specs.declared.alloc.Global.{Global}
use Rattle.std.specs.List.{position_from}
use Rattle.std.specs.Option.{option_copied}
use Rattle.std.specs.Cmp.Lexicographic.{pointwise}
use Rattle.std.proofs.lemmas.Iterator.Adapters.{position_from-zero}
use Rattle.std.proofs.lemmas.Cmp.{nat_list_eq_equiv}
use Rattle.std.proofs.lemmas.Option.{slice_get-map, slice_get_past, slice_get_read}
use Rattle.rule_names.specs.Names.{index_in}
use Rattle.rule_names.specs.steps.Index.{at_index, texts}

-- the key has this name
abbrev pub named : Text → Vec ℕ Global → Bool
named name k = pointwise nat_eq name k.items

index-from : (b : Bool) (i : ℕ) (o : Option ℕ) → cond b (Some i) (option_map (λ k. k + (i + 1)) o)
    ≡ option_map (λ k. k + i) (cond b (Some 0) (option_map suc o))
index-from true i o = ap Some (omega arith)
index-from false i None = refl
index-from false i (Some k) = ap Some (omega arith)

from-index : (name : Text) (keys : List (Vec ℕ Global)) (i : ℕ) → position_from (named name) i keys ≡ option_map (λ k. k + i) (index_in name (texts keys))
from-index name [] i = refl
from-index name (k ∷ ks) i = grind (arith, index-from, nat_list_eq_equiv.symm, k.items, from-index name ks (i + 1))

plus-none : (o : Option ℕ) → option_map (λ k. k + 0) o ≡ o
plus-none None = refl
plus-none (Some k) = ap Some (omega arith)

-- where a key is among the keys
pub position-index : (name : Text) (keys : List (Vec ℕ Global)) → position (named name) keys ≡ index_in name (texts keys)
position-index name keys = position_from-zero (named name) keys ∙ from-index name keys 0 ∙ plus-none (index_in name (texts keys))

pub at-index-more : {X : Type 0} (b : Bool) (x : X) (xs : List X) (o : Option ℕ) → cond b (Some x) (at_index xs o)
    ≡ at_index (x ∷ xs) (cond b (Some 0) (option_map suc o))
at-index-more true x xs o = refl
at-index-more false x xs None = refl
at-index-more false x xs (Some k) = refl

pub at-index-map : {A X : Type 0} (view : A → X) (found : List A) (o : Option ℕ) → option_map view (at_index found o) ≡ at_index (map view found) o
at-index-map view found None = refl
at-index-map view found (Some i) = sym (slice_get-map view found i)

module _ {X : Type 0} (name_of : X → Text) (name : Text) where
  -- the first element with the name
  abbrev pub first_named : List X → Option X
  first_named xs = find (λ x. bytes_eq (name_of x) name) xs

  pub find-index : (xs : List X) → first_named xs ≡ at_index xs (index_in name (map name_of xs))
  find-index [] = refl
  find-index (x ∷ xs) = ap (λ o. cond (bytes_eq (name_of x) name) (Some x) o) (find-index xs)
      ∙ at-index-more (bytes_eq (name_of x) name) x xs (index_in name (map name_of xs))

  pub any-found : (xs : List X) → list_any (bytes_eq name) (map name_of xs) ≡ is_some (first_named xs)
  any-found [] = refl
  any-found (x ∷ xs) = grind (arith, nat_list_eq_equiv.symm name (name_of x), any-found xs)

  -- the element at an optional index
  pub looked : {A : Type 0} (view : A → X) (found : List A) (names : List Text) (xs : List X) → map view found ≡ xs
      → names ≡ map name_of xs → option_map view (at_index found (index_in name names)) ≡ first_named xs
  looked view found names xs are named =
      at-index-map view found (index_in name names) ∙ ap₂ at_index are (ap (index_in name) named) ∙ sym (find-index xs)

-- the result of `get`
pub read-copied : {A : Type 0} (H : Bor A → Type 0) (xs : List A) (i : ℕ) (r : Option (Bor A))
    → IfSome r (λ x. x.now ≡ get_or xs i x.now) → MatchOption r (length xs ≤ i) (λ x. (i < length xs) × H x)
    → option_copied r ≡ slice_get xs i
read-copied H xs i None e h = sym (slice_get_past xs i h)
read-copied H xs i (Some x) e h = sym (slice_get_read xs (length xs) i x.now refl h.0 e)
