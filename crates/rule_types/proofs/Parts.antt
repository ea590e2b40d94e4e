-- Comparing concatenated types part by part.
use Rattle.std.proofs.Common.{◌≡◌, ℕ, zero, suc, ◌≤◌, ◌<◌, List, [], ◌∷◌, length, drop, ◌&&◌, true, false, Some, refl, ap, ◌∙◌, sym, arith, nat_eq, map, get_or}
use Rattle.std.proofs.Math.Dec.{eqb-zero-suc, eqb-suc-suc}
use Rattle.std.proofs.Math.Seq.{drop-nil}
use Rattle.std.specs.Option.{option_map}
use Rattle.std.specs.List.{slice_get}
use Rattle.std.proofs.lemmas.Option.{slice_get-map, slice_get-get_or}
use Rattle.nft_tree.specs.ComparedTypes.{selector_compared_type}
use Rattle.nft_tree.specs.declared.selector.Selector.{Selector}
use Rattle.nft_tree.specs.declared.compared_types.ComparedType.{ComparedType}
use Rattle.rule_types.specs.Types.{same_compared_types}
use Rattle.rule_types.specs.steps.Keys.{part_is}

-- from a part on, types are the same if that part is and those after it are
same_compared_types-part : (xs ks : List ComparedType) (i : ℕ) (k : ComparedType) → slice_get xs i ≡ Some k
    → same_compared_types (drop i xs) (drop i ks) ≡ part_is (slice_get ks i) k
    && same_compared_types (drop (suc i) xs) (drop (suc i) ks)
same_compared_types-part [] ks i k e = cc
same_compared_types-part (x ∷ xs) [] zero k e = refl
same_compared_types-part (x ∷ xs) (y ∷ ks) zero k e = let same : x ≡ k = cc in rw same refl
same_compared_types-part (x ∷ xs) [] (suc i) k e =
    ap (same_compared_types (drop i xs)) (sym (drop-nil {A = ComparedType} i)) ∙ same_compared_types-part xs [] i k e
same_compared_types-part (x ∷ xs) (y ∷ ks) (suc i) k e = same_compared_types-part xs ks i k e

pub same_compared_types-part-same : (xs ks : List ComparedType) (i : ℕ) (k : ComparedType) → slice_get xs i ≡ Some k
    → part_is (slice_get ks i) k ≡ true → same_compared_types (drop i xs) (drop i ks)
    ≡ same_compared_types (drop (suc i) xs) (drop (suc i) ks)
same_compared_types-part-same xs ks i k e same = same_compared_types-part xs ks i k e
    ∙ ap (λ b. b && same_compared_types (drop (suc i) xs) (drop (suc i) ks)) same

pub same_compared_types-part-other : (xs ks : List ComparedType) (i : ℕ) (k : ComparedType) → slice_get xs i ≡ Some k
    → part_is (slice_get ks i) k ≡ false → same_compared_types (drop i xs) (drop i ks) ≡ false
same_compared_types-part-other xs ks i k e other = same_compared_types-part xs ks i k e
    ∙ ap (λ b. b && same_compared_types (drop (suc i) xs) (drop (suc i) ks)) other

pub part_is-within : (ks : List ComparedType) (i : ℕ) (k : ComparedType) → part_is (slice_get ks i) k ≡ true → i < length ks
part_is-within [] i k e = cc
part_is-within (y ∷ ks) zero k e = omega arith
part_is-within (y ∷ ks) (suc i) k e = let within : i < length ks = part_is-within ks i k e in omega arith

-- past the last part of one list, types are the same if the other has no more
pub same_compared_types-end : (xs ks : List ComparedType) (n : ℕ) → length xs ≡ n → n ≤ length ks
    → nat_eq n (length ks) ≡ same_compared_types (drop n xs) (drop n ks)
same_compared_types-end [] [] zero e w = refl
same_compared_types-end [] (y ∷ ks) zero e w = eqb-zero-suc (length ks)
same_compared_types-end [] ks (suc n) e w = absurd (omega arith)
same_compared_types-end (x ∷ xs) ks zero e w = absurd (omega arith)
same_compared_types-end (x ∷ xs) [] (suc n) e w = absurd (omega arith)
same_compared_types-end (x ∷ xs) (y ∷ ks) (suc n) e w = eqb-suc-suc n (length ks) ∙ same_compared_types-end xs ks n (omega arith) (omega arith)

-- the type of a selector is that part of the selectors' types
pub selector_compared_type-part : (ss : List Selector) (i : ℕ) (d : Selector) → i < length ss
    → slice_get (map selector_compared_type ss) i ≡ Some (selector_compared_type (get_or ss i d))
selector_compared_type-part ss i d lt = slice_get-map selector_compared_type ss i ∙ ap (option_map selector_compared_type) (slice_get-get_or ss i d lt)
