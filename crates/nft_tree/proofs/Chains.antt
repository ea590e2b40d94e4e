use Rattle.std.proofs.Common.{◌≡◌, ℕ, zero, suc, ◌+◌, ◌-◌, ◌<◌, ◌≤◌, List, ◌∷◌, length, slice_get, get_or, drop, map}
use Rattle.std.proofs.Common.{Option, Some, None, add-one, ap, sym, refl, arith, Bor}
use Rattle.std.specs.Prelude.{IfSome, MatchOption}
use Rattle.std.specs.Option.{option_map}
use Rattle.std.proofs.lemmas.Option.{slice_get_past, slice_get_read}
use Rattle.std.proofs.Math.Seq.{drop-cons}
use Rattle.std.specs.List.{filter_map, cons_option}
use Rattle.nft_tree.specs.declared.ruleset.Item.{Item}
use Rattle.nft_tree.specs.Tree.{ChainTree}
use Rattle.nft_tree.specs.TreeViews.{item_tree}
use Rattle.nft_tree.specs.TableItems.{chain_in, numbered_from_one}

-- The chains among some items.
abbrev pub chains_among : List Item → List ChainTree
chains_among items = filter_map chain_in (map item_tree items)

-- The chains from item i on: item i if it is a chain, then the chains after it.
pub from_one_on : (items : List Item) (i : ℕ) (item : Item) → i < length items → item ≡ get_or items i item
    → chains_among (drop i items) ≡ cons_option (chain_in (item_tree item))
    (chains_among (drop (i + 1) items))
from_one_on items i item h is =
    let e : drop i items ≡ item ∷ drop (i + 1) items = cc (drop-cons items i item h, add-one i) in
    ap chains_among e

-- Counting from one, element n is at index n - 1.
pub numbered_is_get : {A : Type 0} (xs : List A) (n : ℕ) → 0 < n
    → numbered_from_one xs n ≡ slice_get xs (n - 1)
numbered_is_get xs zero h = absurd (omega (arith, h))
numbered_is_get xs (suc n) h = ap (slice_get xs) (omega arith)

-- What `get` lends at an index shows the element at that index.
pub mapped_get : {A B : Type 0} (f : A → B) (P : Bor A → Type 0) (xs : List A) (i : ℕ) (o : Option (Bor A))
    → IfSome o (λ x. x.now ≡ get_or xs i x.now) → MatchOption o (length xs ≤ i) (λ x. (i < length xs) × P x)
    → option_map (λ x. f x.now) o ≡ option_map f (slice_get xs i)
mapped_get f P xs i None is past = ap (option_map f) (sym (slice_get_past xs i past))
mapped_get f P xs i (Some x) is within =
    ap (option_map f) (sym (slice_get_read xs (length xs) i x.now refl within.0 is))
