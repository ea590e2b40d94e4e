-- Lists that are read one item at a time.
use Rattle.rule_names.proofs.Names.{Contains, List, [], ap, arith, get_or, length, map, map-append, map-more, sym, take, ℕ, ◌++◌, ◌+◌, ◌<◌, ◌∙◌, ◌∷◌, ◌≡◌}
use Rattle.std.proofs.Common.{drop}
use Rattle.std.proofs.lemmas.List.{length-map, take-append-drop}
use Rattle.std.proofs.Math.ListN.{get_or-map}

pub Contains-map : {X Y : Type 0} (h : X → Y) (xs : List X) (i : ℕ) (x : X) → i < length xs → x ≡ get_or xs i x → Contains (map h xs) (h x)
Contains-map h xs i x l e = let n = length-map xs h in (i, omega arith, get_or-map h xs i x ∙ ap h (sym e))

-- a list as what comes before an item, the item, and what follows
pub map-around : {X Y : Type 0} (h : X → Y) (xs : List X) (i : ℕ) (x : X) → i < length xs → x ≡ get_or xs i x
    → (map h (take i xs) ++ h x ∷ []) ++ map h (drop (i + 1) xs) ≡ map h xs
map-around h xs i x l e =
    ap (λ ys. ys ++ map h (drop (i + 1) xs)) (sym (map-more h xs i x l e))
    ∙ sym (map-append h (take (i + 1) xs) (drop (i + 1) xs))
    ∙ ap (map h) (take-append-drop (i + 1) xs)
