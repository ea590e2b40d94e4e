-- The contents of a `NameIndex`.
use Rattle.std.specs.Prelude.{◌≡◌, ◌⊎◌, ℕ, Bool, true, false, List, [], ◌∷◌, ◌++◌, Option, Some, None, Vec, map, slice_get}
use Rattle.std.specs.List.{list_any}
use Rattle.std.specs.Str.{bytes_eq}
use Rattle.std.specs.declared.alloc.Global.{Global}
use Rattle.nft_tree.specs.Tree.{Text}
use Rattle.rule_names.specs.Names.{HasDuplicate}

-- the bytes of each key
abbrev pub texts : List (Vec ℕ Global) → List Text
texts keys = map (λ key. key.items) keys

-- the result of `add`: true if the name was new, and then it is at the end
abbrev pub IsAdded : List Text → Text → List Text → Bool → Type 0
IsAdded old name new true = (new ≡ old ++ name ∷ []) × (HasDuplicate new → ⊥)
IsAdded old name new false = HasDuplicate (old ++ name ∷ [])

-- the same where the name must not be one of others either
abbrev pub IsAddedApart : List Text → Text → List Text → List Text → Bool → Type 0
IsAddedApart old name others new true = IsAdded old name new true × (list_any (bytes_eq name) others ≡ false)
IsAddedApart old name others new false = (list_any (bytes_eq name) others ≡ true) ⊎ HasDuplicate (old ++ name ∷ [])

-- the element at an optional index
abbrev pub at_index : {X : Type 0} → List X → Option ℕ → Option X
at_index xs None = None
at_index xs (Some i) = slice_get xs i
