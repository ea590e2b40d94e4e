-- Lines below another one (own).
use Rattle.std.specs.Prelude.{◌≡◌, List, ◌++◌, codes}
use Rattle.std.specs.List.{flat_map}
use Rattle.nft_tree.specs.Tree.{Text}

-- lines, each behind two blanks
abbrev pub AreIndented : Text → Type 0
AreIndented text = (lines : List Text) × (text ≡ flat_map (λ line. codes "  " ++ line ++ codes "\n") lines)
