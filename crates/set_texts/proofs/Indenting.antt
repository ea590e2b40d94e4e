-- One line more.
use Rattle.std.proofs.Common.{◌≡◌, ◌++◌, ◌∷◌, ◌∙◌, [], List, ap, codes, refl, append_assoc}
use Rattle.std.specs.List.{flat_map}
use Rattle.std.proofs.lemmas.List.{flat_map_more}
use Rattle.nft_tree.specs.Tree.{Text}
use Rattle.set_texts.specs.Indented.{AreIndented}

abbrev end : Text
end = codes "\n"

abbrev line_of : Text → Text
line_of line = codes "  " ++ line ++ end

parted : (a b c d e : Text) → a ++ b ++ c ++ d ++ e ≡ a ++ (b ++ (c ++ d) ++ e)
parted a b c d e = simp append_assoc refl

line_more : (text lead words : Text) → AreIndented text
    → AreIndented (text ++ codes "  " ++ lead ++ words ++ end)
line_more text lead words (ls, e) = (
  ls ++ (lead ++ words) ∷ [],
  parted text (codes "  ") lead words end ∙ ap (λ t. t ++ line_of (lead ++ words)) e
      ∙ flat_map_more line_of [] ls (lead ++ words),
)

pub line_put : (before one two three after lead words : Text) → one ≡ before ++ codes "  " → two ≡ one ++ lead
    → three ≡ two ++ words → after ≡ three ++ end → AreIndented before → AreIndented after
line_put before one two three after lead words a b c d is =
    let all : after ≡ before ++ codes "  " ++ lead ++ words ++ end =
    d ∙ ap (λ t. t ++ end) (c ∙ ap (λ t. t ++ words) (b ∙ ap (λ t. t ++ lead) a)) in
    rw all (line_more before lead words is)
