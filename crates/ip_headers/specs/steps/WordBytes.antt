-- Equal bytes of two words are those of one word.
use Rattle.std.specs.Prelude.{◌≡◌, ℕ, ◌<◌, ◌^◌, List, [], ◌∷◌}
use Rattle.std.proofs.Common.{ap, sym, ◌∙◌}
use Rattle.std.specs.Hash.{le_bytes}
use Rattle.std.specs.Int.{from_le_bytes, w64}
use Rattle.std.proofs.lemmas.Nat.{from_le_bytes-to_le_bytes_8}

head_of : List (List ℕ) → List ℕ
head_of [] = []
head_of (write ∷ writes) = write

tail_of : List (List ℕ) → List (List ℕ)
tail_of [] = []
tail_of (write ∷ writes) = writes

pub first_word : (a b : ℕ) (more others : List (List ℕ)) → a < 2 ^ 64 → b < 2 ^ 64
    → le_bytes 8 a ∷ more ≡ le_bytes 8 b ∷ others → a ≡ b
unfolding le_bytes head_of
first_word a b more others p q e =
    sym (from_le_bytes-to_le_bytes_8 a p) ∙ ap (λ bytes. from_le_bytes w64 (head_of bytes)) e
    ∙ from_le_bytes-to_le_bytes_8 b q

pub words_after : (one other : List ℕ) (more others : List (List ℕ)) → one ∷ more ≡ other ∷ others → more ≡ others
unfolding tail_of
words_after one other more others e = ap tail_of e
