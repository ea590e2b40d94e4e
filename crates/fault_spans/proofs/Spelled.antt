-- A list of ranges, part by part.
use Rattle.std.proofs.Common.{◌≡◌, ℕ, zero, suc, ◌<◌, ◌≤◌, List, [], ◌∷◌, length, refl, arith}
use Rattle.std.specs.Prelude.{Some, slice_get}
use Rattle.nft_lexer.specs.Terminal.{Terminal}
use Rattle.token_reader.specs.Grammar.{Grammar}
use Rattle.node_spans.specs.Spans.{AreSpelled}
use Rattle.node_spans.specs.declared.token_range.TokenRange.{TokenRange}

-- Each part has a range.
pub has_range : {A : Type 0} (p : Grammar A) (B : List Terminal → List Terminal → Type 0) (rest : ℕ → List Terminal)
    (from to : ℕ) (xs : List A) (rs : List TokenRange) (i : ℕ) → AreSpelled p B rest from to xs rs
    → i < length xs → (r : TokenRange) × (slice_get rs i ≡ Some r)
has_range p B rest from to [] rs i s less = absurd (omega arith)
has_range p B rest from to (x ∷ xs) [] i s less = absurd s
has_range p B rest from to (x ∷ xs) (r ∷ rs) zero s less = (r, refl)
has_range p B rest from to (x ∷ xs) (r ∷ rs) (suc i) s less =
    has_range p B rest r.end to xs rs i s.5 (omega (arith, less))

-- The tokens of a part's range spell it, and are some.
pub spells_at : {A : Type 0} (p : Grammar A) (B : List Terminal → List Terminal → Type 0) (rest : ℕ → List Terminal)
    (from to : ℕ) (xs : List A) (rs : List TokenRange) (i : ℕ) (x : A) (r : TokenRange)
    → AreSpelled p B rest from to xs rs → slice_get xs i ≡ Some x → slice_get rs i ≡ Some r
    → p.spells x (rest r.first) (rest r.end) × (r.first < r.end) × (r.end ≤ to)
spells_at p B rest from to [] rs i x r s here there = absurd (cc here)
spells_at p B rest from to (y ∷ ys) [] i x r s here there = absurd s
spells_at p B rest from to (y ∷ ys) (q ∷ qs) zero x r s here there =
    grind (arith, s.1, s.2, s.3, here, there)
spells_at p B rest from to (y ∷ ys) (q ∷ qs) (suc i) x r s here there =
    spells_at p B rest q.end to ys qs i x r s.5 here there
