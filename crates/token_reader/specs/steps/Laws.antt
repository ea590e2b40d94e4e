-- Repetition: laws of `many_at`, and of the answers of parsing functions.
use Rattle.std.proofs.Common.{◌≡◌, ℕ, zero, suc, ◌<◌, List, [], ◌∷◌, length, Option, Some, None, refl, sym, ap, ◌∙◌}
use Rattle.std.specs.Prelude.{IfSome, IsSomeAnd, option_map}
use Rattle.std.proofs.lemmas.Option.{same_Some}
use Rattle.list_laws.specs.Options.{IfSome_at}
use Rattle.nft_lexer.specs.Terminal.{Terminal}
use Rattle.token_reader.specs.steps.Reading.{option_else, many_at, with_front}

module _ {A : Type 0} (read : List Terminal → Option (A × List Terminal)) where
  pub many_at-none : (n : ℕ) (ts : List Terminal) → read ts ≡ None → many_at read n ts ≡ ([], ts)
  unfolding many_at
  many_at-none zero ts e = refl
  many_at-none (suc n) ts e = rw e refl

  pub many_at-some : (n : ℕ) (ts : List Terminal) (x : A × List Terminal) → read ts ≡ Some x
      → many_at read (suc n) ts ≡ with_front (x.0 ∷ []) (many_at read n x.1)
  unfolding many_at
  many_at-some n ts x e = rw e refl

-- Alternatives.
pub else_found : {A B : Type 0} {P : A → Type 0} (Q : B → Type 0) (o : Option A) (f : A → Option B)
    (d : Option B) → IfSome o P → ((x : A) → P x → IfSome (f x) Q) → IfSome d Q → IfSome (option_else o f d) Q
else_found Q None f d h k l = l
else_found Q (Some x) f d h k l = k x h

module _ {A : Type 0} (P : A → List Terminal → List Terminal → Type 0) where
  -- Soundness: the result of a reader is spelled.
  abbrev pub Finds : (List Terminal → Option (A × List Terminal)) → Type 0
  Finds read = (ts : List Terminal) → IfSome (read ts) (λ x. P x.0 ts x.1)

  -- Each spelling has at least one token.
  abbrev pub Takes : Type 0
  Takes = (x : A) (from to : List Terminal) → P x from to → length to < length from

-- A parsing function's answer at a position, seen by its view, is spelled, up to the position after it.
pub reader_found : {X A : Type 0} (P : A → List Terminal → List Terminal → Type 0) (view : X → A)
    (rest : ℕ → List Terminal) (read : List Terminal → Option (A × List Terminal)) (from : List Terminal)
    (o : Option (X × ℕ)) → option_map (λ x. (view x.0, rest x.1)) o ≡ read from → Finds P read
    → IfSome o (λ x. P (view x.0) from (rest x.1))
reader_found P view rest read from None e found = tt
reader_found P view rest read from (Some x) e found =
    IfSome_at (read from) (λ y. P y.0 from y.1) (view x.0, rest x.1) (sym e) (found from)

pub reader_only : {X A : Type 0} (view : X → A) (rest : ℕ → List Terminal)
    (read : List Terminal → Option (A × List Terminal)) (from : List Terminal) (o : Option (X × ℕ))
    → option_map (λ x. (view x.0, rest x.1)) o ≡ read from → (a : A) (to : List Terminal)
    → read from ≡ Some (a, to) → IsSomeAnd o (λ x. (view x.0 ≡ a) × (rest x.1 ≡ to))
reader_only view rest read from None e a to only = absurd (cc (e ∙ only))
reader_only view rest read from (Some x) e a to only =
    let same = same_Some (view x.0, rest x.1) (a, to) (e ∙ only) in
    (ap (λ y. y.0) same, ap (λ y. y.1) same)
