-- A loop that reads one part after another reads all of them.
use Rattle.std.proofs.Common.{◌≡◌, ℕ, suc, ◌+◌, ◌-◌, ◌<◌, ◌≤◌, List, [], ◌∷◌, ◌++◌, length, drop, Option, Some, None, sym, ap, ◌∙◌, append_assoc, arith}
use Rattle.std.proofs.lemmas.List.{append-nil, length-map, length-drop}
use Rattle.nft_lexer.specs.declared.token.Token.{Token}
use Rattle.nft_lexer.specs.Terminal.{Terminal}
use Rattle.nft_lexer.specs.TokenViews.{terminal_of}
use Rattle.token_reader.specs.Readers.{remaining}
use Rattle.token_reader.specs.steps.Reading.{many_at, all_at, with_front}
use Rattle.token_reader.specs.steps.Laws.{many_at-none, many_at-some}

-- Loop invariant: after this many turns, the parts found and those still to be read are all that the parser
-- gives.
pub record Read {A : Type 0} (read : List Terminal → Option (A × List Terminal)) (before found : List A)
    (from here : List Terminal) : Type 0 where
  pub turns : ℕ
  pub shorter : length here + turns ≤ length from
  pub together : (more : ℕ) → with_front found (many_at read more here)
      ≡ with_front before (many_at read (more + turns) from)

pub length_ahead : (tokens : List Token) (at : ℕ) → length (remaining tokens at) ≡ length tokens - at
length_ahead tokens at = length-map (drop at tokens) (λ (t : Token). terminal_of t.kind t.text.now)
    ∙ length-drop at tokens

pub none_yet : {A : Type 0} (read : List Terminal → Option (A × List Terminal)) (before : List A)
    (from : List Terminal) → Read read before before from from
none_yet read before from = grind arith

pub one_more : {A : Type 0} (read : List Terminal → Option (A × List Terminal)) (before found : List A)
    (from here : List Terminal) (x : A × List Terminal) → read here ≡ Some x → length x.1 < length here
    → Read read before found from here → Read read before (found ++ x.0 ∷ []) from x.1
one_more {A} read before found from here x e less so_far = record {
  turns = suc so_far.turns;
  shorter = omega (arith, less, so_far.shorter);
  together = λ more.
      ap (λ (xs : List A). (xs, (many_at read more x.1).1))
      (append_assoc found (x.0 ∷ []) (many_at read more x.1).0)
      ∙ sym (ap (with_front found) (many_at-some read more here x e))
      ∙ so_far.together (suc more)
      ∙ ap (λ n. with_front before (many_at read n from)) (omega arith);
}

pub all_read : {A : Type 0} (read : List Terminal → Option (A × List Terminal)) (before found : List A)
    (from here : List Terminal) → read here ≡ None → Read read before found from here
    → (found, here) ≡ with_front before (all_at read from)
all_read {A} read before found from here e so_far =
    let left = length from - so_far.turns in
    let enough : left + so_far.turns ≡ length from = omega (arith, so_far.shorter) in
    sym (ap (with_front found) (many_at-none read left here e)
    ∙ ap (λ (xs : List A). (xs, here)) (append-nil found))
    ∙ so_far.together left
    ∙ ap (λ n. with_front before (many_at read n from)) enough
