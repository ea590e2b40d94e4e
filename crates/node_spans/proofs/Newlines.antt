-- Tokens without newlines.
use Rattle.std.proofs.Common.{◌≡◌, ℕ, ◌+◌, ◌-◌, ◌≤◌, List, [], ◌∷◌, ◌++◌, length, length-append, drop, take, map, refl, sym, ap, ◌∙◌, arith}
use Rattle.std.proofs.lemmas.List.{drop-drop, drop-map, take-map, drop-take}
use Rattle.std.proofs.Math.Seq.{take-append_seam}
use Rattle.std.specs.Prelude.{Option, Some, None}
use Rattle.list_laws.specs.Options.{IfSome_at}
use Rattle.nft_lexer.specs.declared.token.Punctuator.TheVariants.{CloseBrace}
use Rattle.nft_lexer.specs.declared.token.Token.{Token}
use Rattle.nft_lexer.specs.Terminal.{Terminal, newline}
use Rattle.nft_lexer.specs.TokenViews.{terminal_of, terminals}
use Rattle.token_reader.specs.Readers.{IsAfter, remaining}
use Rattle.token_reader.specs.Repeats.{without_newlines}
use Rattle.token_reader.specs.steps.Reading.{after_punctuator}
use Rattle.nft_expressions.specs.steps.Braces.{UpTo, enclosed_found}
use Rattle.nft_expressions.specs.steps.Reading.{at_brace, enclosed_at}
use Rattle.node_spans.specs.Spans.{within_braces}
use Rattle.node_spans.specs.steps.Reading.{IsReadAt}
use Rattle.node_spans.proofs.Lists.{length_ahead}

pub no_more_without : (ts : List Terminal) → length (without_newlines ts) ≤ length ts
no_more_without [] = omega arith
no_more_without (newline ∷ ts) = omega (arith, no_more_without ts)
no_more_without (t ∷ ts) = omega (arith, no_more_without ts)

-- What is left behind some more tokens.
pub drop_on : {A : Type 0} (a b : ℕ) (xs : List A) → a ≤ b → drop (b - a) (drop a xs) ≡ drop b xs
drop_on a b xs le = drop-drop (b - a) a xs ∙ ap (λ n. drop n xs) (omega arith)

pub remaining_drop : (tokens : List Token) (at : ℕ) → remaining tokens at ≡ drop at (terminals tokens)
remaining_drop tokens at = sym (drop-map (λ (t : Token). terminal_of t.kind t.text.now) at tokens)

pub remaining_on : (tokens : List Token) (a b : ℕ) → a ≤ b
    → drop (b - a) (remaining tokens a) ≡ remaining tokens b
remaining_on tokens a b le =
    ap (drop (b - a)) (remaining_drop tokens a) ∙ drop_on a b (terminals tokens) le ∙ sym (remaining_drop tokens b)

-- The tokens up to a position, from an earlier one on.
pub remaining_take : (tokens : List Token) (at close : ℕ) (inner : List Terminal) → at ≤ close
    → close ≤ length tokens → remaining tokens at ≡ inner ++ remaining tokens close
    → remaining (take close tokens) at ≡ inner
remaining_take tokens at close inner ahead within joined =
    let n = close - at in
    let cut : drop at (take close tokens) ≡ take n (drop at tokens) =
    ap (λ m. drop at (take m tokens)) (omega arith) ∙ drop-take at n tokens in
    let kept : remaining (take close tokens) at ≡ take n (remaining tokens at) =
    ap (map (λ (t : Token). terminal_of t.kind t.text.now)) cut
    ∙ sym (take-map (λ (t : Token). terminal_of t.kind t.text.now) n (drop at tokens)) in
    let all : n ≡ length inner = omega (
      arith,
      length_ahead tokens at,
      length_ahead tokens close,
      ap length joined,
      length-append inner (remaining tokens close),
    ) in
    kept ∙ ap (take n) joined ∙ ap (λ m. take m (inner ++ remaining tokens close)) all
    ∙ take-append_seam inner (remaining tokens close)

-- The tokens up to the brace that closes a list.
pub enclosed_kept : (tokens : List Token) (at close : ℕ) (kept after : List Terminal)
    → enclosed_at (remaining tokens at) ≡ at_brace kept (remaining tokens close)
    → after_punctuator CloseBrace (remaining tokens close) ≡ Some after → at ≤ close → close ≤ length tokens
    → (enclosed_at (remaining tokens at) ≡ Some (kept, remaining tokens close))
    × (kept ≡ within_braces tokens close at)
enclosed_kept tokens at close kept after e brace ahead within =
    let known : enclosed_at (remaining tokens at) ≡ Some (kept, remaining tokens close) = e ∙ rw brace refl in
    let up = IfSome_at (enclosed_at (remaining tokens at)) (λ x. UpTo x.0 (remaining tokens at) x.1)
    (kept, remaining tokens close) known (enclosed_found (remaining tokens at)) in (
      known,
      sym up.same ∙ ap without_newlines (sym (remaining_take tokens at close up.inner ahead within up.joined)),
    )

pub unclosed : (tokens : List Token) (at close : ℕ) (kept : List Terminal)
    → enclosed_at (remaining tokens at) ≡ at_brace kept (remaining tokens close)
    → after_punctuator CloseBrace (remaining tokens close) ≡ None → enclosed_at (remaining tokens at) ≡ None
unclosed tokens at close kept e brace = e ∙ rw brace refl

-- A part that is read of the tokens without newlines stands among all tokens.
pub part_read : {A : Type 0} (read : List Terminal → Option (A × List Terminal)) (tokens inner : List Token)
    (place here first end last : ℕ) (x : A)
    → without_newlines (remaining tokens place) ≡ remaining inner here
    → without_newlines (remaining tokens first) ≡ without_newlines (remaining tokens place) → place ≤ first
    → without_newlines (remaining tokens last)
    ≡ drop (end - here) (without_newlines (remaining tokens first))
    → first + (end - here) ≤ last → last ≤ length tokens → IsAfter inner here end
    → Some (x, remaining inner end) ≡ read (remaining inner here)
    → IsReadAt read (λ at. without_newlines (remaining tokens at)) (length tokens) place
    (record { first = first; end = last }) × (without_newlines (remaining tokens last) ≡ remaining inner end)
part_read read tokens inner place here first end last x same skipped ahead counted behind within after found =
    let rest : without_newlines (remaining tokens last) ≡ remaining inner end =
    counted ∙ ap (drop (end - here)) (skipped ∙ same) ∙ remaining_on inner here end (omega (arith, after.0)) in (
      record {
        ahead = ahead;
        same = skipped;
        some = omega (arith, after.0, behind);
        within = within;
        shorter = omega (
          arith,
          ap length rest,
          ap length same,
          length_ahead inner here,
          length_ahead inner end,
          after.0,
          after.1,
        );
        part = x;
        found = rw (same, rest) (sym found);
      },
      rest,
    )
