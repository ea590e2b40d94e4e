use Rattle.std.proofs.Common.{◌≡◌, ℕ, List, [], ◌∷◌, ◌∙◌, refl, sym, arith}
use Rattle.std.proofs.lemmas.List.{append-nil, map-append}
use Rattle.nft_lexer.specs.TokenViews.{terminal_of, terminals}
use Rattle.nft_lexer.specs.declared.token.TokenKind.{TokenKind}
use Rattle.nft_lexer.specs.declared.token.TokenKind.TheVariants as kinds
use Rattle.token_reader.specs.Readers.{remaining}
use Rattle.token_reader.specs.Repeats.{without_newlines}
use Rattle.nft_expressions.specs.steps.Braces.{keeps_on, kept_all}
use Rattle.nft_expressions.proofs.between_braces.enclosed.Goals as goal

pub loop-token-preserved-in-NewLine : goal.loop-token-preserved-in-NewLine
loop-token-preserved-in-NewLine c =
    let kept = terminals c.loop-token.kept.items in
    let on = keeps_on kept (remaining c.args.tokens.now c.loop-token.here) (
      terminal_of c.in-Some.token.kind c.in-Some.token.text.now,
      remaining c.args.tokens.now c.in-Some.after,
    ) (sym c.in-Some.ensures.0) in
    let same = rw (c.in-NewLine.is, append-nil kept) at on in
    record { read = sym same ∙ c.loop-token.invariant.read; within = omega (arith, c.in-Some.ensures.1) }

plain : (k : TokenKind) (text : List ℕ) → (k ≡ kinds.NewLine → ⊥)
    → without_newlines (terminal_of k text ∷ []) ≡ terminal_of k text ∷ []
plain kinds.NewLine text other = absurd (other refl)
plain k text other = refl

pub loop-token-preserved : goal.loop-token-preserved
loop-token-preserved c =
    let on = keeps_on (terminals c.loop-token.kept.items) (remaining c.args.tokens.now c.loop-token.here) (
      terminal_of c.in-Some.token.kind c.in-Some.token.text.now,
      remaining c.args.tokens.now c.in-Some.after,
    ) (sym c.in-Some.ensures.0) in
    let same = rw (plain c.in-Some.token.kind c.in-Some.token.text.now c.in_default-kind.not-NewLine) at on in
    record {
      read = rw (c.in_ok-push.ensures.items, map-append _ c.loop-token.kept.items (c.in-Some.token ∷ []))
          (sym same ∙ c.loop-token.invariant.read);
      within = omega (arith, c.in_ok-push.ensures.len, c.in-Some.ensures.1);
    }

pub returns-clause-read : goal.returns-clause-read
returns-clause-read c = sym c.loop-token.invariant.read
    ∙ kept_all (terminals c.loop-token.kept.items) (remaining c.args.tokens.now c.loop-token.here)
    (sym c.in_default.ensures.0)
