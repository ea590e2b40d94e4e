use Rattle.std.proofs.Common.{sym, ◌∙◌, ap, Some, arith}
use Rattle.std.proofs.lemmas.List.{length-take-le}
use Rattle.nft_lexer.specs.TokenViews.{terminals}
use Rattle.token_reader.specs.Readers.{remaining}
use Rattle.node_spans.proofs.Newlines.{enclosed_kept, unclosed}
use Rattle.node_spans.proofs.braces.in_braces.Goals as goal

pub comma_separated-requires-clause-inner : goal.comma_separated-requires-clause-inner
comma_separated-requires-clause-inner g c =
    let kept = enclosed_kept c.args.tokens.now c.args.at c.in_ok-inner.close (terminals c.in_ok-inner.inner.items)
    (remaining c.args.tokens.now c.in-Some._end) c.in_ok-inner.ensures.read (sym c.in-Some.ensures.read)
    (omega (arith, c.in_ok-inner.ensures.within)) (omega (arith, c.in-Some.ensures.within)) in
    rw c.deref.ensures.value kept.1

pub returns : goal.returns
returns g c =
    let close = c.in_ok-inner.close in
    let kept = enclosed_kept c.args.tokens.now c.args.at close (terminals c.in_ok-inner.inner.items)
    (remaining c.args.tokens.now c.in-Some._end) c.in_ok-inner.ensures.read (sym c.in-Some.ensures.read)
    (omega (arith, c.in_ok-inner.ensures.within)) (omega (arith, c.in-Some.ensures.within)) in (
      close,
      omega (arith, c.in_ok-inner.ensures.within),
      omega (arith, c.in-Some.ensures.within),
      kept.0 ∙ ap (λ k. Some (k, remaining c.args.tokens.now close)) kept.1,
      rw (length-take-le close c.args.tokens.now (omega (arith, c.in-Some.ensures.within)))
          at c.in_ok-found.ensures,
    )

pub returns-in_default : goal.returns-in_default
returns-in_default g c = unclosed c.args.tokens.now c.args.at c.in_ok-inner.close
    (terminals c.in_ok-inner.inner.items) c.in_ok-inner.ensures.read (sym c.in_default.ensures.read)
