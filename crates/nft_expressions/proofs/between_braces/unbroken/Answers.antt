use Rattle.std.proofs.Common.{◌-◌, ◌∙◌, sym, take, drop, arith}
use Rattle.std.proofs.lemmas.List.{take-map}
use Rattle.nft_lexer.specs.TokenViews.{terminal_of}
use Rattle.token_reader.specs.Readers.{remaining}
use Rattle.nft_expressions.specs.steps.Braces.{one_more, brace_kept}
use Rattle.nft_expressions.proofs.between_braces.unbroken.Goals as goal

pub loop-after-preserved : goal.loop-after-preserved
loop-after-preserved c =
    let tokens = c.args.tokens.now in
    let more = one_more (remaining tokens c.args.at) (remaining tokens c.loop-after.here)
    (remaining tokens c.in-Some.after) (c.loop-after.here - c.args.at) (c.in-Some.after - c.args.at)
    (omega (arith, c.in-Some.ensures.next)) c.loop-after.invariant.rest (sym c.in-Some.ensures.read) in
    record {
      read = c.loop-after.invariant.read ∙ more.0;
      rest = more.1;
      within = omega (arith, c.in-Some.ensures.next);
    }

pub returns-clause-read : goal.returns-clause-read
returns-clause-read c =
    let tokens = c.args.tokens.now in
    let n = c.loop-after.here - c.args.at in
    let closed = c.loop-after.invariant.read
    ∙ brace_kept (take n (remaining tokens c.args.at)) (remaining tokens c.loop-after.here)
    (remaining tokens c.in_ok-after_punctuator.field-0) (sym c.in_ok-after_punctuator.ensures.read) in
    rw (take-map (λ t. terminal_of t.kind t.text.now) n (drop c.args.at tokens)) at closed
