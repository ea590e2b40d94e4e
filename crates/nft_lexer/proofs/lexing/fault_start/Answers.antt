use Rattle.std.proofs.Common.{◌<◌, length, sym, arith}
use Rattle.std.proofs.lemmas.Bool.Decides.{nat_tests}
use Rattle.std.proofs.lemmas.List.{length-append, nil_from_length}
use Rattle.nft_lexer.specs.steps.Reading.{ScansOne, listed}
use Rattle.nft_lexer.specs.TokenViews.{spelled}
use Rattle.nft_lexer.proofs.Lexemes.{next_is}
use Rattle.nft_lexer.proofs.Standing.{end_is_faultless, fault_stands}
use Rattle.nft_lexer.proofs.Tokenizations.{passes_less, reached, reached_push}
use Rattle.nft_lexer.proofs.lexing.fault_start.Goals.{In-Ok}
use Rattle.nft_lexer.proofs.lexing.fault_start.Goals as goal

passed : (c : In-Ok) → ScansOne c.loop-rest.rest.now (listed spelled c.in-Ok.field-0-0) c.in-Ok.after.now
passed c =
    let some : 0 < length c.loop-rest.rest.now =
    grind (arith, nat_tests, c.is_empty.ensures, c.loop-rest-test.true) in
    rw (sym c.in-Ok.ensures.read) at (next_is c.loop-rest.rest.now some)

pub loop-rest-preserved : goal.loop-rest-preserved
loop-rest-preserved c = (
  _,
  reached_push c.args.text.now c.loop-rest.rest.now c.in-Ok.after.now c.loop-rest.invariant.0
      _ c.loop-rest.invariant.1 (passed c),
)

pub loop-rest-smaller : goal.loop-rest-smaller
loop-rest-smaller c = passes_less c.loop-rest.rest.now c.in-Ok.after.now _ (passed c)

pub overflow_sub-result : goal.overflow_sub-result
overflow_sub-result c = grind (arith, length-append, (reached _ _ _ c.loop-rest.invariant.1).2.1)

pub returns-in-Err : goal.returns-in-Err
returns-in-Err c =
    let some : 0 < length c.loop-rest.rest.now =
    grind (arith, nat_tests, c.is_empty.ensures, c.loop-rest-test.true) in
    let fault = rw (sym c.in-Err.ensures.read) at (next_is c.loop-rest.rest.now some) in
    fault_stands c.args.text.now c.loop-rest.rest.now c.loop-rest.invariant.0 _ c.loop-rest.invariant.1 fault

pub returns : goal.returns
returns c fault given = absurd (end_is_faultless c.args.text.now c.loop-rest.rest.now c.loop-rest.invariant.0
    c.loop-rest.invariant.1
    (nil_from_length _ (grind (arith, nat_tests, c.is_empty.ensures, c.loop-rest-test.false))) fault given)
