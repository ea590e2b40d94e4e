use Rattle.std.proofs.Common.{◌≡◌, ◌<◌, length, subst, sym, arith}
use Rattle.std.proofs.lemmas.Bool.Decides.{nat_tests}
use Rattle.std.proofs.lemmas.List.{length-append, nil_from_length}
use Rattle.nft_lexer.specs.TokenViews.{spelled}
use Rattle.nft_lexer.specs.Lexing.{FirstFault}
use Rattle.nft_lexer.specs.steps.Reading.{ScansOne, listed}
use Rattle.nft_lexer.proofs.Lexemes.{next_is}
use Rattle.nft_lexer.proofs.Standing.{lexed_push}
use Rattle.nft_lexer.proofs.Tokenizations.{passes_less, reached, reached_all, reached_fault}
use Rattle.nft_lexer.proofs.lexing.tokens.Goals as goal

pub loop-rest-init : goal.loop-rest-init
loop-rest-init c = rw c.in_ok-found.ensures.items (record { scanned = λ ps to others s. (ps, s); stand = tt })

passed : (c : goal.In_ok-append) → ScansOne c.loop-rest.rest.now (listed spelled c.in-Ok.read.0)
    c.in-Ok.read.1.now
passed c =
    let some : 0 < length c.loop-rest.rest.now =
    grind (arith, nat_tests, c.is_empty.ensures, c.loop-rest-test.true) in
    rw (sym c.in-Ok.ensures.read) at (next_is c.loop-rest.rest.now some)

pub loop-rest-preserved : goal.loop-rest-preserved
loop-rest-preserved c = rw c.in_ok-append.ensures
    (lexed_push c.args.text.now c.loop-rest.rest.now c.in-Ok.read.1.now c.loop-rest.found.items c.in-Ok.read.0
    c.loop-rest.invariant (passed c) c.in-Ok.ensures.place)

pub loop-rest-smaller : goal.loop-rest-smaller
loop-rest-smaller c = passes_less c.loop-rest.rest.now c.in-Ok.read.1.now _ (passed c)

pub returns-in-Err-clause-fault : goal.returns-in-Err-clause-fault
returns-in-Err-clause-fault c first e =
    let some : 0 < length c.loop-rest.rest.now =
    grind (arith, nat_tests, c.is_empty.ensures, c.loop-rest-test.true) in
    let fault = rw (sym c.in-Err.ensures.read) at (next_is c.loop-rest.rest.now some) in
    let same : c.at_line.result ≡ first = cc e in
    subst (FirstFault c.args.text.now) same (rw c.at_line.ensures (reached_fault c.args.text.now c.loop-rest.rest.now _ _ c.requires
    c.loop-rest.invariant.scanned (rw (sym c.line_after.ensures) (fault c.line_after.result))))

pub slice_bounds-done-count : goal.slice_bounds-done-count
slice_bounds-done-count c = grind (arith, length-append, (reached _ _ _ c.loop-rest.invariant.scanned).2.1)

pub returns-clause-found : goal.returns-clause-found
returns-clause-found c = reached_all _ _ _ c.requires
    (nil_from_length _ (grind (arith, nat_tests, c.is_empty.ensures, c.loop-rest-test.false))) c.loop-rest.invariant.scanned

pub overflow_sub-text : goal.overflow_sub-text
overflow_sub-text c = grind (arith, length-append, (reached _ _ _ c.loop-rest.invariant.scanned).2.1)

pub returns-clause-places : goal.returns-clause-places
returns-clause-places c = c.loop-rest.invariant.stand
