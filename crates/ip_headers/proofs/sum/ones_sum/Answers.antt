use Rattle.std.proofs.Common.{◌≡◌, ◌∙◌, ◌+◌, sym, arith, ap}
use Rattle.ip_headers.specs.Sum.{words_sum, folded}
use Rattle.ip_headers.proofs.Sums.{sum_step, sum_with_carries_is, zero_bytes}
use Rattle.ip_headers.proofs.sum.ones_sum.Goals as goal

pub loop-block-preserved : goal.loop-block-preserved
loop-block-preserved c =
    let cases = c.in-Some.ensures.cases in
    let read : c.from.result ≡ words_sum c.in-Some.block.now = c.from.ensures ∙ c.block_sum.ensures in
    record {
      small = omega (arith, c.reduced.ensures.small, c.from.type_inv, c.block_sum.type_inv, c.from.ensures);
      same = sum_step 8 c.loop-block.sum _ _ c.loop-block.rest.now _ _ cases.1 cases.2 cases.3 c.reduced.ensures.same
          (λ more. ap (λ n. folded (n + more)) read) ∙ c.loop-block.invariant.same;
    }

pub returns-clause-carries : goal.returns-clause-carries
returns-clause-carries c = c.add_words.ensures ∙ c.loop-block.invariant.same
    ∙ sym (sum_with_carries_is c.args.bytes.now (λ i. omega (arith, c.type_inv.bytes i)))

pub returns-clause-zero : goal.returns-clause-zero
returns-clause-zero c = λ e. zero_bytes c.args.bytes.now (sym (c.add_words.ensures ∙ c.loop-block.invariant.same) ∙ e)
