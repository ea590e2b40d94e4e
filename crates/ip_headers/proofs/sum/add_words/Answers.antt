use Rattle.std.proofs.Common.{◌∙◌, ◌+◌, arith, ap}
use Rattle.ip_headers.specs.Sum.{folded}
use Rattle.ip_headers.proofs.Sums.{double_word, sum_step}
use Rattle.ip_headers.proofs.sum.add_words.Goals as goal

pub loop-words-preserved : goal.loop-words-preserved
loop-words-preserved c =
    let cases = c.in-Some.ensures.cases in
    record {
      small = omega (arith, c.reduced.ensures.small, c.from.type_inv, c.read_u32.type_inv, c.from.ensures);
      same = sum_step 2 c.loop-words.sum _ _ c.loop-words.rest.now _ _ cases.1 cases.2 cases.3 c.reduced.ensures.same
          (λ more. ap (λ n. folded (n + more)) (c.from.ensures ∙ c.read_u32.ensures) ∙ double_word c.in-Some.words.now cases.3 more)
          ∙ c.loop-words.invariant.same;
    }
