use Rattle.lowering.proofs.matches.lower_match.Goals as goal

pub returns-in-Compare-clause-effect : goal.returns-in-Compare-clause-effect
returns-in-Compare-clause-effect c = rw c.in-Compare.is (λ later grown f. c.compare.ensures later f)

pub returns-in-Bits-clause-effect : goal.returns-in-Bits-clause-effect
returns-in-Bits-clause-effect c = rw c.in-Bits.is (λ later grown f. rw c.deref-in-Bits.ensures.value at (c.test_bits.ensures later f))
