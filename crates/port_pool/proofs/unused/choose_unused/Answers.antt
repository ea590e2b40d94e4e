use Rattle.std.proofs.Common.{true, refl, sym, ◌∙◌, arith}
use Rattle.port_pool.specs.Candidates.{candidates, preferred, ports_of}
use Rattle.port_pool.specs.steps.Spans.{members}
use Rattle.port_pool.proofs.Spans.{starting_at-same}
use Rattle.port_pool.proofs.CandidateLaws.{identifier_itself}
use Rattle.port_pool.proofs.unused.choose_unused.Goals as goal

pub returns-in-Ports : goal.returns-in-Ports
unfolding candidates
returns-in-Ports c =
    rw c.in-Ports.is (c.first_member.ensures
    ∙ starting_at-same c.args.s (members c.ports_span.result)
    (preferred c.args.s (ports_of c.args.range)) c.ports_span.ensures (λ k. true))

pub returns-in-Identifiers : goal.returns-in-Identifiers
returns-in-Identifiers c = sym (identifier_itself (λ p. true) c.args.order c.args.s c.args.range c.in-Identifiers.is
    (omega (arith, c.ranges.s)) refl)

pub returns-in-Zero : goal.returns-in-Zero
unfolding candidates
returns-in-Zero c = rw c.in-Zero.is refl
