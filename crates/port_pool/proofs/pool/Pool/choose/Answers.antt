use Rattle.std.proofs.Common.{not, arith}
use Rattle.std.proofs.lemmas.Bool.{not_from_false}
use Rattle.port_pool.specs.Taken.{is_taken, order_of}
use Rattle.port_pool.specs.Candidates.{candidates}
use Rattle.port_pool.proofs.CandidateLaws.{found_free, none_free, port_itself, identifier_itself, zero_alone}
use Rattle.port_pool.proofs.pool.Pool.choose.Goals as goal

pub returns-clause-free : goal.returns-clause-free
returns-clause-free c = found_free (is_taken c.args.self.now)
    (candidates (order_of c.args.self.now) c.args.s c.args.range) c.first_candidate.result c.first_candidate.ensures

pub returns-clause-none : goal.returns-clause-none
returns-clause-none c = none_free (is_taken c.args.self.now)
    (candidates (order_of c.args.self.now) c.args.s c.args.range) c.first_candidate.result c.first_candidate.ensures

pub returns-clause-number : goal.returns-clause-number
returns-clause-number c = zero_alone (λ p. not (is_taken c.args.self.now p))
    (order_of c.args.self.now) c.args.s c.args.range c.first_candidate.result c.first_candidate.ensures

pub returns-clause-port : goal.returns-clause-port
returns-clause-port c is has free = grind (arith, c.first_candidate.ensures, port_itself, c.args.self.now, not_from_false)

pub returns-clause-identifier : goal.returns-clause-identifier
returns-clause-identifier c is free = grind (arith, c.first_candidate.ensures, identifier_itself, c.args.self.now, not_from_false)
