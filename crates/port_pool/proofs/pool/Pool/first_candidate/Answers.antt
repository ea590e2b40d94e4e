use Rattle.std.proofs.Common.{◌≡◌, ℕ, refl, ◌∙◌, sym, subst, Bool, true, false, ◌&&◌, not, [], ◌∷◌, Option}
use Rattle.std.specs.Prelude.{◌==◌}
use Rattle.std.specs.Bool.{then_some}
use Rattle.std.specs.List.{find}
use Rattle.port_pool.specs.declared.range.CandidateRange.{CandidateRange}
use Rattle.port_pool.specs.declared.pool.TakenNumbers.{TakenNumbers}
use Rattle.port_pool.specs.steps.Bits.{bit}
use Rattle.port_pool.specs.steps.Spans.{members}
use Rattle.port_pool.specs.Taken.{is_taken, order_of, order_in, taken_in}
use Rattle.port_pool.specs.Candidates.{candidates, numbers, preferred, ports_of}
use Rattle.port_pool.proofs.Spans.{starting_at-same, all_match_parity}
use Rattle.port_pool.proofs.pool.Pool.first_candidate.Goals as goal

-- the first free number, by the kind of the pool
abbrev IsFree : ℕ → Option CandidateRange → Option ℕ → TakenNumbers → Type 0
IsFree s range r n = r ≡ find (λ p. not (taken_in n p)) (candidates (order_in n) s range)

pub returns-in-Ports : goal.returns-in-Ports
unfolding candidates is_taken order_of
returns-in-Ports c =
    subst (IsFree c.args.s c.args.range c.first_from.result) (sym c.in-Ports.is)
    (c.first_from.ensures ∙ starting_at-same c.args.s (members c.ports_span.result)
    (preferred c.args.s (ports_of c.args.range)) c.ports_span.ensures (λ k. not (bit c.in-Ports.bitmap k)))

pub returns-in-Identifiers : goal.returns-in-Identifiers
unfolding candidates is_taken order_of
returns-in-Identifiers c =
    subst (IsFree c.args.s c.args.range c.first_from-in-Identifiers.result) (sym c.in-Identifiers.is)
    (c.first_from-in-Identifiers.ensures ∙ starting_at-same c.args.s _ (numbers 0 65535)
    (all_match_parity (numbers 0 65535)) (λ k. not (bit c.in-Identifiers.bitmap k)))

-- 0 alone
zero_free : (taken : Bool) → then_some (not taken) 0 ≡ find (λ p. not (taken && p == 0)) (0 ∷ [])
zero_free true = refl
zero_free false = refl

pub returns-in-Zero : goal.returns-in-Zero
unfolding candidates is_taken order_of
returns-in-Zero c =
    subst (IsFree c.args.s c.args.range c.then_some.result) (sym c.in-Zero.is) (c.then_some.ensures ∙ zero_free c.in-Zero.taken)
