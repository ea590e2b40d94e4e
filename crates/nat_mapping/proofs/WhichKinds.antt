-- Kinds with pools and without.
use Rattle.nat_mapping.proofs.Names.{Bool, CandidateRange, Kind, None, Option, Some, arith, candidates, cond, false, find, has_pool, order_of, ℕ, ◌≡◌}

-- 0 is the only candidate of a kind without ports
pub zero_found : (test : ℕ → Bool) (kind : Kind) (s : ℕ) (range : Option CandidateRange) → has_pool kind ≡ false
    → find test (candidates (order_of kind) s range) ≡ cond (test 0) (Some 0) None
unfolding candidates
zero_found test kind s range none = grind arith
