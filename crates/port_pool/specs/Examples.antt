-- The words of the examples of candidates.
use Rattle.std.specs.Prelude.{ℕ, ◌==◌, not, List, Option, Some, find}
use Rattle.std.specs.List.{list_any}
use Rattle.port_pool.specs.declared.order.Order.{Order}
use Rattle.port_pool.specs.declared.range.CandidateRange.{CandidateRange}
use Rattle.port_pool.specs.Candidates.{candidates}

-- the number chosen for s where these numbers are taken
abbrev pub chosen_number : Order → ℕ → Option CandidateRange → List ℕ → Option ℕ
chosen_number order s range taken = find (λ p. not (list_any (λ q. q == p) taken)) (candidates order s range)

-- the range of a rule
abbrev pub from_to : ℕ → ℕ → Option CandidateRange
from_to low high = Some (record { low = low; high = high })
