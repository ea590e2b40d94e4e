-- The ports or identifiers that a NAT may put in place of a source port or identifier, in the order in which
-- it tries them. Port class (RFC 4787, section 4.2.1, REQ-3) and parity (section 4.2.2, REQ-4) are preserved
-- where that is possible, for UDP and for TCP alike. Port overloading is excluded (REQ-3; RFC 5382, section
-- 7.1, REQ-7): the pool knows which numbers are taken. An ICMP query has an identifier in place of a port
-- (RFC 5508, section 3.1, REQ-1). The order among suitable numbers is this project's own (own).
use Rattle.std.specs.Prelude.{ℕ, ◌+◌, ◌-◌, ◌%◌, max, Bool, ◌&&◌, if◌then◌else◌, ◌==◌, nat_lt, nat_le}
use Rattle.std.specs.Prelude.{List, [], ◌∷◌, ◌++◌, filter, Option, Some, None}
use Rattle.std.specs.List.{range_with_len}
use Rattle.port_pool.specs.declared.order.Order.{Order}
use Rattle.port_pool.specs.declared.order.Order.TheVariants.{Ports, Identifiers, Zero}
use Rattle.port_pool.specs.declared.range.CandidateRange.{CandidateRange}

-- the numbers from low to high, ascending; none where high is less
unfoldable pub numbers : ℕ → ℕ → List ℕ
numbers low high = range_with_len low (high + 1 - low)

-- the ports that a rule allows: those of its range, or all where it has none; 0 is no port
abbrev pub ports_of : Option CandidateRange → List ℕ
ports_of None = numbers 1 65535
ports_of (Some r) = numbers (max 1 r.low) r.high

-- the class of a port: 0 for the well-known ones, up to 1023, and 1 for the others (RFC 4787, section 4.2.1)
abbrev pub class_of : ℕ → ℕ
class_of p = if nat_lt p 1024 then 0 else 1

-- both are even, or both are odd (RFC 4787, section 4.2.2: RTP uses even ports and RTCP odd ones)
abbrev pub same_parity : ℕ → ℕ → Bool
same_parity s p = p % 2 == s % 2

-- both have the same class and the same parity
abbrev pub same_class_and_parity : ℕ → ℕ → Bool
same_class_and_parity s p = (class_of p == class_of s) && same_parity s p

-- the first of the two lists that isn't empty
abbrev pub or_these : List ℕ → List ℕ → List ℕ
or_these [] ys = ys
or_these (x ∷ xs) ys = x ∷ xs

-- of these ports, those with the class and parity of s; if there are none, those with its parity; else all
-- of them
abbrev pub preferred : ℕ → List ℕ → List ℕ
preferred s ps = or_these (filter (same_class_and_parity s) ps) (or_these (filter (same_parity s) ps) ps)

-- those from s on, and then the others from the least on
abbrev pub starting_at : ℕ → List ℕ → List ℕ
starting_at s ps = filter (λ p. nat_le s p) ps ++ filter (λ p. nat_lt p s) ps

-- the candidates for s, the best first. A range restricts ports alone
unfoldable pub candidates : Order → ℕ → Option CandidateRange → List ℕ
candidates Ports s range = starting_at s (preferred s (ports_of range))
candidates Identifiers s range = starting_at s (numbers 0 65535)
candidates Zero s range = 0 ∷ []
