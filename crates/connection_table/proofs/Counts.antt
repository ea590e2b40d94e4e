-- The holders of a mapping in lists made of others.
use Rattle.std.proofs.Common.{◌≡◌, ◌+◌, ◌≤◌, cond, List, ◌∷◌, ◌++◌}
use Rattle.std.proofs.Common.{Option, Some, None, length, arith}
use Rattle.std.specs.List.{Contains}
use Rattle.std.proofs.lemmas.List.Sums.{sum_by-append, count_by-le-length}
use Rattle.nat_mapping.specs.steps.Holders.{holders_cons}
use Rattle.ip_headers.specs.declared.tuple.Mapping.{Mapping}
use Rattle.nat_mapping.specs.Mappings.{same_mapping}
use Rattle.nat_mapping.specs.HeldMappings.{HoldsSame, holders_of}
use Rattle.translation.specs.LiveMappings.{listed}

pub holders-append : (m : Mapping) (one other : List Mapping)
    → holders_of m (one ++ other) ≡ holders_of m one + holders_of m other
unfolding holders_of
holders-append m one other = sum_by-append (λ x. cond (same_mapping m x) 1 0) one other

pub holders-le-length : (m : Mapping) (held : List Mapping) → holders_of m held ≤ length held
unfolding holders_of
holders-le-length m held = count_by-le-length (same_mapping m) held

-- ---- lists with the same mappings and holders

pub same_more : (front one other : List Mapping) → HoldsSame one other → HoldsSame (front ++ one) (front ++ other)
same_more front one other same m = omega (arith, holders-append m front one, holders-append m front other, same m)

-- one holder fewer in both
pub same_fewer : (x : Mapping) (one old new : List Mapping)
    → HoldsSame (x ∷ one) old → HoldsSame old (x ∷ new) → HoldsSame one new
same_fewer x one old new before after m = omega (arith, holders_cons m x one, holders_cons m x new, before m, after m)

-- ---- a mapping or none

pub listed_is : (some : Option Mapping) (m : Mapping) → Contains (listed some) m → some ≡ Some m
listed_is None m among = absurd (omega (arith, among.1))
listed_is (Some x) m among = grind arith

pub length-listed : (some : Option Mapping) → length (listed some) ≤ 1
length-listed None = omega arith
length-listed (Some x) = omega arith
