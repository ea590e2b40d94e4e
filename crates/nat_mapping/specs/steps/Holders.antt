-- The number of a mapping's holders, one after another.
use Rattle.std.proofs.Common.{◌≡◌, ◌+◌, cond, List, ◌∷◌}
use Rattle.std.proofs.lemmas.List.Sums.{sum_by-cons}
use Rattle.ip_headers.specs.declared.tuple.Mapping.{Mapping}
use Rattle.nat_mapping.specs.Mappings.{same_mapping}
use Rattle.nat_mapping.specs.HeldMappings.{holders_of}

pub holders_cons : (m x : Mapping) (held : List Mapping)
    → holders_of m (x ∷ held) ≡ cond (same_mapping m x) 1 0 + holders_of m held
unfolding holders_of
holders_cons m x held = sum_by-cons (λ y. cond (same_mapping m y) 1 0) x held
