use Rattle.nat_mapping.proofs.Names.{[]}
use Rattle.nat_mapping.proofs.keys.pool_hashes_differ.Goals as goal

pub returns : goal.returns
returns c equal =
    let same = (rw (c.without_port-first.ensures, c.without_port-second.ensures) at (c.word_tells.ensures [] [])) equal in
    λ i. record { kind = same.0 i; address = (same.1 i).address }
