use Rattle.nat_mapping.proofs.Names.{[]}
use Rattle.nat_mapping.proofs.keys.source_hashes_differ.Goals as goal

pub returns : goal.returns
returns c equal =
    let internal = c.word_tells.ensures _ _ equal in
    let external = (rw (c.without_port-first.ensures, c.without_port-second.ensures) at (c.word_tells-2.ensures [] [])) internal.2 in
    λ i. record { kind = internal.0 i; internal = internal.1 i; address = (external.1 i).address }
