use Rattle.nat_mapping.proofs.Names.{[]}
use Rattle.nat_mapping.proofs.keys.inbound_hashes_differ.Goals as goal

pub returns : goal.returns
returns c equal = let same = c.word_tells.ensures [] [] equal in λ i. record { kind = same.0 i; external = same.1 i }
