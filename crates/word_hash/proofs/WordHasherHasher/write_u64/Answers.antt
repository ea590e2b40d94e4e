use Rattle.std.proofs.Common.{◌∙◌, ap, sym}
use Rattle.std.specs.Hash.{le_bytes}
use Rattle.std.proofs.lemmas.Nat.{from_le_bytes-to_le_bytes_8}
use Rattle.word_hash.specs.WordHash.{after_word, after_write}
use Rattle.word_hash.proofs.WordHasherHasher.write_u64.Goals as goal

pub returns : goal.returns
unfolding after_write le_bytes
returns c = c.absorb.ensures ∙ ap (after_word c.args.self.now) (sym (from_le_bytes-to_le_bytes_8 c.args.i c.ranges.i.fits))
