use Rattle.std.proofs.Common.{rules, take_all}
use Rattle.std.proofs.hash.Loops.{byte_more}
use Rattle.word_hash.specs.WordHash.{after_write}
use Rattle.word_hash.proofs.WordHasherHasher.write.Goals as goal

pub returns-then-bytes-eq8 : goal.returns-then-bytes-eq8
unfolding after_write
returns-then-bytes-eq8 c = rw (c.absorb.ensures, c.from_le_bytes.ensures, c.if-bytes-eq8.true)

pub loop-byte-preserved : goal.loop-byte-preserved
loop-byte-preserved c = search (rules, byte_more)

pub returns : goal.returns
unfolding after_write
returns c = search (rules, take_all)
