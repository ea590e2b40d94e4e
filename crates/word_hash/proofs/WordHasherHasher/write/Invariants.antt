use Rattle.std.proofs.Common.{◌≡◌, take, fold}
use Rattle.word_hash.specs.WordHash.{after_word}
use Rattle.word_hash.proofs.WordHasherHasher.write.Given as goal

abbrev pub invariant-loop-byte : goal.invariant-loop-byte
invariant-loop-byte l = l.self ≡ fold after_word l.initial.self (take l.byte-index l.bytes)
