-- Multilinear hashing with half the multiplications (Lemire and Kaser, Strongly universal string hashing is
-- fast, The Computer Journal 57, 2014): the upper 32 of 64 bits of a key and a product for each word.
use Rattle.std.specs.Prelude.{ℕ, ◌+◌, ◌*◌, ◌/◌, ◌%◌, ◌^◌, List, length, fold, cond, ◌==◌}
use Rattle.std.specs.Int.{w64, from_le_bytes}
use Rattle.word_hash.specs.declared.WordHasher.{WordHasher}
use Rattle.word_hash.specs.declared.WordState.{WordState}

-- keys that everybody may know: the first words of the fraction of pi
abbrev pub published_keys : WordState
published_keys = record {
  summand = 0x243f_6a88_85a3_08d3;
  first = record { low = 0x1319_8a2e_0370_7344; high = 0xa409_3822_299f_31d0 };
  second = record { low = 0x082e_fa98_ec4e_6c89; high = 0x4528_21e6_38d0_1377 };
}

-- of the keys of a table
abbrev pub initial_state : WordState → WordHasher
initial_state s = record { sum = s.summand; next = s.first; after = s.second }

-- after one word, whose halves are multiplied, each with its key added
unfoldable pub after_word : WordHasher → ℕ → WordHasher
after_word s word =
    let low = (word % 2 ^ 32 + s.next.low) % 2 ^ 64 in
    let high = (word / 2 ^ 32 + s.next.high) % 2 ^ 64 in
    record { sum = (s.sum + low * high % 2 ^ 64) % 2 ^ 64; next = s.after; after = s.after }

-- eight bytes are a word, and each byte of other writes is one
unfoldable pub after_write : WordHasher → List ℕ → WordHasher
after_write s bytes =
    cond (length bytes == 8) (after_word s (from_le_bytes w64 bytes)) (fold after_word s bytes)

-- the hash
unfoldable pub finished : WordHasher → ℕ
finished s = s.sum / 2 ^ 32
