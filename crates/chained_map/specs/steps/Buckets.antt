-- Which bucket a key is in.
use Rattle.std.specs.Prelude.{ℕ, ◌*◌, ◌/◌, ◌%◌, ◌^◌, fold}
use Rattle.std.specs.Hash.{HashWrites}
use Rattle.word_hash.specs.declared.WordState.{WordState}
use Rattle.word_hash.specs.WordHash.{after_write, finished, initial_state}

-- the hash of what a key writes
unfoldable pub hash_of : WordState → HashWrites → ℕ
hash_of keys writes = finished (fold after_write (initial_state keys) writes) % 2 ^ 32

-- the bucket of a hash, among so many
abbrev pub bucket_of : ℕ → ℕ → ℕ
bucket_of count hash = hash * count / 2 ^ 32
