-- The list of mappings that entries represent.
use Rattle.nat_mapping.proofs.Names.{Bool, IsDistinct, IsDistinct-tail, IsUnique, List, MappedPort, Mapping, None, Option, Some, SourceKey, Sources, [], ap}
use Rattle.nat_mapping.proofs.Names.{arith, cond, from_internal, get, held_by, holders_at, holders_of, keys_of, lookup, lookup-none, nat_tests}
use Rattle.nat_mapping.proofs.Names.{none_past_head, refl, replicate, same_mapping, same_source, source_key_of, sum_by, sum_by-append, sum_by-replicate, true}
use Rattle.nat_mapping.proofs.Names.{ℕ, ◌&&◌, ◌*◌, ◌++◌, ◌+◌, ◌==◌, ◌∙◌, ◌∷◌, ◌≡◌}
use Rattle.nat_mapping.proofs.Equal.{equivalence, source_test}

pub same_by : (m : Mapping) (key : SourceKey) (h : MappedPort)
    → same_mapping m (from_internal key h.port) ≡ (same_source (source_key_of m) key && m.external.port == h.port)
same_by m key h = grind arith

times : (b : Bool) (n : ℕ) → n * cond b 1 0 ≡ cond b n 0
times b n = grind (arith, nat_tests)

head : (m x : Mapping) (n : ℕ) (rest : List Mapping)
    → holders_of m (replicate n x ++ rest) ≡ cond (same_mapping m x) n 0 + holders_of m rest
unfolding holders_of
head m x n rest =
    let f : Mapping → ℕ = λ y. cond (same_mapping m y) 1 0 in
    sum_by-append f (replicate n x) rest ∙ ap (λ k. k + sum_by f rest) (sum_by-replicate f n x ∙ times (same_mapping m x) n)

-- where the first entry has its key, no other has
split : (b : Bool) (h : MappedPort) (o : Option MappedPort) (port : ℕ) → (b ≡ true → o ≡ None)
    → cond (b && port == h.port) h.holders 0 + holders_at o port ≡ holders_at (cond b (Some h) o) port
split b h o port none = grind (arith, nat_tests, none)

count_entries : (es : List (SourceKey × MappedPort)) → IsDistinct same_source (keys_of es) → (m : Mapping)
    → holders_of m (held_by es) ≡ holders_at (lookup (same_source (source_key_of m)) es) m.external.port
unfolding held_by holders_of
count_entries [] distinct m = refl
count_entries (e ∷ es) distinct m =
    let test = same_source (source_key_of m) in
    head m (from_internal e.0 e.1.port) e.1.holders (held_by es)
    ∙ (λ i. cond (same_by m e.0 e.1 i) e.1.holders 0 + count_entries es (IsDistinct-tail same_source e.0 (keys_of es) distinct) m i)
    ∙ split (test e.0) e.1 (lookup test es) m.external.port
    (λ t. lookup-none test es (none_past_head (equivalence same_source source_test) (source_key_of m) e es distinct t))

-- the list that a table represents has each mapping as often as the table says
pub counts_of : (sources : Sources) → IsUnique same_source sources → (m : Mapping)
    → holders_of m (held_by sources.entries) ≡ holders_at (get same_source sources (source_key_of m)) m.external.port
counts_of sources unique m = count_entries sources.entries unique m
