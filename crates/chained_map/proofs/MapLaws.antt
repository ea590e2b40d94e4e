-- What is true of a map's parts, and stays true.
use Rattle.std.proofs.Common.{◌≡◌, ℕ, zero, suc, ◌+◌, ◌<◌, ◌^◌, Bool, List, [], ◌∷◌, ◌++◌, length, get_or, set, refl, sym, ap, subst, ◌∙◌, arith}
use Rattle.std.specs.Prelude.{slice_index}
use Rattle.std.specs.Cmp.{IsEquivalence}
use Rattle.std.specs.List.{swap_remove}
use Rattle.std.specs.Map.{keys_of}
use Rattle.std.proofs.lemmas.List.{length-map, length-set}
use Rattle.std.proofs.Math.Seq.{map-set_same}
use Rattle.std_collections.proofs.Entries.{keys_set_value_at}
use Rattle.std_collections.proofs.HashLookup.{IsAbsent, IsHashed-nil, IsHashed-push, IsHashed-same_keys, IsHashed-swap_remove}
use Rattle.chained_map.specs.Values.{set_value_at}
use Rattle.chained_map.specs.declared.node.Node.{Node}
use Rattle.chained_map.specs.steps.Buckets.{bucket_of}
use Rattle.chained_map.specs.steps.Chains.{AreChained, IsChained}
use Rattle.chained_map.specs.steps.Nodes.{entries_of, hashes_of, nexts_of}
use Rattle.chained_map.specs.steps.Tables.{IsTable}
use Rattle.chained_map.proofs.ChainLaws.{no_chains}

module _ {K V : Type 0} where
  pub length_of : (nodes : List (Node K V)) → length (entries_of nodes) ≡ length nodes
  length_of nodes = length-map {B = K × V} nodes (λ (n : Node K V). (n.key, n.value))

  -- a value is written
  pub entries_set : (nodes : List (Node K V)) (i : ℕ) (node d : Node K V) → node.key ≡ (get_or nodes i d).key
      → entries_of (set nodes i node) ≡ set_value_at (entries_of nodes) i node.value
  entries_set [] i node d same = refl
  entries_set (n ∷ nodes) zero node d same = λ t. (same t, node.value) ∷ entries_of nodes
  entries_set (n ∷ nodes) (suc i) node d same = ap (λ es. (n.key, n.value) ∷ es) (entries_set nodes i node d same)

  -- nodes with the same hashes and links are chained as well
  same_links : (heads : List ℕ) (nodes nodes' : List (Node K V)) → hashes_of nodes' ≡ hashes_of nodes → nexts_of nodes' ≡ nexts_of nodes
      → length nodes' ≡ length nodes → IsChained heads nodes → IsChained heads nodes'
  same_links heads nodes nodes' hashes nexts long chained =
      let m = length heads in
      let buckets = λ (hs : List ℕ) (j : ℕ). bucket_of m (slice_index hs j) in
      subst (λ n. AreChained (buckets (hashes_of nodes')) (slice_index (nexts_of nodes')) (slice_index heads) m n (2 ^ 32)) (sym long)
      (subst (λ hs. AreChained (buckets hs) (slice_index (nexts_of nodes')) (slice_index heads) m (length nodes) (2 ^ 32)) (sym hashes)
      (subst (λ ns. AreChained (buckets (hashes_of nodes)) (slice_index ns) (slice_index heads) m (length nodes) (2 ^ 32)) (sym nexts) chained))

  module _ (eq : K → K → Bool) (hash : K → ℕ) where
    pub empty_table : (heads : List ℕ) (nodes : List (Node K V)) (capacity : ℕ) → heads ≡ [] → nodes ≡ [] → IsTable eq hash heads nodes capacity
    empty_table heads nodes capacity no_heads no_nodes =
        subst (λ hs. IsTable eq hash hs nodes capacity) (sym no_heads) (subst (λ ns. IsTable eq hash [] ns capacity) (sym no_nodes) (record {
          hashed = IsHashed-nil {X = V} eq hash [] [] refl refl;
          chained = no_chains _ _ _ 0 (λ c lt. absurd (omega arith));
          room = omega arith;
          few = omega arith;
          reserved = omega arith;
        }))

    pub pushed_table : IsEquivalence eq → (heads heads' : List ℕ) (nodes nodes' : List (Node K V)) (capacity capacity' x : ℕ) (k : K) (v : V)
        → x ≡ hash k → IsAbsent (eq k) (entries_of nodes) → length nodes < length heads → length heads' ≡ length heads → capacity' ≡ capacity
        → length nodes' ≡ length nodes + 1 → hashes_of nodes' ≡ hashes_of nodes ++ x ∷ [] → entries_of nodes' ≡ entries_of nodes ++ (k, v) ∷ []
        → IsChained heads' nodes' → IsTable eq hash heads nodes capacity → IsTable eq hash heads' nodes' capacity'
    pushed_table laws heads heads' nodes nodes' capacity capacity' x k v is absent room long same longer hashes entries chained table = record {
      hashed = rw (hashes, entries) (IsHashed-push eq hash laws (hashes_of nodes) (entries_of nodes) x (k, v) table.hashed is absent);
      chained = chained;
      room = omega (arith, long, longer);
      few = omega (arith, long, table.few);
      reserved = omega (arith, long, same, table.reserved);
    }

    pub removed_table : IsEquivalence eq → (heads heads' : List ℕ) (nodes nodes' : List (Node K V)) (capacity capacity' i : ℕ)
        → i < length nodes → length heads' ≡ length heads → capacity' ≡ capacity → length nodes' + 1 ≡ length nodes
        → hashes_of nodes' ≡ swap_remove (hashes_of nodes) i 0
        → ((entry : K × V) → entries_of nodes' ≡ swap_remove (entries_of nodes) i entry)
        → IsChained heads' nodes' → IsTable eq hash heads nodes capacity → IsTable eq hash heads' nodes' capacity'
    removed_table laws heads heads' nodes nodes' capacity capacity' i lt long same shorter hashes entries chained table =
        let lt_too : i < length (entries_of nodes) = omega (arith, lt, length_of nodes) in
        let entry = some_entry (entries_of nodes) i lt_too in
        record {
          hashed = rw (hashes, entries entry)
              (IsHashed-swap_remove eq hash laws (hashes_of nodes) (entries_of nodes) i entry lt_too table.hashed);
          chained = chained;
          room = omega (arith, long, shorter, table.room);
          few = omega (arith, long, table.few);
          reserved = omega (arith, long, same, table.reserved);
        }
      where
        some_entry : (es : List (K × V)) (j : ℕ) → j < length es → K × V
        some_entry [] j p = absurd (omega arith)
        some_entry (e ∷ es) j p = e

    pub written_table : (heads : List ℕ) (nodes : List (Node K V)) (capacity i : ℕ) (node d : Node K V)
        → node.key ≡ (get_or nodes i d).key → node.hash ≡ (get_or nodes i d).hash → node.next ≡ (get_or nodes i d).next
        → IsTable eq hash heads nodes capacity → IsTable eq hash heads (set nodes i node) capacity
    written_table heads nodes capacity i node d keys hashes nexts table =
        let after = set nodes i node in
        let same_hashes = map-set_same (λ (n : Node K V). n.hash) nodes i node d hashes in
        let same_nexts = map-set_same (λ (n : Node K V). n.next) nodes i node d nexts in
        let entries = entries_set nodes i node d keys in
        let same_keys = ap keys_of entries ∙ keys_set_value_at (entries_of nodes) i node.value in
        let long : length after ≡ length nodes = length-set nodes i node in
        record {
          hashed = rw same_hashes (IsHashed-same_keys eq hash (hashes_of nodes) (entries_of nodes) (entries_of after) same_keys table.hashed);
          chained = same_links heads nodes after same_hashes same_nexts long table.chained;
          room = omega (arith, long, table.room);
          few = table.few;
          reserved = table.reserved;
        }
