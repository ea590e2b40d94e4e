-- What growth leaves of a map's parts.
use Rattle.std.proofs.Common.{◌≡◌, ℕ, ◌≤◌, ◌^◌, Bool, List, length, sym, ap, subst, ◌∙◌, arith}
use Rattle.std.specs.Prelude.{replicate}
use Rattle.std.proofs.lemmas.List.{length-replicate}
use Rattle.chained_map.specs.declared.node.Node.{Node}
use Rattle.chained_map.specs.steps.Chains.{IsChained}
use Rattle.chained_map.specs.steps.Nodes.{entries_of, hashes_of}
use Rattle.chained_map.specs.steps.Tables.{HasRoom, IsTable}

-- heads that lead nowhere are as many as they are
pub all_empty : (heads : List ℕ) (n : ℕ) → heads ≡ replicate n 0 → heads ≡ replicate (length heads) 0
all_empty heads n empty = empty ∙ ap (λ k. replicate k 0) (sym (ap length empty ∙ length-replicate n 0))

module _ {K V : Type 0} where
  -- no more than before
  pub still_has_room : (heads : List ℕ) (nodes nodes' : List (Node K V)) (capacity capacity' : ℕ) → nodes' ≡ nodes
      → capacity ≤ capacity' → IsChained heads nodes → length heads ≤ 2 ^ 31 → length heads ≤ capacity
      → HasRoom heads nodes heads nodes' capacity'
  still_has_room heads nodes nodes' capacity capacity' same more chained few reserved = record {
    chained = subst (IsChained heads) (sym same) chained;
    hashes = ap hashes_of same;
    entries = ap entries_of same;
    as_many = ap length same;
    more = omega arith;
    few = few;
    reserved = omega arith;
  }

  -- room for as many nodes as there are heads
  pub has_more_room : (heads heads' final_heads : List ℕ) (nodes nodes' final_nodes : List (Node K V))
      (count capacity : ℕ)
      → final_heads ≡ heads' → final_nodes ≡ nodes' → IsChained heads' nodes' → hashes_of nodes' ≡ hashes_of nodes
      → entries_of nodes' ≡ entries_of nodes → length nodes' ≡ length nodes → length heads' ≡ count
      → length heads ≤ count → count ≤ 2 ^ 31 → count ≤ capacity → HasRoom heads nodes final_heads final_nodes capacity
  has_more_room heads heads' final_heads nodes nodes' final_nodes count capacity heads_back nodes_back chained hashes
      entries as_many long more few reserved =
      subst (λ hs. HasRoom heads nodes hs final_nodes capacity) (sym heads_back)
      (subst (λ ns. HasRoom heads nodes heads' ns capacity) (sym nodes_back) (record {
        chained = chained;
        hashes = hashes;
        entries = entries;
        as_many = as_many;
        more = omega arith;
        few = omega arith;
        reserved = omega arith;
      }))

  module _ (eq : K → K → Bool) (hash : K → ℕ) where
    pub grown_table : (heads heads' : List ℕ) (nodes nodes' : List (Node K V)) (capacity capacity' : ℕ)
        → HasRoom heads nodes heads' nodes' capacity' → IsTable eq hash heads nodes capacity
        → IsTable eq hash heads' nodes' capacity'
    grown_table heads heads' nodes nodes' capacity capacity' grown table = record {
      hashed = rw (grown.hashes, grown.entries) table.hashed;
      chained = grown.chained;
      room = omega (arith, grown.as_many, grown.more, table.room);
      few = grown.few;
      reserved = grown.reserved;
    }
