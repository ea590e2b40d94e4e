-- Chains of nodes without lists of them. A link is one more than the index of the node that it leads to, and 0
-- leads nowhere. From each node the link leads to the latest node before it in its bucket, from a bucket's head to
-- its latest of all.
use Rattle.std.specs.Prelude.{◌≡◌, ◌≢◌, ℕ, ◌+◌, ◌-◌, ◌<◌, ◌≤◌, ◌^◌, List, length, slice_index}
use Rattle.chained_map.specs.declared.node.Node.{Node}
use Rattle.chained_map.specs.steps.Buckets.{bucket_of}
use Rattle.chained_map.specs.steps.Nodes.{hashes_of, nexts_of}

-- the link leads to the latest node below the bound that is in the bucket; a node out of its chain is in none
pub record IsLatest (bucket : ℕ → ℕ) (out b bound link : ℕ) : Type 0 where
  pub within : link ≤ bound
  pub member : 0 < link → bucket (link - 1) ≡ b
  pub linked : 0 < link → link - 1 ≢ out
  pub latest : (j : ℕ) → link ≤ j → j < bound → j ≢ out → bucket j ≢ b

-- each of the first n nodes is in its chain, but one that is out
pub record AreChained (bucket next head : ℕ → ℕ) (count n out : ℕ) : Type 0 where
  pub heads : (b : ℕ) → b < count → IsLatest bucket out b n (head b)
  pub nexts : (i : ℕ) → i < n → i ≢ out → IsLatest bucket out (bucket i) i (next i)

-- The place of a node in a bucket's chain: 0 if its head leads to it or beyond, one more than the index of the
-- node whose link does else.
pub record IsPlace (bucket next head : ℕ → ℕ) (n out b i at link : ℕ) : Type 0 where
  pub within : at ≤ n
  pub after : 0 < at → i < at - 1
  pub member : 0 < at → bucket (at - 1) ≡ b
  pub linked : 0 < at → at - 1 ≢ out
  pub first : at ≡ 0 → head b ≡ link
  pub later : 0 < at → next (at - 1) ≡ link
  pub beyond : link ≤ i + 1

-- what the heads and links are once that at a place is written
pub record WritesLink (next head next' head' : ℕ → ℕ) (b at link : ℕ) : Type 0 where
  pub at_head : at ≡ 0 → head' b ≡ link
  pub at_next : 0 < at → next' (at - 1) ≡ link
  pub other_heads : (c : ℕ) → (at ≡ 0 → c ≢ b) → head' c ≡ head c
  pub other_nexts : (k : ℕ) → (0 < at → k ≢ at - 1) → next' k ≡ next k

-- no node has this index
abbrev pub nowhere : ℕ
nowhere = 2 ^ 32

module _ {K V : Type 0} where
  -- the bucket of each node, among so many
  abbrev pub buckets_of : ℕ → List (Node K V) → ℕ → ℕ
  buckets_of count nodes j = bucket_of count (slice_index (hashes_of nodes) j)

  -- the first n nodes are chained from these heads, but one that is out
  abbrev pub IsChainedUpTo : ℕ → ℕ → List ℕ → List (Node K V) → Type 0
  IsChainedUpTo n out heads nodes =
      AreChained (buckets_of (length heads) nodes) (slice_index (nexts_of nodes)) (slice_index heads) (length heads) n out

  -- all nodes are
  abbrev pub IsChained : List ℕ → List (Node K V) → Type 0
  IsChained heads nodes = IsChainedUpTo (length nodes) nowhere heads nodes

  -- the place of a node in a bucket's chain, where one is out
  abbrev pub IsPlaceOf : List ℕ → List (Node K V) → ℕ → ℕ → ℕ → ℕ → ℕ → Type 0
  IsPlaceOf heads nodes out b i at link =
      IsPlace (buckets_of (length heads) nodes) (slice_index (nexts_of nodes)) (slice_index heads) (length nodes) out b i at link

  -- what leads to a place is written
  abbrev pub WritesLinkAt : List ℕ → List (Node K V) → List ℕ → List (Node K V) → ℕ → ℕ → ℕ → Type 0
  WritesLinkAt heads nodes heads' nodes' b at link =
      WritesLink (slice_index (nexts_of nodes)) (slice_index heads) (slice_index (nexts_of nodes')) (slice_index heads') b at link
