-- What the code does to nodes and heads, as a change of chains.
use Rattle.std.proofs.Common.{◌≡◌, ◌≢◌, ℕ, ◌+◌, ◌-◌, ◌<◌, ◌≤◌, ◌^◌, List, [], ◌∷◌, ◌++◌, map, inl, inr}
use Rattle.std.proofs.Common.{length, get_or, set, take, drop, refl, sym, ap, subst, ◌∙◌, arith}
use Rattle.std.specs.Prelude.{slice_index, slice_get, Some}
use Rattle.std.specs.List.{swap_remove}
use Rattle.std.specs.Map.{keys_of, values_of}
use Rattle.std.specs.Option.{option_map}
use Rattle.std.proofs.lemmas.List.{get_or-map, get_or-set_same, get_or-set_other, get_or_push, length-map, length-set, length_push, map-set, take-map}
use Rattle.std.proofs.lemmas.Option.{slice_get-get_or, slice_get-map}
use Rattle.std.proofs.lemmas.Bool.{cases_lt, cases_eq}
use Rattle.std.proofs.lemmas.Grind.{common_steps}
use Rattle.std.proofs.Math.ListN.{get_or-append}
use Rattle.chained_map.specs.declared.node.Node.{Node}
use Rattle.chained_map.specs.steps.Buckets.{bucket_of}
use Rattle.chained_map.specs.steps.Chains.{AreChained, IsChained, IsLatest, IsChainedUpTo, IsPlaceOf, WritesLinkAt, buckets_of, nowhere}
use Rattle.chained_map.specs.steps.Nodes.{entries_of, nexts_of, hashes_of}
use Rattle.chained_map.proofs.ChainLaws.{unlinked, linked, last_left, none_out, same_chains, one_more}

pub read_number : {X : Type 0} (f : X → ℕ) (xs : List X) (i : ℕ) (x : X) → i < length xs → x ≡ get_or xs i x
    → slice_index (map f xs) i ≡ f x
read_number f xs i x lt is = get_or-map f xs i x 0 lt ∙ ap f (sym is)

-- a removal that moves the last element, of what a function gives
pub map-swap_remove : {X Y : Type 0} (f : X → Y) (xs : List X) (i : ℕ) (d : X) (e : Y) → i < length xs
    → map f (swap_remove xs i d) ≡ swap_remove (map f xs) i e
map-swap_remove f xs i d e lt =
    let long = length-map xs f in
    let last : length xs - 1 < length xs = omega arith in
    sym (take-map f (length xs - 1) (set xs i (get_or xs (length xs - 1) d)))
    ∙ ap (take (length xs - 1))
    (map-set f xs i (get_or xs (length xs - 1) d) ∙ ap (set (map f xs) i) (sym (get_or-map f xs (length xs - 1) d e last)))
    ∙ ap (λ n. take (n - 1) (set (map f xs) i (get_or (map f xs) (n - 1) e))) (sym long)

-- what a removal leaves, between changes that a function doesn't see
pub removed_of : {X Y : Type 0} (f : X → Y) (e : Y) (old kept lent moved again final : List X) (i : ℕ) (x : X) → i < length kept
    → map f kept ≡ map f old → lent ≡ kept → moved ≡ swap_remove lent i x → map f again ≡ map f moved → final ≡ again
    → map f final ≡ swap_remove (map f old) i e
removed_of f e old kept lent moved again final i x lt same back move unseen last =
    ap (map f) last ∙ unseen ∙ ap (map f) move ∙ ap (λ xs. map f (swap_remove xs i x)) back ∙ map-swap_remove f kept i x e lt
    ∙ ap (λ ys. swap_remove ys i e) same

-- a vector whose items were lent and come back as so many others has these
pub given_back : {X : Type 0} (n : ℕ) (xs ys : List X) → n ≡ length ys → take n (ys ++ drop (length ys) xs) ≡ ys
given_back n xs ys long = grind (arith, common_steps)

-- chains, as they are told of equal numbers
carried : (bucket bucket' next head : ℕ → ℕ) (count count' n n' out : ℕ) → bucket' ≡ bucket → count' ≡ count → n' ≡ n
    → AreChained bucket next head count n out → AreChained bucket' next head count' n' out
carried bucket bucket' next head count count' n n' out buckets counts ns chained = rw (buckets, counts, ns) chained

module _ {K V : Type 0} where
  -- nodes with the same hashes are in the same buckets
  same_buckets : (count count' : ℕ) (nodes nodes' : List (Node K V)) → count' ≡ count → hashes_of nodes' ≡ hashes_of nodes
      → buckets_of count' nodes' ≡ buckets_of count nodes
  same_buckets count count' nodes nodes' counts hashes = λ t j. bucket_of (counts t) (slice_index (hashes t) j)

  -- the bucket of a node that is read
  pub member_of : (count : ℕ) (nodes : List (Node K V)) (i b : ℕ) (node : Node K V) → i < length nodes → node ≡ get_or nodes i node
      → b ≡ bucket_of count node.hash → buckets_of count nodes i ≡ b
  member_of count nodes i b node lt is bucket = ap (bucket_of count) (read_number (λ n. n.hash) nodes i node lt is) ∙ sym bucket

  -- a head is written
  pub writes_head : (heads : List ℕ) (nodes : List (Node K V)) (b at link : ℕ) → b < length heads → at ≡ 0
      → WritesLinkAt heads nodes (set heads b link) nodes b at link
  writes_head heads nodes b at link b_in zero = record {
    at_head = λ _. get_or-set_same heads b link 0 b_in;
    at_next = λ p. absurd (omega arith);
    other_heads = λ c ne. get_or-set_other heads b c link 0 (ne zero);
    other_nexts = λ _ _. refl;
  }

  -- a link is written
  pub writes_next : (heads : List ℕ) (nodes nodes' : List (Node K V)) (b at link : ℕ) → at ≤ length nodes → 0 < at
      → nexts_of nodes' ≡ set (nexts_of nodes) (at - 1) link → WritesLinkAt heads nodes heads nodes' b at link
  writes_next heads nodes nodes' b at link at_in later nexts =
      let within : at - 1 < length (nexts_of nodes) = omega (arith, length-map nodes (λ n. n.next)) in
      record {
        at_head = λ z. absurd (omega arith);
        at_next = λ _. ap (λ ks. slice_index ks (at - 1)) nexts
            ∙ get_or-set_same (nexts_of nodes) (at - 1) link 0 within;
        other_heads = λ _ _. refl;
        other_nexts = λ k ne. ap (λ ks. slice_index ks k) nexts
            ∙ get_or-set_other (nexts_of nodes) (at - 1) k link 0 (ne later);
      }

  -- a node is taken out of its chain
  pub unlinks : (heads heads' : List ℕ) (nodes nodes' : List (Node K V)) (node : Node K V) (i b at link : ℕ)
      → length heads' ≡ length heads → length nodes' ≡ length nodes → hashes_of nodes' ≡ hashes_of nodes
      → length nodes ≤ 2 ^ 31 → i < length nodes → node ≡ get_or nodes i node → b < length heads → b ≡ bucket_of (length heads) node.hash
      → IsChained heads nodes → IsPlaceOf heads nodes nowhere b i at link → WritesLinkAt heads nodes heads' nodes' b at node.next
      → IsChainedUpTo (length nodes') i heads' nodes'
  unlinks heads heads' nodes nodes' node i b at link heads_long long hashes few lt is b_in bucket chained place writes =
      let next = read_number (λ n. n.next) nodes i node lt is in
      carried _ _ _ _ _ _ _ _ _ (same_buckets _ _ _ _ heads_long hashes) heads_long long
      (unlinked _ _ _ _ _ _ _ _ _ _ _ chained place (subst (WritesLinkAt heads nodes heads' nodes' b at) (sym next) writes)
      (omega arith) b_in lt (member_of (length heads) nodes i b node lt is bucket))

  -- it comes back
  pub links : (heads heads' : List ℕ) (nodes among nodes' : List (Node K V)) (node : Node K V) (i b at link : ℕ)
      → length heads' ≡ length heads → length among ≡ length nodes → length nodes' ≡ length among
      → hashes_of among ≡ hashes_of nodes → hashes_of nodes' ≡ hashes_of among
      → length nodes ≤ 2 ^ 31 → i < length nodes → node ≡ get_or nodes i node → b < length heads → b ≡ bucket_of (length heads) node.hash
      → IsChainedUpTo (length nodes) i heads nodes → IsPlaceOf heads nodes i b i at link
      → nexts_of among ≡ set (nexts_of nodes) i link → WritesLinkAt heads among heads' nodes' b at (i + 1)
      → IsChained heads' nodes'
  links heads heads' nodes among nodes' node i b at link heads_long among_long long among_hashes hashes few lt is b_in bucket chained
      place nexts writes =
      let within : i < length (nexts_of nodes) = omega (arith, lt, length-map nodes (λ n. n.next)) in
      let own = ap (λ ks. slice_index ks i) nexts ∙ get_or-set_same (nexts_of nodes) i link 0 within in
      let other = λ (k : ℕ) (ne : k ≢ i). ap (λ ks. slice_index ks k) nexts ∙ get_or-set_other (nexts_of nodes) i k link 0 ne in
      carried _ _ _ _ _ _ _ _ _ (same_buckets _ _ _ _ heads_long (hashes ∙ among_hashes)) heads_long (long ∙ among_long)
      (linked _ _ _ _ _ _ _ _ _ _ _ _ chained place writes own other
      (omega arith) b_in lt (member_of (length heads) nodes i b node lt is bucket))

  -- the last node is taken out of its chain
  pub unlinks_last : (heads : List ℕ) (nodes : List (Node K V)) (node : Node K V) (out b : ℕ) → length nodes ≤ 2 ^ 31
      → out + 1 < length nodes → node ≡ get_or nodes (length nodes - 1) node → b < length heads → b ≡ bucket_of (length heads) node.hash
      → IsChainedUpTo (length nodes) out heads nodes → IsChainedUpTo (length nodes - 1) out (set heads b node.next) nodes
  unlinks_last heads nodes node out b few lt is b_in bucket chained =
      let last : length nodes - 1 < length nodes = omega arith in
      let next = read_number (λ n. n.next) nodes (length nodes - 1) node last is in
      let long = length-set heads b node.next in
      carried _ _ _ _ _ _ _ _ _ (same_buckets _ _ nodes nodes long refl) long refl
      (last_left _ _ _ _ _ _ _ b chained (omega arith) (λ e. omega arith) (member_of (length heads) nodes (length nodes - 1) b node last is bucket)
      (get_or-set_same heads b node.next 0 b_in ∙ sym next) (λ c ne. get_or-set_other heads b c node.next 0 ne))

  -- a node is pushed, and its bucket's head leads to it
  pub pushes : (heads : List ℕ) (nodes : List (Node K V)) (node : Node K V) (b : ℕ) → length nodes < 2 ^ 31 → b < length heads
      → b ≡ bucket_of (length heads) node.hash → node.next ≡ get_or heads b 0
      → IsChained heads nodes → IsChained (set heads b (length nodes + 1)) (nodes ++ node ∷ [])
  pushes heads nodes node b few b_in bucket next chained =
      let n = length nodes in
      let after : List (Node K V) = nodes ++ node ∷ [] in
      let long = length-set heads b (n + 1) in
      let longer : length after ≡ n + 1 = length_push nodes node in
      let last : node ≡ get_or after n node = sym (get_or_push nodes node node n refl) in
      let n_in : n < length after = omega arith in
      let read = λ (f : Node K V → ℕ) (j : ℕ) (below : j < n).
      let j_in : j < length after = omega arith in
      get_or-map f after j node 0 j_in ∙ ap f (get_or-append nodes (node ∷ []) node j below) ∙ sym (get_or-map f nodes j node 0 below) in
      let before = same_chains _ _ (buckets_of (length heads) after) (slice_index (nexts_of after)) _ _ _ _ chained
      (λ j below _. ap (bucket_of (length heads)) (read (λ m. m.hash) j below)) (λ j below _. read (λ m. m.next) j below) in
      carried _ _ _ _ _ _ _ _ _ (same_buckets _ _ after after long refl) long longer
      (one_more _ _ _ _ _ _ b before (omega arith) b_in (member_of (length heads) after n b node n_in last bucket)
      (read_number (λ m. m.next) after n node n_in last ∙ next) (get_or-set_same heads b (n + 1) 0 b_in)
      (λ c ne. get_or-set_other heads b c (n + 1) 0 ne))

  -- the last node moves to the place of one that is out
  pub moves : (heads : List ℕ) (kept lent moved given : List (Node K V)) (node : Node K V) (i n : ℕ) → lent ≡ kept
      → n ≡ length kept → length moved + 1 ≡ n
      → ((k : ℕ) (d : Node K V) → k ≢ i → k + 1 < n → get_or moved k d ≡ get_or lent k d)
      → given ≡ moved
      → IsChainedUpTo (length kept - 1) i heads kept → IsChainedUpTo (length given) i heads given
  moves heads kept lent moved given node i n back long shorter same items chained =
      let count : length kept - 1 ≡ length moved = omega arith in
      let read = λ (f : Node K V → ℕ) (j : ℕ) (below : j < length moved) (ne : j ≢ i).
      let j_in : j < length kept = omega arith in
      get_or-map f moved j node 0 below ∙ ap f (same j node ne (omega arith) ∙ ap (λ ns. get_or ns j node) back)
      ∙ sym (get_or-map f kept j node 0 j_in) in
      subst (λ ns. IsChainedUpTo (length ns) i heads ns) (sym items)
      (same_chains _ _ _ _ _ _ _ _ (subst (λ k. IsChainedUpTo k i heads kept) count chained)
      (λ j below ne. ap (bucket_of (length heads)) (read (λ m. m.hash) j below ne))
      (λ j below ne. read (λ m. m.next) j below ne))

  -- where none is out all are chained
  pub none_left_out : (heads : List ℕ) (nodes : List (Node K V)) (out : ℕ) → length nodes ≤ 2 ^ 31 → out ≡ length nodes
      → IsChainedUpTo (length nodes) out heads nodes → IsChained heads nodes
  none_left_out heads nodes out few is chained =
      none_out _ _ _ _ _ (omega arith) (subst (λ k. IsChainedUpTo (length nodes) k heads nodes) is chained)

  -- the value and the key of a node that is read
  pub value_at : (nodes : List (Node K V)) (i : ℕ) (node : Node K V) → i < length nodes → node ≡ get_or nodes i node
      → slice_get (values_of (entries_of nodes)) i ≡ Some node.value
  value_at nodes i node lt is =
      slice_get-map (λ (e : K × V). e.1) (entries_of nodes) i
      ∙ ap (option_map (λ (e : K × V). e.1)) (slice_get-map (λ (n : Node K V). (n.key, n.value)) nodes i)
      ∙ ap (λ o. option_map (λ (e : K × V). e.1) (option_map (λ (n : Node K V). (n.key, n.value)) o)) (slice_get-get_or nodes i node lt)
      ∙ ap (λ n. Some n.value) (sym is)

  -- one more node of those that stand is chained
  pub chains_next : (heads : List ℕ) (nodes nodes' : List (Node K V)) (node : Node K V) (i b : ℕ) → length nodes ≤ 2 ^ 31
      → i < length nodes → node ≡ get_or nodes i node → b < length heads → b ≡ bucket_of (length heads) node.hash
      → hashes_of nodes' ≡ hashes_of nodes → nexts_of nodes' ≡ set (nexts_of nodes) i (get_or heads b 0)
      → IsChainedUpTo i nowhere heads nodes → IsChainedUpTo (i + 1) nowhere (set heads b (i + 1)) nodes'
  chains_next heads nodes nodes' node i b few lt is b_in bucket hashes nexts chained =
      let within : i < length (nexts_of nodes) = omega (arith, lt, length-map nodes (λ n. n.next)) in
      let head = get_or heads b 0 in
      let read = λ (j : ℕ). ap (λ ks. slice_index ks j) nexts in
      let before = same_chains _ _ (buckets_of (length heads) nodes) (slice_index (nexts_of nodes')) _ _ _ _ chained
      (λ j _ _. refl) (λ j below _. read j ∙ get_or-set_other (nexts_of nodes) i j head 0 (λ e. omega arith)) in
      let long = length-set heads b (i + 1) in
      carried _ _ _ _ _ _ _ _ _ (same_buckets _ _ nodes nodes' long hashes) long refl
      (one_more _ _ _ _ _ _ b before (omega arith) b_in (member_of (length heads) nodes i b node lt is bucket)
      (read i ∙ get_or-set_same (nexts_of nodes) i head 0 within)
      (get_or-set_same heads b (i + 1) 0 b_in) (λ c ne. get_or-set_other heads b c (i + 1) 0 ne))

  pub key_at : (nodes : List (Node K V)) (i : ℕ) (node : Node K V) (d : K) → i < length nodes → node ≡ get_or nodes i node
      → get_or (keys_of (entries_of nodes)) i d ≡ node.key
  key_at nodes i node d lt is =
      let lt_too : i < length (entries_of nodes) = omega (arith, lt, length-map {B = K × V} nodes (λ (n : Node K V). (n.key, n.value))) in
      get_or-map (λ (e : K × V). e.0) (entries_of nodes) i (node.key, node.value) d lt_too
      ∙ ap (λ (e : K × V). e.0) (get_or-map (λ (n : Node K V). (n.key, n.value)) nodes i node (node.key, node.value) lt)
      ∙ ap (λ n. n.key) (sym is)

  -- what is known of the nodes of a hash that a walk has passed, one node further
  pub record Walks (heads : List ℕ) (nodes : List (Node K V)) (hash link : ℕ) (Missed : ℕ → Type 0) : Type 0 where
    pub within : link ≤ length nodes
    pub member : 0 < link → buckets_of (length heads) nodes (link - 1) ≡ bucket_of (length heads) hash
    pub missed : (i : ℕ) → link ≤ i → i < length nodes → slice_index (hashes_of nodes) i ≡ hash → Missed i

  pub walk_begins : (heads : List ℕ) (nodes : List (Node K V)) (hash b : ℕ) (Missed : ℕ → Type 0)
      → length nodes ≤ 2 ^ 31 → b < length heads → b ≡ bucket_of (length heads) hash → IsChained heads nodes
      → Walks heads nodes hash (slice_index heads b) Missed
  walk_begins heads nodes hash b Missed few b_in bucket chained =
      let is = chained.heads b b_in in
      record {
        within = is.within;
        member = λ p. is.member p ∙ bucket;
        missed = λ j from below same.
            absurd (is.latest j from below (λ e. omega arith) (ap (bucket_of (length heads)) same ∙ sym bucket));
      }

  pub falls : (heads : List ℕ) (nodes : List (Node K V)) (link : ℕ) (node : Node K V) → length nodes ≤ 2 ^ 31
      → 0 < link → link ≤ length nodes → node ≡ get_or nodes (link - 1) node → IsChained heads nodes → node.next < link
  falls heads nodes link node few some within is chained =
      let lt : link - 1 < length nodes = omega arith in
      omega (
        arith,
        read_number (λ n. n.next) nodes (link - 1) node lt is,
        (chained.nexts (link - 1) lt (λ e. omega arith)).within,
      )

  pub walks : (heads : List ℕ) (nodes : List (Node K V)) (hash link : ℕ) (node : Node K V) (Missed : ℕ → Type 0) → length nodes ≤ 2 ^ 31
      → 0 < link → node ≡ get_or nodes (link - 1) node → IsChained heads nodes
      → Walks heads nodes hash link Missed → (node.hash ≡ hash → Missed (link - 1)) → Walks heads nodes hash node.next Missed
  walks heads nodes hash link node Missed few some is chained walk here =
      let i = link - 1 in
      let lt : i < length nodes = omega (arith, walk.within) in
      let bucket = buckets_of (length heads) nodes in
      let next = subst (IsLatest bucket nowhere (bucket i) i) (read_number (λ n. n.next) nodes i node lt is)
      (chained.nexts i lt (λ e. omega arith)) in
      record {
        within = omega (arith, next.within);
        member = λ p. next.member p ∙ walk.member some;
        missed = λ j from below same. elim (cases_lt j i) [
          | inl early ↦ absurd (next.latest j from early (λ e. omega arith) (ap (bucket_of (length heads)) same ∙ sym (walk.member some)))
          | inr late ↦ elim (cases_eq j i) [
            | inl e ↦
                let hash = read_number (λ n. n.hash) nodes i node lt is in
                subst Missed (sym e) (here (sym hash ∙ ap (slice_index (hashes_of nodes)) (sym e) ∙ same))
            | inr ne ↦ walk.missed j (omega arith) below same
          ]
        ];
      }
