-- Walks over nodes.
use Rattle.std.proofs.Common.{◌≡◌, ◌≢◌, ◌∙◌, ◌==◌, ◌-◌, ◌^◌, ℕ, zero, suc, ◌<◌, ◌≤◌, ◌++◌, ◌∷◌, []}
use Rattle.std.proofs.Common.{List, length, Bool, true, false, cond, refl, ap, sym, subst, arith, get_or, inl, inr}
use Rattle.std.proofs.lemmas.List.{get_or_append_left, get_or_push, get_or_read, length_push}
use Rattle.std.proofs.lemmas.Bool.{cases_lt}
use Rattle.packet_sets.specs.declared.branch.Branch.{Branch}
use Rattle.packet_sets.specs.Sets.{DiagramsView, branch_at, meaning, next_node, walk}
use Rattle.packet_sets.specs.steps.Nodes.{AreNodes, Grows, IsBranch, IsJoined, IsPart, bit_of}

-- ---- one step

pub next_at : (nodes : List Branch) (n bit low high : ℕ) (f : ℕ → Bool) → branch_at nodes n ≡ record { bit = bit; low = low; high = high }
    → next_node nodes n f ≡ cond (f bit) high low
unfolding next_node
next_at nodes n bit low high f e = rw e refl

pub cond-same : {A : Type 0} (b : Bool) (x : A) → cond b x x ≡ x
cond-same b x = elim b as (λ v. cond v x x ≡ x) [ true ↦ refl | false ↦ refl ]

pub stays : (nodes : List Branch) (n : ℕ) (f : ℕ → Bool) → AreNodes nodes → n < 2 → next_node nodes n f ≡ n
stays nodes zero f are h = next_at nodes 0 _ 0 0 f are.none ∙ cond-same (f (2 ^ 32 - 1)) 0
stays nodes (suc zero) f are h = next_at nodes 1 _ 1 1 f are.all ∙ cond-same (f (2 ^ 32 - 1)) 1
stays nodes (suc (suc n)) f are h = absurd (omega arith)

cond-below : (b : Bool) (x y n : ℕ) → x < n → y < n → cond b x y < n
cond-below b x y n hx hy = elim b as (λ v. cond v x y < n) [ true ↦ hx | false ↦ hy ]

pub goes_down : (nodes : List Branch) (n : ℕ) (f : ℕ → Bool) → AreNodes nodes → 2 ≤ n → n < length nodes → next_node nodes n f < n
unfolding next_node
goes_down nodes n f are two below =
    let b = are.branches n two below in cond-below (f (bit_of nodes n)) _ _ n b.high_before b.low_before

next-most : (nodes : List Branch) (n : ℕ) (f : ℕ → Bool) → AreNodes nodes → n < length nodes → next_node nodes n f ≤ n
next-most nodes n f are below = elim (cases_lt n 2) [
  | inl h ↦ let e = stays nodes n f are h in omega arith
  | inr h ↦ let l = goes_down nodes n f are h below in omega arith
]

-- ---- enough steps

walk-stays : (k : ℕ) (nodes : List Branch) (n : ℕ) (f : ℕ → Bool) → AreNodes nodes → n < 2 → walk k nodes n f ≡ n
unfolding walk
walk-stays zero nodes n f are h = refl
walk-stays (suc k) nodes n f are h = rw (stays nodes n f are h) (walk-stays k nodes n f are h)

pub enough : (k j : ℕ) (nodes : List Branch) (n : ℕ) (f : ℕ → Bool) → AreNodes nodes → n < length nodes → n ≤ k → n ≤ j → walk k nodes n f ≡ walk j nodes n f
unfolding walk
enough zero j nodes n f are below hk hj = sym (walk-stays j nodes n f are (omega arith))
enough (suc k) zero nodes n f are below hk hj = walk-stays (suc k) nodes n f are (omega arith)
enough (suc k) (suc j) nodes n f are below hk hj = elim (cases_lt n 2) [
  | inl h ↦ walk-stays (suc k) nodes n f are h ∙ sym (walk-stays (suc j) nodes n f are h)
  | inr h ↦
      let l = goes_down nodes n f are h below in
      enough k j nodes (next_node nodes n f) f are (omega arith) (omega arith) (omega arith)
]

-- a packet is in a node's set where it is in that of the node at which its walk goes on
next-inner : (nodes : List Branch) (n : ℕ) (f : ℕ → Bool) → AreNodes nodes → 2 ≤ n → n < length nodes
    → meaning nodes n f ≡ meaning nodes (next_node nodes n f) f
unfolding meaning walk
next-inner nodes zero f are h below = absurd (omega arith)
next-inner nodes (suc n) f are h below =
    let d = goes_down nodes (suc n) f are h below in
    ap (λ x. x == 1) (enough n (next_node nodes (suc n) f) nodes (next_node nodes (suc n) f) f are (omega arith) (omega arith) (omega arith))

pub meaning_next : (nodes : List Branch) (n : ℕ) (f : ℕ → Bool) → AreNodes nodes → n < length nodes → meaning nodes n f ≡ meaning nodes (next_node nodes n f) f
meaning_next nodes n f are below = elim (cases_lt n 2) [
  | inl h ↦ ap (λ x. meaning nodes x f) (sym (stays nodes n f are h))
  | inr h ↦ next-inner nodes n f are h below
]

cond-meaning : (nodes : List Branch) (b : Bool) (x y : ℕ) (f : ℕ → Bool) → meaning nodes (cond b x y) f ≡ cond b (meaning nodes x f) (meaning nodes y f)
cond-meaning nodes b x y f = elim b as (λ v. meaning nodes (cond v x y) f ≡ cond v (meaning nodes x f) (meaning nodes y f)) [ true ↦ refl | false ↦ refl ]

pub meaning_at : (nodes : List Branch) (n bit low high : ℕ) (f : ℕ → Bool) → AreNodes nodes → n < length nodes
    → branch_at nodes n ≡ record { bit = bit; low = low; high = high }
    → meaning nodes n f ≡ cond (f bit) (meaning nodes high f) (meaning nodes low f)
meaning_at nodes n bit low high f are below e =
    meaning_next nodes n f are below ∙ ap (λ x. meaning nodes x f) (next_at nodes n bit low high f e) ∙ cond-meaning nodes (f bit) high low f

pub meaning_none : (nodes : List Branch) (f : ℕ → Bool) → meaning nodes 0 f ≡ false
unfolding meaning walk
meaning_none nodes f = refl

pub meaning_all : (nodes : List Branch) (f : ℕ → Bool) → AreNodes nodes → meaning nodes 1 f ≡ true
unfolding meaning walk
meaning_all nodes f are = rw (stays nodes 1 f are (omega arith)) refl

-- ---- more nodes

walk-grows : (k : ℕ) (old new : List Branch) (n : ℕ) (f : ℕ → Bool) → AreNodes old → ((i : ℕ) → i < length old → branch_at new i ≡ branch_at old i)
    → n < length old → walk k new n f ≡ walk k old n f
unfolding walk next_node
walk-grows zero old new n f are same below = refl
walk-grows (suc k) old new n f are same below =
    let l = next-most old n f are below in
    rw (same n below) (walk-grows k old new (next_node old n f) f are same (omega arith))

pub meaning_grows : (old new : List Branch) (n : ℕ) (f : ℕ → Bool) → AreNodes old → ((i : ℕ) → i < length old → branch_at new i ≡ branch_at old i)
    → n < length old → meaning new n f ≡ meaning old n f
unfolding meaning
meaning_grows old new n f are same below = ap (λ x. x == 1) (walk-grows n old new n f are same below)

-- ---- parts

pub end_at : (nodes : List Branch) (n : ℕ) → AreNodes nodes → n < 2 → bit_of nodes n ≡ 2 ^ 32 - 1
end_at nodes zero are h = ap (λ x. x.bit) are.none
end_at nodes (suc zero) are h = ap (λ x. x.bit) are.all
end_at nodes (suc (suc n)) are h = absurd (omega arith)

own_part : (items nodes : List Branch) (node bit : ℕ) (b : Branch) → items ≡ nodes → AreNodes items → node < length items → bit < 2 ^ 32 - 1
    → branch_at items node ≡ b → b.bit ≡ bit → IsPart nodes node bit b
own_part items nodes node bit b v are below early at own = subst (λ xs. IsPart xs node bit b) v (elim (cases_lt node 2) [
  | inl h ↦ let l = end_at items node are h in let o = ap (λ x. x.bit) at ∙ own in absurd (omega arith)
  | inr h ↦
      let i = are.branches node h below in
      let P : Branch → Type 0 = λ x. IsPart items node bit x in
      subst P at (record {
        low_most = omega (arith, i.low_before);
        high_most = omega (arith, i.high_before);
        low_less = λ _. i.low_before;
        high_less = λ _. i.high_before;
        low_after = subst (λ x. x < bit_of items (branch_at items node).low) (ap (λ x. x.bit) at ∙ own) i.low_after;
        high_after = subst (λ x. x < bit_of items (branch_at items node).high) (ap (λ x. x.bit) at ∙ own) i.high_after;
        meaning = λ f. subst (λ x. meaning items node f ≡ cond (f x) (meaning items (branch_at items node).high f) (meaning items (branch_at items
            node).low f)) (ap (λ x. x.bit) at ∙ own)
            (meaning_at items node _ _ _ f are below refl);
      })
])

pub part_own : (items nodes : List Branch) (node bit : ℕ) (b : Branch) → items ≡ nodes → AreNodes items → node < length nodes → bit < 2 ^ 32 - 1
    → b ≡ get_or items node b → b.bit ≡ bit → IsPart nodes node bit b
part_own items nodes node bit b v are below early read own =
    let here : node < length items = omega (arith, ap length v) in
    let at = sym (get_or_read items node b here read (record { bit = 0; low = 0; high = 0 })) in
    own_part items nodes node bit b v are here early at own

-- ---- a node more

pub grows_same : (d : DiagramsView) → Grows d d
grows_same d = record { limit = refl; longer = omega arith; bits = λ n h. refl; same = λ n f h. refl }

pub grows_trans : (a b c : DiagramsView) → Grows a b → Grows b c → Grows a c
grows_trans a b c ab bc = let l = ab.longer in record {
  limit = bc.limit ∙ ab.limit;
  longer = omega (arith, ab.longer, bc.longer);
  bits = λ n h. bc.bits n (omega (arith, l, h)) ∙ ab.bits n h;
  same = λ n f h. bc.same n f (omega (arith, l, h)) ∙ ab.same n f h;
}

pub joined_same : (nodes : List Branch) (bit low : ℕ) → low < length nodes → bit < bit_of nodes low → IsJoined nodes bit low low low
joined_same nodes bit low below after = record {
  below = below;
  after = omega arith;
  meaning = λ f. sym (cond-same (f bit) (meaning nodes low f));
}

pub joined_found : (nodes : List Branch) (bit low high n : ℕ) → AreNodes nodes → n < length nodes
    → branch_at nodes n ≡ record { bit = bit; low = low; high = high } → IsJoined nodes bit low high n
joined_found nodes bit low high n are below at = record {
  below = below;
  after = omega (arith, ap (λ x. x.bit) at);
  meaning = λ f. meaning_at nodes n bit low high f are below at;
}

kept-branch : (nodes : List Branch) (b : Branch) (n : ℕ) → n < length nodes → branch_at (nodes ++ b ∷ []) n ≡ branch_at nodes n
kept-branch nodes b n below = get_or_append_left nodes (b ∷ []) (record { bit = 0; low = 0; high = 0 }) n below

new-branch : (nodes : List Branch) (b : Branch) → branch_at (nodes ++ b ∷ []) (length nodes) ≡ b
new-branch nodes b = get_or_push nodes b (record { bit = 0; low = 0; high = 0 }) (length nodes) refl

-- a node may be put behind these
pub record MayJoin (nodes : List Branch) (bit low high : ℕ) : Type 0 where
  pub early : bit < 2 ^ 32 - 1
  pub low_below : low < length nodes
  pub high_below : high < length nodes
  pub low_after : bit < bit_of nodes low
  pub high_after : bit < bit_of nodes high
  pub differ : low ≢ high

kept-bit : (nodes : List Branch) (b : Branch) (n : ℕ) → n < length nodes → bit_of (nodes ++ b ∷ []) n ≡ bit_of nodes n
kept-bit nodes b n below = ap (λ x. x.bit) (kept-branch nodes b n below)

branch-kept : (nodes : List Branch) (b : Branch) (n : ℕ) → n < length nodes → IsBranch nodes n → IsBranch (nodes ++ b ∷ []) n
branch-kept nodes b n below i =
    let new = nodes ++ b ∷ [] in
    let e = kept-branch nodes b n below in
    let el : (branch_at new n).low ≡ (branch_at nodes n).low = ap (λ x. x.low) e in
    let eh : (branch_at new n).high ≡ (branch_at nodes n).high = ap (λ x. x.high) e in
    let eb = kept-bit nodes b n below in
    let bl : bit_of new (branch_at new n).low ≡ bit_of nodes (branch_at nodes n).low =
    ap (λ x. bit_of new x) el ∙ kept-bit nodes b (branch_at nodes n).low (omega (arith, i.low_before)) in
    let bh : bit_of new (branch_at new n).high ≡ bit_of nodes (branch_at nodes n).high =
    ap (λ x. bit_of new x) eh ∙ kept-bit nodes b (branch_at nodes n).high (omega (arith, i.high_before)) in
    record {
      bit = subst (λ x. x < 2 ^ 32 - 1) (sym eb) i.bit;
      low_before = subst (λ x. x < n) (sym el) i.low_before;
      high_before = subst (λ x. x < n) (sym eh) i.high_before;
      low_after = subst (λ x. x < bit_of new (branch_at new n).low) (sym eb) (subst (λ x. bit_of nodes n < x) (sym bl) i.low_after);
      high_after = subst (λ x. x < bit_of new (branch_at new n).high) (sym eb) (subst (λ x. bit_of nodes n < x) (sym bh) i.high_after);
      differ = λ same. i.differ (sym el ∙ same ∙ eh);
    }

branch-new : (nodes : List Branch) (bit low high : ℕ) → MayJoin nodes bit low high
    → IsBranch (nodes ++ record { bit = bit; low = low; high = high } ∷ []) (length nodes)
branch-new nodes bit low high may =
    let b : Branch = record { bit = bit; low = low; high = high } in
    let new = nodes ++ b ∷ [] in
    let n = length nodes in
    let e = new-branch nodes b in
    let el : (branch_at new n).low ≡ low = ap (λ x. x.low) e in
    let eh : (branch_at new n).high ≡ high = ap (λ x. x.high) e in
    let eb : bit_of new n ≡ bit = ap (λ x. x.bit) e in
    let bl : bit_of new (branch_at new n).low ≡ bit_of nodes low = ap (λ x. bit_of new x) el ∙ kept-bit nodes b low may.low_below in
    let bh : bit_of new (branch_at new n).high ≡ bit_of nodes high = ap (λ x. bit_of new x) eh ∙ kept-bit nodes b high may.high_below in
    record {
      bit = subst (λ x. x < 2 ^ 32 - 1) (sym eb) may.early;
      low_before = subst (λ x. x < n) (sym el) may.low_below;
      high_before = subst (λ x. x < n) (sym eh) may.high_below;
      low_after = subst (λ x. x < bit_of new (branch_at new n).low) (sym eb) (subst (λ x. bit < x) (sym bl) may.low_after);
      high_after = subst (λ x. x < bit_of new (branch_at new n).high) (sym eb) (subst (λ x. bit < x) (sym bh) may.high_after);
      differ = λ same. may.differ (sym el ∙ same ∙ eh);
    }

pub nodes_more : (nodes : List Branch) (bit low high : ℕ) → AreNodes nodes → MayJoin nodes bit low high
    → AreNodes (nodes ++ record { bit = bit; low = low; high = high } ∷ [])
nodes_more nodes bit low high are may =
    let b : Branch = record { bit = bit; low = low; high = high } in
    let long = length_push nodes b in
    let two = are.ends in
    record {
      ends = omega (arith, long, two);
      none = kept-branch nodes b 0 (omega (arith, two)) ∙ are.none;
      all = kept-branch nodes b 1 (omega (arith, two)) ∙ are.all;
      branches = λ n h below. elim (cases_lt n (length nodes)) [
        | inl old ↦ branch-kept nodes b n old (are.branches n h old)
        | inr new ↦
            let e : length nodes ≡ n = omega arith in
            subst (λ k. IsBranch (nodes ++ b ∷ []) k) e (branch-new nodes bit low high may)
      ];
    }

pub grows_more : (nodes : List Branch) (limit bit low high : ℕ) → AreNodes nodes
    → Grows (record { nodes = nodes; limit = limit }) (record { nodes = nodes ++ record { bit = bit; low = low; high = high } ∷ []; limit = limit })
grows_more nodes limit bit low high are =
    let b : Branch = record { bit = bit; low = low; high = high } in
    let long = length_push nodes b in
    record {
      limit = refl;
      longer = omega (arith, long);
      bits = λ n h. ap (λ x. x.bit) (kept-branch nodes b n h);
      same = λ n f h. meaning_grows nodes (nodes ++ b ∷ []) n f are (λ i below. kept-branch nodes b i below) h;
    }

pub joined_more : (nodes : List Branch) (bit low high : ℕ) → AreNodes nodes → MayJoin nodes bit low high
    → IsJoined (nodes ++ record { bit = bit; low = low; high = high } ∷ []) bit low high (length nodes)
joined_more nodes bit low high are may =
    let b : Branch = record { bit = bit; low = low; high = high } in
    let long = length_push nodes b in
    joined_found (nodes ++ b ∷ []) bit low high (length nodes) (nodes_more nodes bit low high are may) (omega (arith, long)) (new-branch nodes b)

-- ---- the same, where the nodes are behind a field

pub may_join : (old nodes : List Branch) (bit low high : ℕ) → nodes ≡ old → bit < 2 ^ 32 - 1 → low < length old → high < length old
    → bit < bit_of old low → bit < bit_of old high → low ≢ high
    → MayJoin nodes bit low high
may_join old nodes bit low high v early l h la ha differ =
    subst (λ xs. MayJoin xs bit low high) (sym v) (record { early = early; low_below = l; high_below = h; low_after = la; high_after = ha; differ = differ })

pub sound_pushed : (nodes items : List Branch) (bit low high : ℕ) → AreNodes nodes → MayJoin nodes bit low high
    → items ≡ nodes ++ record { bit = bit; low = low; high = high } ∷ [] → AreNodes items
sound_pushed nodes items bit low high are may e = subst (λ xs. AreNodes xs) (sym e) (nodes_more nodes bit low high are may)

pub grows_pushed : (d : DiagramsView) (nodes items : List Branch) (limit bit low high : ℕ) → AreNodes nodes → record { nodes = nodes; limit = limit } ≡ d
    → items ≡ nodes ++ record { bit = bit; low = low; high = high } ∷ [] → Grows d (record { nodes = items; limit = limit })
grows_pushed d nodes items limit bit low high are v e =
    let to : DiagramsView = record { nodes = items; limit = limit } in
    subst (λ x. Grows x to) v
    (subst (λ (xs : List Branch). Grows (record { nodes = nodes; limit = limit }) (record { nodes = xs; limit = limit })) (sym e) (grows_more nodes limit
    bit low high are))

pub joined_pushed : (nodes items : List Branch) (bit low high n : ℕ) → AreNodes nodes → MayJoin nodes bit low high
    → items ≡ nodes ++ record { bit = bit; low = low; high = high } ∷ [] → n ≡ length nodes
    → IsJoined items bit low high n
joined_pushed nodes items bit low high n are may e m =
    subst (λ xs. IsJoined xs bit low high n) (sym e) (subst (λ k. IsJoined (nodes ++ record { bit = bit; low = low; high = high } ∷ []) bit low high k)
    (sym m) (joined_more nodes bit low high are may))

pub joined_read : (old nodes read : List Branch) (bit low high n : ℕ) → nodes ≡ old → read ≡ nodes → AreNodes nodes → n < length read
    → branch_at read n ≡ record { bit = bit; low = low; high = high }
    → IsJoined old bit low high n
joined_read old nodes read bit low high n v r are below at =
    let e = r ∙ v in
    subst (λ xs. IsJoined xs bit low high n) e (joined_found read bit low high n (subst (λ xs. AreNodes xs) (sym r) are) below at)
