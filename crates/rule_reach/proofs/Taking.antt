-- Which rules take packets, told by sets.
use Rattle.std.proofs.Common.{◌≡◌, ◌∙◌, ◌&&◌, ◌||◌, ◌==◌, ◌<◌, ◌≤◌, ◌+◌, not, ℕ, Bool, true, false, List, [], ◌∷◌, ◌++◌, length, max, refl, ap, sym, subst}
use Rattle.std.proofs.Common.{arith, inl, inr, length-append, eq-eqb, Contains, get_or}
use Rattle.std.specs.List.Sorted.{IsStrictlyIncreasing}
use Rattle.std.proofs.lemmas.Bool.{and_parts, cases_order, eqb-true, false_from_ne_true}
use Rattle.std.proofs.lemmas.Grind.{get_or_default_zero}
use Rattle.std.proofs.lemmas.List.Elements.{Contains-append_left, Contains-push, Contains-push_cases}
use Rattle.nft_tree.specs.declared.ruleset.RuleNo.{RuleNo}
use Rattle.nft_tree.specs.Tree.{TableTree}
use Rattle.box_file.specs.Box.{PlantTree}
use Rattle.packet_sets.specs.declared.packet_set.PacketSet.{PacketSet}
use Rattle.packet_sets.specs.Sets.{DiagramsView, Keeps, Means, holds}
use Rattle.rule_meaning.specs.declared.facts.Facts.{Facts}
use Rattle.rule_meaning.specs.Hooks.{BaseChain}
use Rattle.fact_sets.specs.Boxes.{NOTHING}
use Rattle.fact_sets.specs.Facts.{facts_of}
use Rattle.rule_sets.specs.Interfaces.{interfaces_of}
use Rattle.chain_ways.specs.Ways.{comes_to}
use Rattle.chain_sets.specs.RuleSets.{sets_of}
use Rattle.rule_reach.specs.declared.sets.BaseSets.{BaseSets}
use Rattle.rule_reach.specs.Reach.{NoPacket, SomePacket, comes_at}
use Rattle.chain_ways.specs.BaseWays.{LEVELS, base_way, program_at}
use Rattle.rule_reach.specs.Sets.{AreBaseSets}
use Rattle.rule_reach.specs.Takers.{AreTakers, Whether, comes_for, meets_alone, rule_beside, takes, would_meet}
use Rattle.rule_reach.specs.steps.Alone.{MeansAlone}
use Rattle.rule_reach.specs.steps.Telling.{HasPacket}
use Rattle.rule_reach.proofs.Earlier.{both_so, comes_earlier}
use Rattle.std.proofs.Math.ListN.{get_or-append}
use Rattle.std.proofs.Math.Seq.{get_or-append_seam}
use Rattle.rule_reach.proofs.Groups.{contains_one, none_more, some_more, some_new}
use Rattle.rule_reach.proofs.Packets.{no_packet, some_packet}

-- ---- one more base chain

module _ (network : PlantTree) (tables : List TableTree) where
  pub whether_more : (bases : List BaseChain) (b : BaseChain) (test : BaseChain → Facts → Bool) (x y : Bool) → Whether network tables bases test x
      → Whether network tables (b ∷ []) test y → Whether network tables (bases ++ b ∷ []) test (x || y)
  whether_more bases b test true y old new = some_more network tables bases b test old
  whether_more bases b test false true old new = some_new network tables bases b test new
  whether_more bases b test false false old new = none_more network tables bases b test old new

-- ---- packets of one base chain

come-bits : (c a t : Bool) → (a && (c && t)) ≡ (c && (a && t))
come-bits true a t = refl
come-bits false true t = refl
come-bits false false t = refl

end-bits : (c a t u : Bool) → ((a && (c && t)) && not (c && u)) ≡ (c && ((a && t) && not u))
end-bits true a t u = refl
end-bits false true t u = refl
end-bits false false t u = refl

same-and : (x y : Bool) → x ≡ true → (x && y) ≡ y
same-and true y e = refl
same-and false y e = cc

module _ (network : PlantTree) (tables : List TableTree) (b : BaseChain) (d : DiagramsView) (sets : BaseSets)
    (w : AreBaseSets network tables d b sets) (r : RuleNo) (alone : PacketSet) (means : MeansAlone network tables d r alone) (k : ℕ) where
  abbrev by_rule : Facts → Bool
  by_rule f = meets_alone (program_at network tables r.table) r f

  abbrev comes_by : ℕ → Facts → Bool
  comes_by n f = comes_to r.chain n (base_way network tables b f)

  come_is : b.number.table ≡ r.table → (f : Facts) → comes_for network tables r k b f ≡ (by_rule f && comes_by k f)
  come_is e f = rw (eq-eqb b.number.table r.table e) refl

  end_is : b.number.table ≡ r.table → (f : Facts) → takes network tables r k b f ≡ ((by_rule f && comes_by k f) && not (comes_by (k + 1) f))
  end_is e f = rw (eq-eqb b.number.table r.table e) refl

  whether : (test : Facts → Bool) (all : BaseChain → Facts → Bool) → ((f : Facts) → all b f ≡ test f) → (e : DiagramsView) (set : PacketSet)
      → ((p : ℕ → Bool) → holds e set p ≡ (holds d sets.coming p && test (facts_of (interfaces_of network) NOTHING p))) → (x : Bool) → HasPacket e set x
      → Whether network tables (b ∷ []) all x
  whether test all same e set is true has = some_packet network tables b d sets w test all same has.0 (sym (is has.0) ∙ has.1)
  whether test all same e set is false none = no_packet network tables b d sets w test all same (λ p. sym (is p) ∙ none p)

  -- the set of those that come, in later diagrams
  come_holds : (e : DiagramsView) (come : PacketSet)
      → Means e come (λ p. holds d alone p && holds d (sets_of sets.rules r.chain k).reached p) → (p : ℕ → Bool)
      → holds e come p ≡ (holds d sets.coming p && (by_rule (facts_of (interfaces_of network) NOTHING p) && comes_by k (facts_of (interfaces_of network) NOTHING p)))
  come_holds e come is p =
      let f = facts_of (interfaces_of network) NOTHING p in
      is.same p ∙ ap (λ x. x && holds d (sets_of sets.rules r.chain k).reached p) (means.same p)
      ∙ ap (λ x. by_rule f && x) ((w.on_ways.reached r.chain k).same p)
      ∙ come-bits (holds d sets.coming p) (by_rule f) (comes_by k f)

  pub come_here : sets.chain.table ≡ r.table → (e g : DiagramsView) (come : PacketSet) → Keeps e g
      → Means e come (λ p. holds d alone p && holds d (sets_of sets.rules r.chain k).reached p) → (x : Bool) → HasPacket g come x
      → Whether network tables (b ∷ []) (comes_for network tables r k) x
  come_here here e g come eg is x has =
      let table : b.number.table ≡ r.table = ap (λ n. n.table) (sym w.chain) ∙ here in
      whether (λ f. by_rule f && comes_by k f) (comes_for network tables r k) (come_is table) g come
      (λ p. eg.same come p is.is_set ∙ come_holds e come is p) x has

  pub end_here : sets.chain.table ≡ r.table → (e g : DiagramsView) (come end : PacketSet) → Keeps d e
      → Means e come (λ p. holds d alone p && holds d (sets_of sets.rules r.chain k).reached p)
      → Means g end (λ p. holds e come p && not (holds e (sets_of sets.rules r.chain (k + 1)).reached p)) → (x : Bool) → HasPacket g end x
      → Whether network tables (b ∷ []) (takes network tables r k) x
  end_here here e g come end de is ended x has =
      let table : b.number.table ≡ r.table = ap (λ n. n.table) (sym w.chain) ∙ here in
      let next = (sets_of sets.rules r.chain (k + 1)).reached in
      whether (λ f. (by_rule f && comes_by k f) && not (comes_by (k + 1) f)) (takes network tables r k) (end_is table) g end
      (λ p. let f = facts_of (interfaces_of network) NOTHING p in
      ended.same p ∙ ap (λ x. x && not (holds e next p))
      (is.same p ∙ ap (λ x. x && holds d (sets_of sets.rules r.chain k).reached p) (means.same p)
      ∙ ap (λ x. by_rule f && x) ((w.on_ways.reached r.chain k).same p))
      ∙ ap (λ x. (by_rule f && (holds d sets.coming p && comes_by k f)) && not x)
      (de.same next p (w.on_ways.reached r.chain (k + 1)).is_set ∙ (w.on_ways.reached r.chain (k + 1)).same p)
      ∙ end-bits (holds d sets.coming p) (by_rule f) (comes_by k f) (comes_by (k + 1) f)) x has

  -- of another table
  apart : (sets.chain.table ≡ r.table → ⊥) → (b.number.table == r.table) ≡ false
  apart other = false_from_ne_true (b.number.table == r.table)
      (λ yes. other (ap (λ n. n.table) w.chain ∙ eqb-true b.number.table r.table yes))

  pub come_elsewhere : (sets.chain.table ≡ r.table → ⊥) → NoPacket network tables (b ∷ []) (comes_for network tables r k)
  come_elsewhere other = λ base f among comes.
      ap (λ x. comes_for network tables r k x f) (sym (contains_one b base among)) ∙ rw (apart other) refl

  pub end_elsewhere : (sets.chain.table ≡ r.table → ⊥) → NoPacket network tables (b ∷ []) (takes network tables r k)
  end_elsewhere other = λ base f among comes.
      ap (λ x. takes network tables r k x f) (sym (contains_one b base among)) ∙ rw (apart other) refl

-- ---- rising numbers

rising_more : (xs : List ℕ) (y : ℕ) → IsStrictlyIncreasing xs → ((x : ℕ) → Contains xs x → x < y) → IsStrictlyIncreasing (xs ++ y ∷ [])
rising_more xs y rising above = λ i inside.
    let long = length-append xs (y ∷ []) in
    elim (cases_order (i + 1) (length xs)) [
      | inl last ↦
          let within : i < length xs = omega (arith, last) in
          rw (get_or-append xs (y ∷ []) 0 i within, last, get_or-append_seam xs y [] 0) (above (get_or xs i 0) (i, within, get_or_default_zero xs i (get_or xs i 0) within))
      | inr away ↦ elim away [
        | inl before ↦
            let within : i < length xs = omega (arith, before) in
            rw (get_or-append xs (y ∷ []) 0 i within, get_or-append xs (y ∷ []) 0 (i + 1) before) (rising i before)
        | inr behind ↦ absurd (omega (arith, long, inside, behind))
      ]
    ]

-- ---- the numbers of takers, as far as the walk along the chain has come

module _ (network : PlantTree) (tables : List TableTree) (bases : List BaseChain) (r : RuleNo) where
  -- of the rules before number k
  pub record TakersTo (k : ℕ) (numbers : List ℕ) : Type 0 where
    pub rising : IsStrictlyIncreasing numbers
    pub some : (j : ℕ) → Contains numbers j → (1 ≤ j) × (j < k) × SomePacket network tables bases (takes network tables r j)
    pub all : (j : ℕ) → 1 ≤ j → j < k → SomePacket network tables bases (takes network tables r j) → Contains numbers j

  pub takers_none : TakersTo 1 []
  takers_none = record {
    rising = λ i inside. absurd (omega (arith, inside));
    some = λ j has. let lt = has.1 in absurd (omega arith);
    all = λ j low under s. absurd (omega (arith, low, under));
  }

  none_and_some : (test : BaseChain → Facts → Bool) → NoPacket network tables bases test → SomePacket network tables bases test → ⊥
  none_and_some test none s = let e = sym (none s.base s.facts s.among s.comes) ∙ s.passes in absurd (cc)

  all_to : (k : ℕ) (old new : List ℕ) → ((j : ℕ) → Contains old j → Contains new j)
      → (SomePacket network tables bases (takes network tables r k) → Contains new k) → TakersTo k old
      → (j : ℕ) → 1 ≤ j → j < k + 1 → SomePacket network tables bases (takes network tables r j) → Contains new j
  all_to k old new kept at so_far j low under s = elim (cases_order j k) [
    | inl same ↦ subst (Contains new) (sym same) (at (subst (λ n. SomePacket network tables bases (takes network tables r n)) same s))
    | inr away ↦ elim away [
      | inl before ↦ kept j (so_far.all j low before s)
      | inr behind ↦ absurd (omega (arith, behind, under))
    ]
  ]

  pub not_a_taker : (k : ℕ) (numbers : List ℕ) → NoPacket network tables bases (takes network tables r k) → TakersTo k numbers → TakersTo (k + 1) numbers
  not_a_taker k numbers none so_far = record {
    rising = so_far.rising;
    some = λ j has. let is = so_far.some j has in let under = is.1 in (is.0, omega arith, is.2);
    all = all_to k numbers numbers (λ j has. has) (λ s. absurd (none_and_some _ none s)) so_far;
  }

  pub a_taker : (k : ℕ) (numbers new : List ℕ) → 1 ≤ k → SomePacket network tables bases (takes network tables r k) → new ≡ numbers ++ k ∷ []
      → TakersTo k numbers → TakersTo (k + 1) new
  a_taker k numbers new low s pushed so_far = subst (TakersTo (k + 1)) (sym pushed) (record {
    rising = rising_more numbers k so_far.rising (λ j has. (so_far.some j has).1);
    some = λ j has. elim (Contains-push_cases numbers k j has) [
      | inl before ↦ let is = so_far.some j before in let under = is.1 in (is.0, omega arith, is.2)
      | inr at ↦ subst (λ n. (1 ≤ n) × (n < k + 1) × SomePacket network tables bases (takes network tables r n)) at (low, omega arith, s)
    ];
    all = all_to k numbers (numbers ++ k ∷ []) (λ j has. Contains-append_left numbers (k ∷ []) j has) (λ s. Contains-push numbers k) so_far;
  })

  -- behind a rule to which none comes, none comes to any
  none_later : (k j : ℕ) → 1 ≤ k → k ≤ j → NoPacket network tables bases (comes_for network tables r k)
      → SomePacket network tables bases (takes network tables r j) → ⊥
  none_later k j low under none s =
      let b = s.base in
      let f = s.facts in
      let parts = and_parts (comes_for network tables r j b f) _ s.passes in
      let would = and_parts _ (comes_at network tables (rule_beside r j) b f) parts.0 in
      let here = and_parts (b.number.table == r.table) (comes_to r.chain j (base_way network tables b f)) would.1 in
      let earlier = comes_earlier (program_at network tables b.number.table) LEVELS b.number.chain f r.chain k j low under here.1 in
      none_and_some (comes_for network tables r k) none (record {
        base = b;
        among = s.among;
        facts = f;
        comes = s.comes;
        passes = both_so (would_meet network tables r b f) (comes_at network tables (rule_beside r k) b f) would.0
            (both_so (b.number.table == r.table) (comes_to r.chain k (base_way network tables b f)) here.0 earlier);
      })

  pub none_left : (k : ℕ) (numbers : List ℕ) → 1 ≤ k → k < r.rule → NoPacket network tables bases (comes_for network tables r k) → TakersTo k numbers
      → AreTakers network tables bases r numbers
  none_left k numbers low inside none so_far = record {
    rising = so_far.rising;
    all = λ j. (
      (λ has. let is = so_far.some j has in let under = is.1 in record { from_first = is.0; before = omega arith; takes_some = is.2 }),
      (λ taker. elim (cases_order j k) [
        | inl same ↦ absurd (none_later k j low (omega arith) none taker.takes_some)
        | inr away ↦ elim away [
          | inl before ↦ so_far.all j taker.from_first before taker.takes_some
          | inr behind ↦ absurd (none_later k j low (omega arith) none taker.takes_some)
        ]
      ]),
    );
  }

  pub takers_all : (k : ℕ) (numbers : List ℕ) → r.rule ≤ k → k ≤ max 1 r.rule → TakersTo k numbers → AreTakers network tables bases r numbers
  takers_all k numbers past within so_far = record {
    rising = so_far.rising;
    all = λ j. (
      (λ has. let is = so_far.some j has in let low = is.0 in let under = is.1 in
          record { from_first = is.0; before = omega arith; takes_some = is.2 }),
      (λ taker. let before = taker.before in so_far.all j taker.from_first (omega arith) taker.takes_some),
    );
  }
