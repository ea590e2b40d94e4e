-- Chains as nodes leave them and come back.
use Rattle.std.proofs.Common.{◌≡◌, ◌≢◌, ℕ, ◌+◌, ◌-◌, ◌<◌, ◌≤◌, inl, inr, sym, ap, subst, ◌∙◌, arith}
use Rattle.std.proofs.lemmas.Bool.{cases_lt, cases_eq}
use Rattle.chained_map.specs.steps.Chains.{IsLatest, AreChained, IsPlace, WritesLink, nowhere}

module _ (bucket : ℕ → ℕ) where
  -- a link that doesn't lead to the node that leaves stays
  other_leaves : (b d x i : ℕ) → d ≤ nowhere → (0 < x → x - 1 ≢ i) → IsLatest bucket nowhere b d x → IsLatest bucket i b d x
  other_leaves b d x i few past is = record {
    within = is.within;
    member = is.member;
    linked = past;
    latest = λ j from below _. is.latest j from below (λ e. omega arith);
  }

  -- one that does gets the node's
  own_leaves : (b d x i y : ℕ) → d ≤ nowhere → x ≤ i + 1 → i < d → IsLatest bucket nowhere b i y
      → IsLatest bucket nowhere b d x → IsLatest bucket i b d y
  own_leaves b d x i y few passes before own is = record {
    within = omega (arith, own.within);
    member = own.member;
    linked = λ p e. omega (arith, own.within);
    latest = λ j from below other same. elim (cases_lt j i) [
      | inl earlier ↦ own.latest j from earlier (λ e. omega arith) same
      | inr later ↦ is.latest j (omega arith) below (λ e. omega arith) same
    ];
  }

  -- a link that doesn't lead past the node that comes back stays
  other_comes : (b d x i : ℕ) → d ≤ nowhere → (i < d → bucket i ≡ b → i < x) → IsLatest bucket i b d x → IsLatest bucket nowhere b d x
  other_comes b d x i few past is = record {
    within = is.within;
    member = is.member;
    linked = λ p e. omega (arith, is.within);
    latest = λ j from below _ same. elim (cases_eq j i) [
      | inl e ↦ let early : i < x = past (omega arith) (ap bucket (sym e) ∙ same) in absurd (omega arith)
      | inr other ↦ is.latest j from below other same
    ];
  }

  -- one that does is the node's from now on
  own_comes : (b d x i : ℕ) → d ≤ nowhere → x ≤ i + 1 → i < d → IsLatest bucket i b d x → IsLatest bucket nowhere b i x
  own_comes b d x i few passes before is = record {
    within = elim (cases_eq x (i + 1)) [
      | inl e ↦ absurd (is.linked (omega arith) (omega arith))
      | inr other ↦ omega arith
    ];
    member = is.member;
    linked = λ p e. omega (arith, is.within);
    latest = λ j from below _. is.latest j from (omega arith) (λ e. omega arith);
  }

  -- and leads to the node
  led_comes : (b d x i : ℕ) → d ≤ nowhere → x ≤ i + 1 → i < d → bucket i ≡ b → IsLatest bucket i b d x
      → IsLatest bucket nowhere b d (i + 1)
  led_comes b d x i few passes before member is =
      let back : (i + 1) - 1 ≡ i = omega arith in
      record {
        within = omega arith;
        member = λ _. ap bucket back ∙ member;
        linked = λ _ e. omega arith;
        latest = λ j from below _. is.latest j (omega arith) below (λ e. omega arith);
      }

-- a node leaves its chain at its place
module _ (bucket next head next' head' : ℕ → ℕ) (count n i b at link : ℕ)
    (chained : AreChained bucket next head count n nowhere) (place : IsPlace bucket next head n nowhere b i at link)
    (writes : WritesLink next head next' head' b at (next i))
    (few : n ≤ nowhere) (b_in : b < count) (i_in : i < n) (member : bucket i ≡ b) where
  own : IsLatest bucket nowhere b i (next i)
  own = subst (λ c. IsLatest bucket nowhere c i (next i)) member (chained.nexts i i_in (λ e. omega arith))

  head_left : (c : ℕ) → c < count → IsLatest bucket i c n (head' c)
  head_left c lt = elim (cases_eq c b) [
    | inl e ↦ elim (cases_lt 0 at) [
      | inl later ↦ subst (IsLatest bucket i c n) (sym (writes.other_heads c (λ z. absurd (omega arith))))
          (other_leaves bucket c n (head c) i few
          (λ pos back. (chained.heads c lt).latest (at - 1) (omega (arith, place.after later)) (omega (arith, place.within))
          (λ e. omega (arith, place.within)) (place.member later ∙ sym e))
          (chained.heads c lt))
      | inr none ↦
          let zero : at ≡ 0 = omega arith in
          subst (IsLatest bucket i c n) (sym (ap head' e ∙ writes.at_head zero))
          (subst (λ c. IsLatest bucket i c n (next i)) (sym e)
          (own_leaves bucket b n (head b) i (next i) few (omega (arith, place.first zero, place.beyond)) i_in own (chained.heads b b_in)))
    ]
    | inr ne ↦
        let is = chained.heads c lt in
        subst (IsLatest bucket i c n) (sym (writes.other_heads c (λ _. ne)))
        (other_leaves bucket c n (head c) i few (λ pos back. ne (sym (is.member pos) ∙ ap bucket back ∙ member)) is)
  ]

  next_left : (k : ℕ) → k < n → k ≢ i → IsLatest bucket i (bucket k) k (next' k)
  next_left k lt ne =
      let is = chained.nexts k lt (λ e. omega arith) in
      let few_k : k ≤ nowhere = omega arith in
      elim (cases_lt 0 at) [
        | inl later ↦
            let p_in : at - 1 < n = omega (arith, place.within) in
            let is_at = chained.nexts (at - 1) p_in (λ e. omega arith) in
            elim (cases_eq k (at - 1)) [
              | inl e ↦
                  let same : b ≡ bucket k = sym (place.member later) ∙ ap bucket (sym e) in
                  subst (IsLatest bucket i (bucket k) k) (sym (ap next' e ∙ writes.at_next later))
                  (own_leaves bucket (bucket k) k (next k) i (next i) few_k (omega (arith, ap next e, place.later later, place.beyond))
                  (omega (arith, place.after later)) (subst (λ c. IsLatest bucket nowhere c i (next i)) same own) is)
              | inr other ↦ subst (IsLatest bucket i (bucket k) k) (sym (writes.other_nexts k (λ _. other)))
                  (other_leaves bucket (bucket k) k (next k) i few_k
                  (λ pos back.
                  let same : bucket k ≡ b = sym (is.member pos) ∙ ap bucket back ∙ member in
                  elim (cases_lt k (at - 1)) [
                    | inl before ↦
                        is_at.latest k (omega (arith, place.later later, place.beyond, is.within)) before (λ e. omega arith)
                        (same ∙ sym (place.member later))
                    | inr behind ↦
                        is.latest (at - 1) (omega (arith, place.after later)) (omega arith) (λ e. omega arith)
                        (place.member later ∙ sym same)
                  ])
                  is)
            ]
        | inr none ↦
            let zero : at ≡ 0 = omega arith in
            subst (IsLatest bucket i (bucket k) k) (sym (writes.other_nexts k (λ p. absurd (omega arith))))
            (other_leaves bucket (bucket k) k (next k) i few_k
            (λ pos back. (chained.heads b b_in).latest k (omega (arith, place.first zero, place.beyond, is.within)) lt (λ e. omega arith)
            (sym (is.member pos) ∙ ap bucket back ∙ member))
            is)
      ]

  pub unlinked : AreChained bucket next' head' count n i
  unlinked = record { heads = head_left; nexts = next_left }

-- a node comes back to its chain at its place
module _ (bucket next head among next' head' : ℕ → ℕ) (count n i b at link : ℕ)
    (chained : AreChained bucket next head count n i) (place : IsPlace bucket next head n i b i at link)
    (writes : WritesLink among head next' head' b at (i + 1))
    (own_next : among i ≡ link) (other_next : (k : ℕ) → k ≢ i → among k ≡ next k)
    (few : n ≤ nowhere) (b_in : b < count) (i_in : i < n) (member : bucket i ≡ b) where
  head_back : (c : ℕ) → c < count → IsLatest bucket nowhere c n (head' c)
  head_back c lt = elim (cases_eq c b) [
    | inl e ↦ elim (cases_lt 0 at) [
      | inl later ↦ subst (IsLatest bucket nowhere c n) (sym (writes.other_heads c (λ z. absurd (omega arith))))
          (other_comes bucket c n (head c) i few
          (λ _ _. elim (cases_lt (at - 1) (head c)) [
            | inl above ↦ omega (arith, place.after later)
            | inr under ↦ absurd ((chained.heads c lt).latest (at - 1) under (omega (arith, place.within)) (place.linked later)
                (place.member later ∙ sym e))
          ])
          (chained.heads c lt))
      | inr none ↦
          let zero : at ≡ 0 = omega arith in
          subst (IsLatest bucket nowhere c n) (sym (ap head' e ∙ writes.at_head zero))
          (subst (λ c. IsLatest bucket nowhere c n (i + 1)) (sym e)
          (led_comes bucket b n (head b) i few (omega (arith, place.first zero, place.beyond)) i_in member (chained.heads b b_in)))
    ]
    | inr ne ↦ subst (IsLatest bucket nowhere c n) (sym (writes.other_heads c (λ _. ne)))
        (other_comes bucket c n (head c) i few (λ _ same. absurd (ne (sym same ∙ member))) (chained.heads c lt))
  ]

  -- what the node's link gets is right there
  own_back : IsLatest bucket nowhere b i link
  own_back = elim (cases_lt 0 at) [
    | inl later ↦
        let is_at = chained.nexts (at - 1) (omega (arith, place.within)) (place.linked later) in
        subst (IsLatest bucket nowhere b i) (place.later later)
        (own_comes bucket b (at - 1) (next (at - 1)) i (omega (arith, place.within))
        (omega (arith, place.later later, place.beyond)) (place.after later)
        (subst (λ c. IsLatest bucket i c (at - 1) (next (at - 1))) (place.member later) is_at))
    | inr none ↦
        let zero : at ≡ 0 = omega arith in
        subst (IsLatest bucket nowhere b i) (place.first zero)
        (own_comes bucket b n (head b) i few (omega (arith, place.first zero, place.beyond)) i_in (chained.heads b b_in))
  ]

  next_back : (k : ℕ) → k < n → k ≢ nowhere → IsLatest bucket nowhere (bucket k) k (next' k)
  next_back k lt _ = elim (cases_eq k i) [
    | inl e ↦
        let read : next' k ≡ link = writes.other_nexts k (λ p f. omega (arith, place.after p)) ∙ ap among e ∙ own_next in
        let same : b ≡ bucket k = sym member ∙ ap bucket (sym e) in
        subst (IsLatest bucket nowhere (bucket k) k) (sym read)
        (subst (λ c. IsLatest bucket nowhere c k link) same (subst (λ j. IsLatest bucket nowhere b j link) (sym e) own_back))
    | inr ne ↦
        let is = chained.nexts k lt ne in
        let few_k : k ≤ nowhere = omega arith in
        elim (cases_lt 0 at) [
          | inl later ↦
              let is_at = chained.nexts (at - 1) (omega (arith, place.within)) (place.linked later) in
              elim (cases_eq k (at - 1)) [
                | inl e ↦ subst (IsLatest bucket nowhere (bucket k) k) (sym (ap next' e ∙ writes.at_next later))
                    (led_comes bucket (bucket k) k (next k) i few_k (omega (arith, ap next e, place.later later, place.beyond))
                    (omega (arith, place.after later)) (member ∙ sym (place.member later) ∙ ap bucket (sym e)) is)
                | inr other ↦ subst (IsLatest bucket nowhere (bucket k) k) (sym (writes.other_nexts k (λ _. other) ∙ other_next k ne))
                    (other_comes bucket (bucket k) k (next k) i few_k
                    (λ before same. elim (cases_lt k (at - 1)) [
                      | inl front ↦ absurd (is_at.latest k (omega (arith, place.later later, place.beyond)) front ne
                          (sym same ∙ member ∙ sym (place.member later)))
                      | inr behind ↦ elim (cases_lt (at - 1) (next k)) [
                        | inl above ↦ omega (arith, place.after later)
                        | inr under ↦ absurd (is.latest (at - 1) under (omega arith) (place.linked later) (place.member later ∙ sym member ∙ same))
                      ]
                    ])
                    is)
              ]
          | inr none ↦
              let zero : at ≡ 0 = omega arith in
              subst (IsLatest bucket nowhere (bucket k) k) (sym (writes.other_nexts k (λ p. absurd (omega arith)) ∙ other_next k ne))
              (other_comes bucket (bucket k) k (next k) i few_k
              (λ before same. absurd ((chained.heads b b_in).latest k (omega (arith, place.first zero, place.beyond)) lt ne (sym same ∙ member)))
              is)
        ]
  ]

  pub linked : AreChained bucket next' head' count n nowhere
  linked = record { heads = head_back; nexts = next_back }

-- the last node leaves its chain, which leads to it first
pub last_left : (bucket next head head' : ℕ → ℕ) (count n out b : ℕ) → AreChained bucket next head count n out
    → 0 < n → out ≢ n - 1 → bucket (n - 1) ≡ b → head' b ≡ next (n - 1) → ((c : ℕ) → c ≢ b → head' c ≡ head c)
    → AreChained bucket next head' count (n - 1) out
last_left bucket next head head' count n out b chained some apart member written same =
    let last = chained.nexts (n - 1) (omega arith) (λ e. apart (sym e)) in
    record {
      heads = λ c lt. elim (cases_eq c b) [
        | inl e ↦ subst (λ x. IsLatest bucket out c (n - 1) x) (sym (ap head' e ∙ written))
            (subst (λ k. IsLatest bucket out k (n - 1) (next (n - 1))) (member ∙ sym e) last)
        | inr ne ↦
            let is = chained.heads c lt in
            let less : head c ≤ n - 1 = elim (cases_lt (n - 1) (head c)) [
              | inl above ↦ absurd (ne (sym (is.member (omega arith)) ∙ ap bucket (omega (arith, is.within)) ∙ member))
              | inr under ↦ under
            ] in
            subst (IsLatest bucket out c (n - 1)) (sym (same c ne))
            (record { within = less; member = is.member; linked = is.linked; latest = λ j from below. is.latest j from (omega arith) })
      ];
      nexts = λ k lt. chained.nexts k (omega arith);
    }

-- the last node, which is out, is there no more
pub last_out : (bucket next head : ℕ → ℕ) (count n out : ℕ) → n ≡ out + 1 → AreChained bucket next head count n out
    → AreChained bucket next head count (n - 1) out
last_out bucket next head count n out last chained = record {
  heads = λ c lt.
      let is = chained.heads c lt in
      record {
        within = elim (cases_lt (n - 1) (head c)) [
          | inl above ↦ absurd (is.linked (omega arith) (omega (arith, is.within)))
          | inr under ↦ under
        ];
        member = is.member;
        linked = is.linked;
        latest = λ j from below. is.latest j from (omega arith);
      };
  nexts = λ k lt. chained.nexts k (omega arith);
}

-- none is out
pub none_out : (bucket next head : ℕ → ℕ) (count n : ℕ) → n ≤ nowhere → AreChained bucket next head count n n
    → AreChained bucket next head count n nowhere
none_out bucket next head count n few chained = record {
  heads = λ c lt. none_there c n (head c) (omega arith) (chained.heads c lt);
  nexts = λ k lt _. none_there (bucket k) k (next k) (omega arith) (chained.nexts k lt (λ e. omega arith));
}
  where
    none_there : (b d x : ℕ) → d ≤ n → IsLatest bucket n b d x → IsLatest bucket nowhere b d x
    none_there b d x within is = record {
      within = is.within;
      member = is.member;
      linked = λ p e. omega (arith, is.within);
      latest = λ j from below _. is.latest j from below (λ e. omega arith);
    }

-- what the chains don't reach may change
pub same_chains : (bucket next bucket' next' head : ℕ → ℕ) (count n out : ℕ) → AreChained bucket next head count n out
    → ((j : ℕ) → j < n → j ≢ out → bucket' j ≡ bucket j) → ((j : ℕ) → j < n → j ≢ out → next' j ≡ next j)
    → AreChained bucket' next' head count n out
same_chains bucket next bucket' next' head count n out chained buckets nexts = record {
  heads = λ c lt. latest_there c n (head c) (omega arith) (chained.heads c lt);
  nexts = λ k lt ne. subst (IsLatest bucket' out (bucket' k) k) (sym (nexts k lt ne))
      (subst (λ c. IsLatest bucket' out c k (next k)) (sym (buckets k lt ne))
      (latest_there (bucket k) k (next k) (omega arith) (chained.nexts k lt ne)));
}
  where
    latest_there : (b d x : ℕ) → d ≤ n → IsLatest bucket out b d x → IsLatest bucket' out b d x
    latest_there b d x within is = record {
      within = is.within;
      member = λ p. buckets (x - 1) (omega (arith, is.within)) (is.linked p) ∙ is.member p;
      linked = is.linked;
      latest = λ j from below ne e. is.latest j from below ne (sym (buckets j (omega arith) ne) ∙ e);
    }

-- one more node, which its bucket's head leads to
pub one_more : (bucket next head head' : ℕ → ℕ) (count n b : ℕ) → AreChained bucket next head count n nowhere
    → n < nowhere → b < count → bucket n ≡ b → next n ≡ head b → head' b ≡ n + 1 → ((c : ℕ) → c ≢ b → head' c ≡ head c)
    → AreChained bucket next head' count (n + 1) nowhere
one_more bucket next head head' count n b chained few b_in member own written same = record {
  heads = λ c lt. elim (cases_eq c b) [
    | inl e ↦ subst (IsLatest bucket nowhere c (n + 1)) (sym (ap head' e ∙ written)) (record {
      within = omega arith;
      member = λ _. ap bucket (let back : (n + 1) - 1 ≡ n = omega arith in back) ∙ member ∙ sym e;
      linked = λ _ f. omega arith;
      latest = λ j from below. absurd (omega arith);
    })
    | inr ne ↦
        let is = chained.heads c lt in
        subst (IsLatest bucket nowhere c (n + 1)) (sym (same c ne)) (record {
          within = omega (arith, is.within);
          member = is.member;
          linked = is.linked;
          latest = λ j from below other at. elim (cases_lt j n) [
            | inl before ↦ is.latest j from before other at
            | inr last ↦ let e : j ≡ n = omega arith in ne (sym at ∙ ap bucket e ∙ member)
          ];
        })
  ];
  nexts = λ k lt other. elim (cases_lt k n) [
    | inl before ↦ chained.nexts k before other
    | inr last ↦
        let e : n ≡ k = omega arith in
        subst (λ j. IsLatest bucket nowhere (bucket j) j (next j)) e
        (subst (λ c. IsLatest bucket nowhere c n (next n)) (sym member) (subst (IsLatest bucket nowhere b n) (sym own) (chained.heads b b_in)))
  ];
}

-- heads that lead nowhere
pub no_chains : (bucket next head : ℕ → ℕ) (count : ℕ) → ((c : ℕ) → c < count → head c ≡ 0) → AreChained bucket next head count 0 nowhere
no_chains bucket next head count empty = record {
  heads = λ c lt. record {
    within = omega (arith, empty c lt);
    member = λ p. absurd (omega (arith, empty c lt));
    linked = λ p. absurd (omega (arith, empty c lt));
    latest = λ j from below. absurd (omega arith);
  };
  nexts = λ k lt. absurd (omega arith);
}

-- what a walk to a node's place knows, that has come to a link
pub record IsWalked (bucket next head : ℕ → ℕ) (n out b i at link : ℕ) : Type 0 where
  pub within : at ≤ n
  pub after : 0 < at → i < at - 1
  pub member : 0 < at → bucket (at - 1) ≡ b
  pub linked : 0 < at → at - 1 ≢ out
  pub first : at ≡ 0 → head b ≡ link
  pub later : 0 < at → next (at - 1) ≡ link
  pub ahead : link ≤ n
  pub ahead_member : 0 < link → bucket (link - 1) ≡ b
  pub ahead_linked : 0 < link → link - 1 ≢ out

module _ (bucket next head : ℕ → ℕ) (count n out b i : ℕ) (chained : AreChained bucket next head count n out)
    (b_in : b < count) where
  pub walk_starts : IsWalked bucket next head n out b i 0 (head b)
  walk_starts =
      let is = chained.heads b b_in in
      record {
        within = omega arith;
        after = λ p. absurd (omega arith);
        member = λ p. absurd (omega arith);
        linked = λ p. absurd (omega arith);
        first = λ _ k. head b;
        later = λ p. absurd (omega arith);
        ahead = is.within;
        ahead_member = is.member;
        ahead_linked = is.linked;
      }

  module _ (at link : ℕ) (on : i + 1 < link) (walked : IsWalked bucket next head n out b i at link) where
    beyond : IsLatest bucket out (bucket (link - 1)) (link - 1) (next (link - 1))
    beyond = chained.nexts (link - 1) (omega (arith, walked.ahead)) (walked.ahead_linked (omega arith))

    pub walk_falls : (after : ℕ) → next (link - 1) ≡ after → after < link
    walk_falls after is = omega (arith, is, beyond.within)

    pub walk_goes_on : (after : ℕ) → next (link - 1) ≡ after → IsWalked bucket next head n out b i link after
    walk_goes_on after is = subst (IsWalked bucket next head n out b i link) is (record {
      within = walked.ahead;
      after = λ _. omega arith;
      member = walked.ahead_member;
      linked = walked.ahead_linked;
      first = λ e. absurd (omega arith);
      later = λ _ k. next (link - 1);
      ahead = omega (arith, walked.ahead, beyond.within);
      ahead_member = λ p. beyond.member p ∙ walked.ahead_member (omega arith);
      ahead_linked = beyond.linked;
    })

-- a walk has come to the place once the link leads to the node or beyond
pub walk_ends : (bucket next head : ℕ → ℕ) (n out b i at link : ℕ) → IsWalked bucket next head n out b i at link
    → link ≤ i + 1
    → IsPlace bucket next head n out b i at link
walk_ends bucket next head n out b i at link walked passes = record {
  within = walked.within;
  after = walked.after;
  member = walked.member;
  linked = walked.linked;
  first = walked.first;
  later = walked.later;
  beyond = passes;
}
