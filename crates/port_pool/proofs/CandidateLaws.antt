-- Which numbers are candidates, and which one is chosen.
use Rattle.std.proofs.Common.{◌≡◌, ◌↔◌, ℕ, ◌+◌, ◌-◌, ◌%◌, ◌<◌, ◌≤◌, max, Bool, true, false, ◌&&◌, not, List}
use Rattle.std.proofs.Common.{[], ◌∷◌, Option, Some, None, refl, sym, ap, subst, ◌∙◌, ⊎_elim, arith, ◌⊎◌, inl}
use Rattle.std.proofs.Common.{inr}
use Rattle.std.specs.Prelude.{◌==◌, nat_le, nat_lt}
use Rattle.std.specs.List.{All, Contains, filter, find}
use Rattle.std.specs.Option.{IfSome, option_or}
use Rattle.std.proofs.lemmas.Option.{IfSome_then}
use Rattle.std.proofs.lemmas.Bool.{cases_Bool, eq-eqb, le-leb, lt-leb, and_from, and_right, and_left}
use Rattle.std.proofs.lemmas.Bool.{not-true, and_parts, lt-ltb, cases_lt}
use Rattle.std.proofs.lemmas.List.Elements.{All-nil, All-cons, All-head, All-tail, All-contains}
use Rattle.std.proofs.lemmas.List.Elements.{All-contains_itself, All-filter, All-weaker}
use Rattle.std.proofs.lemmas.List.Elements.{filter_passes as all_pass, Contains-append_cases}
use Rattle.std.proofs.lemmas.List.Elements.{Contains-append_left, Contains-append_right}
use Rattle.std.proofs.lemmas.List.FromFn.{length-range_with_len, get_or-range_with_len}
use Rattle.list_laws.specs.Lists.{find-filter}
use Rattle.port_pool.specs.declared.order.Order.{Order}
use Rattle.port_pool.specs.declared.order.Order.TheVariants.{Ports, Identifiers, Zero}
use Rattle.port_pool.specs.declared.range.CandidateRange.{CandidateRange}
use Rattle.port_pool.specs.Candidates.{numbers, ports_of, class_of, same_parity, same_class_and_parity}
use Rattle.port_pool.specs.Candidates.{or_these, preferred, starting_at, candidates}
use Rattle.std.proofs.lemmas.Bool.{cases_eq}
use Rattle.list_laws.specs.Filters.{has_filter}
use Rattle.port_pool.proofs.Spans.{find-numbers, or_these-left, starting_at-find, numbers_has}
use Rattle.port_pool.proofs.Spans.{or_these-first}

-- ==== Properties of a choice.

-- the number found passes
found_passes : (p : ℕ → Bool) (xs : List ℕ) → IfSome (find p xs) (λ x. p x ≡ true)
found_passes p [] = tt
found_passes p (x ∷ xs) = grind (arith, cases_Bool, (found_passes p xs))

pub found_free : (taken : ℕ → Bool) (xs : List ℕ) (r : Option ℕ) → r ≡ find (λ p. not (taken p)) xs → IfSome r (λ p. taken p ≡ false)
found_free taken xs r e =
    let passes : IfSome r (λ x. not (taken x) ≡ true) =
    subst (λ o. IfSome o (λ x. not (taken x) ≡ true)) (sym e) (found_passes (λ p. not (taken p)) xs) in
    IfSome_then r passes (λ x. not-true (taken x))

-- none is found exactly where none passes
nothing_found : (taken : ℕ → Bool) (xs : List ℕ) → find (λ p. not (taken p)) xs ≡ None → All (λ p. taken p ≡ true) xs
nothing_found taken [] e = All-nil (λ p. taken p ≡ true)
nothing_found taken (x ∷ xs) e = grind (arith, cases_Bool, All-cons, (nothing_found taken xs))

pub all_taken : (taken : ℕ → Bool) (xs : List ℕ) → All (λ p. taken p ≡ true) xs → find (λ p. not (taken p)) xs ≡ None
all_taken taken [] all = refl
all_taken taken (x ∷ xs) all =
    rw (All-head (λ p. taken p ≡ true) x xs all) (all_taken taken xs (All-tail (λ p. taken p ≡ true) x xs all))

pub none_free : (taken : ℕ → Bool) (xs : List ℕ) (r : Option ℕ) → r ≡ find (λ p. not (taken p)) xs
    → (r ≡ None) ↔ All (λ p. taken p ≡ true) xs
none_free taken xs r e = (λ none. nothing_found taken xs (sym e ∙ none), λ all. e ∙ all_taken taken xs all)

-- the numbers of an interval
within : (low high s : ℕ) → Contains (numbers low high) s → (low ≤ s) × (s ≤ high)
unfolding numbers
within low high s has =
    let long = length-range_with_len low (high + 1 - low) in
    let less : has.0 < high + 1 - low = omega (arith, long, has.1) in
    let here = get_or-range_with_len low (high + 1 - low) has.0 s less in
    (omega (arith, here, has.2), omega (arith, here, has.2))

-- a number of the interval that passes comes first
first_itself : (p : ℕ → Bool) (s low high : ℕ) → Contains (numbers low high) s → p s ≡ true
    → find p (starting_at s (preferred s (numbers low high))) ≡ Some s
first_itself p s low high has passes =
    let ends = within low high s has in
    let same : same_class_and_parity s s ≡ true =
    and_from (class_of s == class_of s) (same_parity s s) (eq-eqb (class_of s) (class_of s) refl)
    (eq-eqb (s % 2) (s % 2) refl) in
    let here : (same_class_and_parity s s && (nat_le s s && p s)) ≡ true =
    and_from (same_class_and_parity s s) (nat_le s s && p s) same
    (and_from (nat_le s s) (p s) (le-leb s s (omega arith)) passes) in
    let up = find-filter (λ k. nat_le s k && p k) (same_class_and_parity s) (numbers low high)
    ∙ find-numbers (λ k. same_class_and_parity s k && (nat_le s k && p k)) low high (Some s) record {
      above = ends.0;
      below = omega (arith, ends.1);
      passes = here;
      before = λ k after less. and_right (same_class_and_parity s k) (nat_le s k && p k) (and_left (nat_le s k) (p k) (lt-leb s k less));
    } in
    ap (λ l. find p (starting_at s l)) (or_these-left (same_class_and_parity s)
    (or_these (filter (same_parity s) (numbers low high)) (numbers low high)) low high s ends.0 ends.1 same)
    ∙ starting_at-find s p (filter (same_class_and_parity s) (numbers low high))
    ∙ ap (λ o. option_or o (find (λ k. nat_lt k s && p k) (filter (same_class_and_parity s) (numbers low high)))) up

-- a free port of the range is kept
pub port_itself : (p : ℕ → Bool) (order : Order) (s : ℕ) (range : Option CandidateRange) → order ≡ Ports
    → Contains (ports_of range) s → p s ≡ true → find p (candidates order s range) ≡ Some s
unfolding candidates
port_itself p Ports s None is has passes = first_itself p s 1 65535 has passes
port_itself p Ports s (Some r) is has passes = first_itself p s (max 1 r.low) r.high has passes
port_itself p Identifiers s range is has passes = cc
port_itself p Zero s range is has passes = cc

-- a free identifier is kept
pub identifier_itself : (p : ℕ → Bool) (order : Order) (s : ℕ) (range : Option CandidateRange) → order ≡ Identifiers
    → s ≤ 65535 → p s ≡ true → find p (candidates order s range) ≡ Some s
unfolding candidates
identifier_itself p Ports s range is small passes = cc
identifier_itself p Identifiers s range is small passes =
    starting_at-find s p (numbers 0 65535)
    ∙ ap (λ o. option_or o (find (λ k. nat_lt k s && p k) (numbers 0 65535)))
    (find-numbers (λ k. nat_le s k && p k) 0 65535 (Some s) record {
      above = omega arith;
      below = omega arith;
      passes = and_from (nat_le s s) (p s) (le-leb s s (omega arith)) passes;
      before = λ k after less. and_left (nat_le s k) (p k) (lt-leb s k less);
    })
identifier_itself p Zero s range is small passes = cc

-- a protocol without ports has 0 alone
pub zero_alone : (p : ℕ → Bool) (order : Order) (s : ℕ) (range : Option CandidateRange) (r : Option ℕ)
    → r ≡ find p (candidates order s range) → IfSome r (λ k. order ≡ Zero → k ≡ 0)
unfolding candidates
zero_alone p order s range None e = tt
zero_alone p Ports s range (Some k) e = λ is. cc
zero_alone p Identifiers s range (Some k) e = λ is. cc
zero_alone p Zero s range (Some k) e = λ _. grind (arith, e)

-- ==== Which ports are candidates.

-- ---- elements of lists

-- what a filter keeps passes, and is in the list
filter_passes : (p : ℕ → Bool) (xs : List ℕ) (x : ℕ) → Contains (filter p xs) x → (p x ≡ true) × Contains xs x
filter_passes p xs x among = (
  All-contains (λ (y : ℕ). p y ≡ true) (filter p xs) x (all_pass p xs) among,
  All-contains (Contains xs) (filter p xs) x (All-filter p (Contains xs) xs (All-contains_itself xs)) among,
)

or_these-cases : (xs ys : List ℕ) (x : ℕ) → Contains (or_these xs ys) x → Contains xs x ⊎ Contains ys x
or_these-cases [] ys x among = inr among
or_these-cases (d ∷ xs) ys x among = inl among

-- the order doesn't change the elements
starting_at-has : (s : ℕ) (xs : List ℕ) (x : ℕ) → Contains (starting_at s xs) x → Contains xs x
starting_at-has s xs x among =
    ⊎_elim
    (λ (above : Contains (filter (λ p. nat_le s p) xs) x). (filter_passes (λ p. nat_le s p) xs x above).1)
    (λ (below : Contains (filter (λ p. nat_lt p s) xs) x). (filter_passes (λ p. nat_lt p s) xs x below).1)
    (Contains-append_cases (filter (λ p. nat_le s p) xs) (filter (λ p. nat_lt p s) xs) x among)

has-starting_at : (s : ℕ) (xs : List ℕ) (x : ℕ) → Contains xs x → Contains (starting_at s xs) x
has-starting_at s xs x among =
    ⊎_elim
    (λ (less : x < s). Contains-append_right (filter (λ p. nat_le s p) xs) (filter (λ p. nat_lt p s) xs) x
    (has_filter (λ p. nat_lt p s) xs x among (lt-ltb x s less)))
    (λ (more : s ≤ x). Contains-append_left (filter (λ p. nat_le s p) xs) (filter (λ p. nat_lt p s) xs) x
    (has_filter (λ p. nat_le s p) xs x among (le-leb s x more)))
    (cases_lt x s)

-- ---- preferred ports

module _ (s : ℕ) (ps : List ℕ) where
  preferred_within : (p : ℕ) → Contains (preferred s ps) p → Contains ps p
  preferred_within p among =
      ⊎_elim
      (λ (one : Contains (filter (same_class_and_parity s) ps) p). (filter_passes (same_class_and_parity s) ps p one).1)
      (λ (rest : Contains (or_these (filter (same_parity s) ps) ps) p). ⊎_elim
      (λ (one : Contains (filter (same_parity s) ps) p). (filter_passes (same_parity s) ps p one).1)
      (λ (any : Contains ps p). any)
      (or_these-cases (filter (same_parity s) ps) ps p rest))
      (or_these-cases (filter (same_class_and_parity s) ps) (or_these (filter (same_parity s) ps) ps) p among)

  module _ (w : ℕ) (there : Contains ps w) where
    preferred_first : same_class_and_parity s w ≡ true → preferred s ps ≡ filter (same_class_and_parity s) ps
    preferred_first is = or_these-first (filter (same_class_and_parity s) ps)
        (or_these (filter (same_parity s) ps) ps) w (has_filter (same_class_and_parity s) ps w there is)

    preferred_same : same_class_and_parity s w ≡ true → (p : ℕ) → Contains (preferred s ps) p → same_class_and_parity s p ≡ true
    preferred_same is p among = (filter_passes (same_class_and_parity s) ps p
        (subst (λ (l : List ℕ). Contains l p) (preferred_first is) among)).0

    preferred_has : same_class_and_parity s w ≡ true → Contains (preferred s ps) w
    preferred_has is = subst (λ (l : List ℕ). Contains l w) (sym (preferred_first is)) (has_filter (same_class_and_parity s) ps w there is)

    preferred_parity : same_parity s w ≡ true → (p : ℕ) → Contains (preferred s ps) p → same_parity s p ≡ true
    preferred_parity is p among =
        ⊎_elim
        (λ (one : Contains (filter (same_class_and_parity s) ps) p).
        (and_parts (class_of p == class_of s) (same_parity s p)
        (filter_passes (same_class_and_parity s) ps p one).0).1)
        (λ (rest : Contains (or_these (filter (same_parity s) ps) ps) p).
        (filter_passes (same_parity s) ps p (subst (λ (l : List ℕ). Contains l p)
        (or_these-first (filter (same_parity s) ps) ps w (has_filter (same_parity s) ps w there is)) rest)).0)
        (or_these-cases (filter (same_class_and_parity s) ps) (or_these (filter (same_parity s) ps) ps) p among)

-- ---- candidates

pub candidates_within : (s : ℕ) (range : Option CandidateRange) (p : ℕ) → Contains (candidates Ports s range) p
    → Contains (ports_of range) p
unfolding candidates
candidates_within s range p among = preferred_within s (ports_of range) p (starting_at-has s (preferred s (ports_of range)) p among)

pub candidates_all : (s : ℕ) (range : Option CandidateRange) (p : ℕ) → Contains (ports_of range) p
    → same_class_and_parity s p ≡ true → Contains (candidates Ports s range) p
unfolding candidates
candidates_all s range p there is = has-starting_at s (preferred s (ports_of range)) p (preferred_has s (ports_of range) p there is)

pub candidates_alone : (s : ℕ) (range : Option CandidateRange) (p other : ℕ) → Contains (ports_of range) other
    → same_class_and_parity s other ≡ true → Contains (candidates Ports s range) p → same_class_and_parity s p ≡ true
unfolding candidates
candidates_alone s range p other there is among =
    preferred_same s (ports_of range) other there is p (starting_at-has s (preferred s (ports_of range)) p among)

pub candidates_parity : (s : ℕ) (range : Option CandidateRange) (p other : ℕ) → Contains (ports_of range) other
    → same_parity s other ≡ true → Contains (candidates Ports s range) p → same_parity s p ≡ true
unfolding candidates
candidates_parity s range p other there is among =
    preferred_parity s (ports_of range) other there is p (starting_at-has s (preferred s (ports_of range)) p among)

-- each class and parity has a port
module _ (s : ℕ) where
  abbrev Stands : Type 0
  Stands = (w : ℕ) × Contains (numbers 1 65535) w × (same_class_and_parity s w ≡ true)

  stands : Stands
  stands = by_class (cases_Bool (nat_lt s 1024)) parity
    where
      parity : (s % 2 ≡ 0) ⊎ (s % 2 ≡ 1)
      parity = elim (cases_eq (s % 2) 0) [ inl e ↦ inl e | inr other ↦ inr (omega arith) ]

      by_class : (nat_lt s 1024 ≡ true) ⊎ (nat_lt s 1024 ≡ false) → (s % 2 ≡ 0) ⊎ (s % 2 ≡ 1) → Stands
      by_class (inl c) (inl p) = (2, numbers_has 1 65535 2 (omega arith) (omega arith), rw (c, p) refl)
      by_class (inl c) (inr p) = (1, numbers_has 1 65535 1 (omega arith) (omega arith), rw (c, p) refl)
      by_class (inr c) (inl p) = (1024, numbers_has 1 65535 1024 (omega arith) (omega arith), rw (c, p) refl)
      by_class (inr c) (inr p) = (1025, numbers_has 1 65535 1025 (omega arith) (omega arith), rw (c, p) refl)

  pub candidates_alike : (p : ℕ) → Contains (candidates Ports s None) p → same_class_and_parity s p ≡ true
  candidates_alike p among = candidates_alone s None p stands.0 stands.1 stands.2 among

pub all_alike_taken : (s : ℕ) (taken : ℕ → Bool) → ((p : ℕ) → same_class_and_parity s p ≡ true → taken p ≡ true)
    → find (λ p. not (taken p)) (candidates Ports s None) ≡ None
all_alike_taken s taken all = all_taken taken (candidates Ports s None)
    (All-weaker (Contains (candidates Ports s None)) (λ p. taken p ≡ true) (λ p among. all p (candidates_alike s p among))
    (candidates Ports s None) (All-contains_itself (candidates Ports s None)))
