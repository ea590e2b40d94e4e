-- Parts that are read one after the other, with their ranges, are those that are spelled.
use Rattle.std.proofs.Common.{◌≡◌, ℕ, zero, suc, ◌-◌, ◌≤◌, List, [], ◌∷◌, length, drop, Option, Some, None, ◌⊎◌, inl, inr, refl, sym, ap, ◌∙◌, arith}
use Rattle.std.proofs.lemmas.List.{length-map, length-drop}
use Rattle.std.proofs.lemmas.Option.{same_Some}
use Rattle.std.specs.Prelude.{IfSome}
use Rattle.list_laws.specs.Options.{IfSome_at, ◌>>=◌, option_cases}
use Rattle.nft_lexer.specs.declared.token.Token.{Token}
use Rattle.nft_lexer.specs.Terminal.{Terminal}
use Rattle.nft_lexer.specs.TokenViews.{terminal_of}
use Rattle.token_reader.specs.Grammar.{Grammar}
use Rattle.token_reader.specs.Readers.{remaining}
use Rattle.token_reader.specs.steps.Laws.{Finds, many_at-none, many_at-some}
use Rattle.token_reader.specs.steps.Reading.{after_at, many_at, with_front}
use Rattle.node_spans.specs.Spans.{AreSpelled, FollowsBy}
use Rattle.node_spans.specs.declared.token_range.TokenRange.{TokenRange}
use Rattle.node_spans.specs.steps.Reading.{AreRead, IsReadAt}

pub length_ahead : (tokens : List Token) (at : ℕ) → length (remaining tokens at) ≡ length tokens - at
length_ahead tokens at = length-map (drop at tokens) (λ (t : Token). terminal_of t.kind t.text.now)
    ∙ length-drop at tokens

-- A gap, and the part after it.
abbrev pub next_at : {A : Type 0} → (List Terminal → Option (A × List Terminal))
    → (List Terminal → Option (List Terminal)) → List Terminal → Option (A × List Terminal)
next_at read gap = after_at (λ ts. gap ts >>= λ a. Some (tt {0}, a)) read

-- A position from which on no fewer tokens are left than these is not behind `to`.
abbrev pub Bounds : (ℕ → List Terminal) → ℕ → ℕ → List Terminal → Type 0
Bounds rest limit to last = (at : ℕ) → at ≤ limit → length last ≤ length (rest at) → at ≤ to

pub bounds_tokens : (tokens : List Token) (to : ℕ) (last : List Terminal)
    → length (remaining tokens to) ≤ length last → Bounds (remaining tokens) (length tokens) to last
bounds_tokens tokens to last behind at within before =
    omega (arith, length_ahead tokens at, length_ahead tokens to, behind)

module _ {A : Type 0} (p : Grammar A) (gap : List Terminal → Option (List Terminal))
    (Between : List Terminal → List Terminal → Type 0) (rest : ℕ → List Terminal) (limit to : ℕ) where
  -- What is read behind a part that ends at `at`.
  abbrev Continues : ℕ → List TokenRange → Type 0
  Continues at rs = ((gap (rest at) ≡ None) × (rs ≡ []))
      ⊎ ((next : ℕ) × (gap (rest at) ≡ Some (rest next)) × (at ≤ next)
      × (length (rest next) ≤ length (rest at)) × AreRead p.read gap rest limit next rs)

  abbrev Others : ℕ → List A → List TokenRange → List Terminal → Type 0
  Others at xs rs last = (length last ≤ length (rest at)) × FollowsBy Between rest at rs
      × AreSpelled p Between rest at to xs rs

  no_more : (n at : ℕ) (rs : List TokenRange) (xs : List A) (last : List Terminal)
      → next_at p.read gap (rest at) ≡ None → rs ≡ []
      → many_at (next_at p.read gap) n (rest at) ≡ (xs, last) → Others at xs rs last
  no_more n at rs xs last none nothing e =
      let same = sym e ∙ many_at-none (next_at p.read gap) n (rest at) none in
      let no_part : xs ≡ [] = ap (λ (x : List A × List Terminal). x.0) same in
      let here : last ≡ rest at = ap (λ (x : List A × List Terminal). x.1) same in
      rw (nothing, no_part) (omega (arith, ap length here), tt, tt)

  -- The part at a range, and the others.
  one_spelled : Finds p.spells p.read → (at : ℕ) (r : TokenRange) (rs : List TokenRange)
      (xs : List A) (last : List Terminal) → Bounds rest limit to last → (is : IsReadAt p.read rest limit at r)
      → Others r.end xs rs last → AreSpelled p Between rest at to (is.part ∷ xs) (r ∷ rs)
  one_spelled found at r rs xs last bounds is others = (
    is.ahead,
    is.some,
    bounds r.end is.within others.0,
    rw is.same (IfSome_at (p.read (rest at)) (λ y. p.spells y.0 (rest at) y.1) (is.part, rest r.end) is.found
        (found (rest at))),
    others.1,
    others.2,
  )

  earlier : (from at : ℕ) (xs : List A) (rs : List TokenRange) → from ≤ at
      → AreSpelled p Between rest at to xs rs → AreSpelled p Between rest from to xs rs
  earlier from at [] [] ahead s = tt
  earlier from at [] (r ∷ rs) ahead s = absurd s
  earlier from at (x ∷ xs) [] ahead s = absurd s
  earlier from at (x ∷ xs) (r ∷ rs) ahead s =
      (omega (arith, ahead, s.0), s.1, s.2, s.3, s.4, s.5)

  more_spelled : Finds p.spells p.read → ((ts : List Terminal) → IfSome (gap ts) (Between ts))
      → (n at : ℕ) (rs : List TokenRange) (xs : List A) (last : List Terminal) → Bounds rest limit to last
      → Continues at rs → length (rest at) ≤ n → many_at (next_at p.read gap) n (rest at) ≡ (xs, last)
      → Others at xs rs last
  more_spelled found between n at rs xs last bounds (inl (none, nothing)) le e =
      no_more n at rs xs last (rw none refl) nothing e
  more_spelled found between n at [] xs last bounds (inr (next, g, after, fewer, none)) le e =
      no_more n at [] xs last (rw (g, none) refl) refl e
  more_spelled found between zero at (r ∷ rs) xs last bounds (inr (next, g, after, fewer, (is, others))) le e =
      absurd (omega (arith, fewer, is.shorter))
  more_spelled found between (suc n) at (r ∷ rs) xs last bounds (inr (next, g, after, fewer, (is, others))) le e =
      let read : next_at p.read gap (rest at) ≡ Some (is.part, rest r.end) = rw (g, is.found) refl in
      let tail = many_at (next_at p.read gap) n (rest r.end) in
      let same : (xs, last) ≡ with_front (is.part ∷ []) tail =
      sym e ∙ many_at-some (next_at p.read gap) n (rest at) (is.part, rest r.end) read in
      let parts : xs ≡ is.part ∷ tail.0 = ap (λ (x : List A × List Terminal). x.0) same in
      let end : last ≡ tail.1 = ap (λ (x : List A × List Terminal). x.1) same in
      let more = more_spelled found between n r.end rs tail.0 tail.1 (rw end at bounds) others
      (omega (arith, fewer, is.shorter)) refl in
      let between_them : Between (rest at) (rest r.first) =
      rw is.same (IfSome_at (gap (rest at)) (Between (rest at)) (rest next) g (between (rest at))) in
      let spelled = earlier at next (is.part ∷ tail.0) (r ∷ rs) after
      (one_spelled found next r rs tail.0 tail.1 (rw end at bounds) is more) in
      rw parts (omega (arith, fewer, is.shorter, more.0, ap length end), between_them, spelled)

  -- x {gap x}
  pub list_spelled : Finds p.spells p.read → ((ts : List Terminal) → IfSome (gap ts) (Between ts))
      → (from at n : ℕ) (rs : List TokenRange) (x : A × List Terminal) (xs : List A) (last : List Terminal)
      → from ≤ at → Bounds rest limit to last → AreRead p.read gap rest limit at rs
      → p.read (rest at) ≡ Some x → length x.1 ≤ n → many_at (next_at p.read gap) n x.1 ≡ (xs, last)
      → AreSpelled p Between rest from to (x.0 ∷ xs) rs
  list_spelled found between from at n [] x xs last ahead bounds none some le e = absurd (cc (none, some))
  list_spelled found between from at n (r ∷ rs) x xs last ahead bounds (is, others) some le e =
      let same = same_Some _ _ (sym some ∙ is.found) in
      let part : x.0 ≡ is.part = ap (λ (y : A × List Terminal). y.0) same in
      let behind : x.1 ≡ rest r.end = ap (λ (y : A × List Terminal). y.1) same in
      let more = more_spelled found between n r.end rs xs last bounds others (rw behind at le) (rw behind at e) in
      rw part (earlier from at (is.part ∷ xs) (r ∷ rs) ahead (one_spelled found at r rs xs last bounds is more))

  -- Where no part is, there is no range.
  pub none_spelled : (from at : ℕ) (rs : List TokenRange) → p.read (rest at) ≡ None
      → AreRead p.read gap rest limit at rs → AreSpelled p Between rest from to [] rs
  none_spelled from at [] none read = tt
  none_spelled from at (r ∷ rs) none (is, others) = absurd (cc (none, is.found))

-- Parts, each with what follows it, are a part and then what precedes each of the others.
shifted : {A : Type 0} (read : List Terminal → Option (A × List Terminal)) (skip : List Terminal → List Terminal)
    (n : ℕ) (ts : List Terminal)
    → ((many_at (λ us. read us >>= λ x. Some (x.0, skip x.1)) n (skip ts)).0
    ≡ (many_at (next_at read (λ us. Some (skip us))) n ts).0)
    × ((many_at (λ us. read us >>= λ x. Some (x.0, skip x.1)) n (skip ts)).1
    ≡ skip (many_at (next_at read (λ us. Some (skip us))) n ts).1)
unfolding many_at
shifted read skip zero ts = (refl, refl)
shifted read skip (suc n) ts = elim (option_cases (read (skip ts))) [
  | inl none ↦ rw none (refl, refl)
  | inr x ↦ rw x.1 (let others = shifted read skip n x.0.1 in (ap (λ xs. x.0.0 ∷ xs) others.0, others.1))
]

-- {x gap}, where the gap may be empty
module _ {A : Type 0} (p : Grammar A) (skip : List Terminal → List Terminal)
    (Between : List Terminal → List Terminal → Type 0) (tokens : List Token) (to : ℕ)
    (found : Finds p.spells p.read) (between : (ts : List Terminal) → Between ts (skip ts))
    (shortens : (ts : List Terminal) → length (skip ts) ≤ length ts) where
  abbrev each_at : List Terminal → Option (A × List Terminal)
  each_at = λ ts. p.read ts >>= λ x. Some (x.0, skip x.1)

  pub repeated_spelled : (from at n : ℕ) (rs : List TokenRange) (xs : List A) (last : List Terminal) → from ≤ at
      → AreRead p.read (λ ts. Some (skip ts)) (remaining tokens) (length tokens) at rs
      → length (remaining tokens at) ≤ n → many_at each_at n (remaining tokens at) ≡ (xs, last)
      → length (remaining tokens to) ≤ length last → AreSpelled p Between (remaining tokens) from to xs rs
  repeated_spelled from at n [] xs last ahead none le e before =
      let same = sym e ∙ many_at-none each_at n (remaining tokens at) (rw none refl) in
      let no_part : xs ≡ [] = ap (λ (x : List A × List Terminal). x.0) same in
      rw no_part tt
  repeated_spelled from at zero (r ∷ rs) xs last ahead (is, others) le e before =
      absurd (omega (arith, is.shorter))
  repeated_spelled from at (suc n) (r ∷ rs) xs last ahead (is, others) le e before =
      let read : each_at (remaining tokens at) ≡ Some (is.part, skip (remaining tokens r.end)) =
      rw is.found refl in
      let same = sym e ∙ many_at-some each_at n (remaining tokens at) _ read in
      let tail = many_at (next_at p.read (λ us. Some (skip us))) n (remaining tokens r.end) in
      let moved = shifted p.read skip n (remaining tokens r.end) in
      let parts : xs ≡ is.part ∷ tail.0 =
      ap (λ (x : List A × List Terminal). x.0) same ∙ ap (λ ys. is.part ∷ ys) moved.0 in
      let end : last ≡ skip tail.1 = ap (λ (x : List A × List Terminal). x.1) same ∙ moved.1 in
      let behind : length (remaining tokens to) ≤ length tail.1 =
      omega (arith, before, ap length end, shortens tail.1) in
      rw parts (list_spelled p (λ ts. Some (skip ts)) Between (remaining tokens) (length tokens) to found between
      from at n (r ∷ rs) (is.part, remaining tokens r.end) tail.0 tail.1 ahead
      (bounds_tokens tokens to tail.1 behind) (is, others) is.found (omega (arith, is.shorter)) refl)
