-- The elements of sets and maps: the first field that begins as the elements do is the elements.
use Rattle.std.proofs.Common.{◌≡◌, ℕ, ◌<◌, ◌≤◌, List, [], ◌∷◌, length, Option, Some, None, ◌⊎◌, inl, inr, refl, sym, ap, ◌∙◌, arith}
use Rattle.std.proofs.lemmas.Bool.{cases_Bool}
use Rattle.std.proofs.lemmas.Option.{same_Some}
use Rattle.std.specs.Option.{unwrap_or}
use Rattle.std.specs.Prelude.{false, ◌==◌, IsSomeAnd}
use Rattle.list_laws.specs.Options.{IfSome_at, option_cases}
use Rattle.nft_lexer.specs.declared.token.Punctuator.TheVariants.{OpenBrace, CloseBrace, Comma}
use Rattle.nft_lexer.specs.declared.token.Token.{Token}
use Rattle.nft_lexer.specs.Terminal.{Terminal, punctuator}
use Rattle.nft_tree.specs.Tree.{Text}
use Rattle.token_reader.specs.Grammar.{Grammar, keyword, lines, ◌▹◌}
use Rattle.token_reader.specs.Readers.{remaining}
use Rattle.token_reader.specs.Repeats.{SomeEnds}
use Rattle.token_reader.specs.steps.Laws.{Finds}
use Rattle.token_reader.specs.steps.Lawful.{Lawful}
use Rattle.token_reader.specs.steps.Reading.{after_at, after_ends, after_punctuator, after_word, all_at, punctuation_at, skip_ends, some_ends_at, word_at}
use Rattle.token_reader.specs.steps.TokenLaws.{punctuator_after, some_ends_found}
use Rattle.nft_expressions.specs.Elements.{up_to_brace}
use Rattle.nft_expressions.specs.steps.Reading.{after_last_comma, comma_separated_at, enclosed_at, up_to_brace_at}
use Rattle.nft_rulesets.specs.Sets.{Field, FieldValues, any_field, auto_merge, block, collect_fields, comment, elements, flags, key, other_field, set_flags, size, with_field, with_fields}
use Rattle.nft_rulesets.specs.steps.Starts.{block_start, elements_start}
use Rattle.node_spans.specs.Spans.{AreInBraces, AreSpelled, IsComma, within_braces}
use Rattle.node_spans.specs.declared.token_range.TokenRange.{TokenRange}
use Rattle.node_spans.specs.steps.Reading.{AreElementsRead, AreRead, AreReadInBraces, first_elements}
use Rattle.node_spans.proofs.Levels.{skips}
use Rattle.node_spans.proofs.Lists.{bounds_tokens, length_ahead, list_spelled}

-- ---- fields

abbrev IsOther : {K E : Type 0} → Field K E → Type 0
IsOther (elements es) = ⊥
IsOther f = Unit {0}

-- A field that is added to the values changes no elements, or is the first elements.
one_field : {K E : Type 0} (f : Field K E) (all more : FieldValues K E) → with_field f all ≡ Some more
    → (IsOther f × (more.5 ≡ all.5)) ⊎ ((es : E) × (f ≡ elements es) × (all.5 ≡ None) × (more.5 ≡ Some es))
one_field (key k) (None, fs, n, merge, text, es) more e = inl (tt, cc)
one_field (flags fs) (k, None, n, merge, text, es) more e = inl (tt, cc)
one_field (size n) (k, fs, None, merge, text, es) more e = inl (tt, cc)
one_field auto_merge (k, fs, n, false, text, es) more e = inl (tt, cc)
one_field (comment text) (k, fs, n, merge, None, es) more e = inl (tt, cc)
one_field (elements es) (k, fs, n, merge, text, None) more e = inr (es, refl, refl, cc)
one_field f all more e = absurd cc

-- The elements stay when more fields are added.
elements_stay : {K E : Type 0} (fs : List (Field K E)) (all values : FieldValues K E) (es : E)
    → with_fields fs all ≡ Some values → all.5 ≡ Some es → values.5 ≡ Some es
elements_stay [] all values es e has = ap (λ v. v.5) (sym (same_Some _ _ e)) ∙ has
elements_stay (f ∷ fs) all values es e has =
    elim (option_cases (with_field f all)) [
      | inl none ↦ absurd (cc (rw none at e))
      | inr more ↦
          elim (one_field f all more.0 more.1) [
            | inl other ↦ elements_stay fs more.0 values es (rw more.1 at e) (other.1 ∙ has)
            | inr is ↦ absurd (cc (is.2, has))
          ]
    ]

-- A field begins as the elements do just where it is the elements.
abbrev FieldCases : {K E : Type 0} → Grammar E → Field K E → List Terminal → List Terminal → Type 0
FieldCases {K} {E} e f from to =
    ((elements_start.read from ≡ None) × IsOther f)
    ⊎ ((es : E) × (behind brace : List Terminal) × (f ≡ elements es)
    × (elements_start.read from ≡ Some (tt, behind)) × e.spells es behind brace
    × (brace ≡ punctuator CloseBrace ∷ to) × (length behind < length from))

field_cases : {K E : Type 0} (k : Grammar K) (e : Grammar E)
    → ((x : K) (from to : List Terminal) → k.spells x from to → elements_start.read from ≡ None)
    → (f : Field K E) (from to : List Terminal) → (any_field k e).spells f from to → FieldCases e f from to
unfolding any_field other_field set_flags elements_start
field_cases k e none f from to (inl (x, is, s)) = inl (none x from to s, rw is tt)
field_cases k e none f from to (inr (inl (x, is, (mid, word, s)))) = inl (rw word refl, rw is tt)
field_cases k e none f from to (inr (inr (inl (x, is, (mid, word, s))))) = inl (rw word refl, rw is tt)
field_cases k e none f from to (inr (inr (inr (inl (x, is, word))))) = inl (rw word refl, rw is tt)
field_cases k e none f from to (inr (inr (inr (inr (inl (x, is, (mid, word, s))))))) =
    inl (rw word refl, rw is tt)
field_cases k e none f from to
    (inr (inr (inr (inr (inr (es, is, (a, word, (b, equals, (c, brace, (d, s, close)))))))))) =
    inr (
      es,
      c,
      d,
      is,
      rw (word, equals, brace) refl,
      s,
      close,
      omega (arith, ap length word, ap length equals, ap length brace),
    )

module _ {K E : Type 0} (k : Grammar K) (e : Grammar E)
    (none : (x : K) (from to : List Terminal) → k.spells x from to → elements_start.read from ≡ None)
    (rest : ℕ → List Terminal) (to : ℕ) where
  -- The elements among the fields, and where they begin.
  abbrev Kept : ℕ → List TokenRange → FieldValues K E → Type 0
  Kept from rs values =
      ((first_elements rest rs ≡ None) × (values.5 ≡ None))
      ⊎ ((es : E) × (behind brace : List Terminal) × (begin end : ℕ) × (first_elements rest rs ≡ Some behind)
      × (values.5 ≡ Some es) × e.spells es behind brace × (brace ≡ punctuator CloseBrace ∷ rest end) × (end ≤ to)
      × (from ≤ begin) × (length behind < length (rest begin)))

  kept_before : (from at : ℕ) (rs : List TokenRange) (values : FieldValues K E) → from ≤ at → Kept at rs values
      → Kept from rs values
  kept_before from at rs values le (inl nothing) = inl nothing
  kept_before from at rs values le (inr it) =
      inr (it.0, it.1, it.2, it.3, it.4, it.5, it.6, it.7, it.8, it.9, omega (arith, le, it.10), it.11)

  kept : (from : ℕ) (fs : List (Field K E)) (rs : List TokenRange) (all values : FieldValues K E)
      → AreSpelled (any_field k e) SomeEnds rest from to fs rs → with_fields fs all ≡ Some values
      → all.5 ≡ None → Kept from rs values
  kept from [] [] all values s e before = inl (refl, ap (λ v. v.5) (sym (same_Some _ _ e)) ∙ before)
  kept from [] (r ∷ rs) all values s e before = absurd s
  kept from (f ∷ fs) [] all values s e before = absurd s
  kept from (f ∷ fs) (r ∷ rs) all values s all_of before =
      elim (option_cases (with_field f all)) [
        | inl nothing ↦ absurd (cc (rw nothing at all_of))
        | inr more ↦
            elim (field_cases k e none f (rest r.first) (rest r.end) s.3) [
              | inl other ↦
                  elim (one_field f all more.0 more.1) [
                    | inl same ↦ rw other.0 (kept_before from r.end rs values (omega (arith, s.0, s.1))
                        (kept r.end fs rs more.0 values s.5 (rw more.1 at all_of) (same.1 ∙ before)))
                    | inr is ↦ absurd (rw is.1 at other.1)
                  ]
              | inr it ↦
                  elim (one_field f all more.0 more.1) [
                    | inl same ↦ absurd (rw it.3 at same.0)
                    | inr is ↦
                        let which : is.0 ≡ it.0 = cc (is.1, it.3) in
                        let has = is.3 ∙ ap Some which in
                        inr (
                          it.0,
                          it.1,
                          it.2,
                          r.first,
                          r.end,
                          rw it.4 refl,
                          elements_stay fs more.0 values it.0 (rw more.1 at all_of) has,
                          it.5,
                          it.6,
                          s.2,
                          s.0,
                          it.7,
                        )
                  ]
            ]
      ]

-- ---- blocks

-- The reader of a set or a map reads what stands before the fields, and the fields.
record BlockParts {K E : Type 0} (k : Grammar K) (e : Grammar E) (kind : List ℕ) (ts : List Terminal)
    (values : FieldValues K E) (to : List Terminal) : Type 0 where
  start : Text × List Terminal
  started : (block_start kind).read ts ≡ Some start
  fields : List (Field K E)
  last : List Terminal
  read : (lines (any_field k e)).read start.1 ≡ Some (fields, last)
  collected : collect_fields fields ≡ Some values
  behind : length to ≤ length last

block_parts : {K E : Type 0} (k : Grammar K) (e : Grammar E) (kind : List ℕ) (ts : List Terminal)
    (all : Text × FieldValues K E) (to : List Terminal)
    → (keyword kind ▹ block k e).read ts ≡ Some (all, to) → BlockParts k e kind ts all.1 to
unfolding block block_start
block_parts {K} {E} k e kind ts all to is =
    elim (option_cases (after_word kind ts)) [
      | inl none ↦ absurd (cc (rw none at is))
      | inr a ↦
          elim (option_cases (word_at a.0)) [
            | inl none ↦ absurd (cc (rw (a.1, none) at is))
            | inr name ↦
                elim (option_cases (after_punctuator OpenBrace name.0.1)) [
                  | inl none ↦ absurd (cc (rw (a.1, name.1, none) at is))
                  | inr b ↦
                      elim (option_cases ((lines (any_field k e)).read (skip_ends b.0))) [
                        | inl none ↦ absurd (cc (rw (a.1, name.1, b.1, none) at is))
                        | inr found ↦
                            elim (option_cases (after_punctuator CloseBrace found.0.1)) [
                              | inl none ↦ absurd (cc (rw (a.1, name.1, b.1, found.1, none) at is))
                              | inr close ↦
                                  elim (option_cases (collect_fields found.0.0)) [
                                    | inl none ↦
                                        absurd (cc (rw (a.1, name.1, b.1, found.1, close.1, none) at is))
                                    | inr values ↦
                                        let same =
                                        same_Some _ _ (rw (a.1, name.1, b.1, found.1, close.1, values.1) at is) in
                                        let closed : found.0.1 ≡ punctuator CloseBrace ∷ close.0 =
                                        IfSome_at (after_punctuator CloseBrace found.0.1) _ close.0 close.1
                                        (punctuator_after CloseBrace found.0.1) in
                                        let rest : close.0 ≡ to =
                                        ap (λ (x : (Text × FieldValues K E) × List Terminal). x.1) same in
                                        record {
                                          start = (name.0.0, skip_ends b.0);
                                          started = rw (a.1, name.1, b.1) refl;
                                          fields = found.0.0;
                                          last = found.0.1;
                                          read = found.1;
                                          collected = values.1
                                              ∙ ap (λ (x : (Text × FieldValues K E) × List Terminal). Some x.0.1)
                                              same;
                                          behind = omega (arith, ap length closed, ap length rest);
                                        }
                                  ]
                            ]
                      ]
                ]
          ]
    ]

pub block_started : {K E : Type 0} (k : Grammar K) (e : Grammar E) (kind : List ℕ) (ts : List Terminal)
    (all : Text × FieldValues K E) (to : List Terminal)
    → (keyword kind ▹ block k e).read ts ≡ Some (all, to)
    → (start : Text × List Terminal) × ((block_start kind).read ts ≡ Some start)
block_started k e kind ts all to is =
    let parts = block_parts k e kind ts all to is in (parts.start, parts.started)

-- The fields are spelled at their ranges.
fields_spelled : {A : Type 0} (p : Grammar A) → Lawful p → (tokens : List Token) (at to : ℕ) (xs : List A)
    (last : List Terminal) (rs : List TokenRange) → (lines p).read (remaining tokens at) ≡ Some (xs, last)
    → length (remaining tokens to) ≤ length last
    → AreRead p.read after_ends (remaining tokens) (length tokens) at rs
    → AreSpelled p SomeEnds (remaining tokens) at to xs rs
fields_spelled {A} p l tokens at to xs last rs e behind read =
    elim (option_cases (p.read (remaining tokens at))) [
      | inl none ↦ absurd (cc (rw none at e))
      | inr x ↦
          let same = same_Some _ _ (rw x.1 at e) in
          let tail = all_at (after_at some_ends_at p.read) x.0.1 in
          let all : xs ≡ x.0.0 ∷ tail.0 = sym (ap (λ (y : List A × List Terminal). y.0) same) in
          let end : skip_ends tail.1 ≡ last = ap (λ (y : List A × List Terminal). y.1) same in
          let before : length (remaining tokens to) ≤ length tail.1 =
          omega (arith, skips tail.1, ap length end, behind) in
          rw all (list_spelled p after_ends SomeEnds (remaining tokens) (length tokens) to l.found
          some_ends_found at at (length x.0.1) rs x.0 tail.0 tail.1 (omega arith)
          (bounds_tokens tokens to tail.1 before) read x.1 (omega arith) refl)
    ]

-- ---- lists in braces

-- A list in braces is read between them.
braced_spelled : {A : Type 0} (p : Grammar A) → Finds p.spells p.read → (tokens : List Token) (from at close end : ℕ)
    (es : List A) (brace : List Terminal) (rs : List TokenRange)
    → up_to_brace_at p.read (remaining tokens at) ≡ Some (es, brace)
    → enclosed_at (remaining tokens at) ≡ Some (within_braces tokens close at, remaining tokens close)
    → AreRead p.read (after_punctuator Comma) (within_braces tokens close) close at rs → from ≤ at
    → close < length tokens → brace ≡ punctuator CloseBrace ∷ remaining tokens end → (to : ℕ) → end ≤ to
    → AreInBraces p tokens from to es rs
unfolding up_to_brace_at comma_separated_at
braced_spelled {A} p found tokens from at close end es brace rs e inner read ahead within closed to le =
    let kept = within_braces tokens close at in
    elim (option_cases (p.read kept)) [
      | inl none ↦ absurd (cc (rw (inner, none) at e))
      | inr x ↦
          let tail = all_at (after_at (punctuation_at Comma) p.read) x.0.1 in
          elim (cases_Bool (length (after_last_comma tail.1) == 0)) [
            | inl done ↦
                let same = same_Some _ _ (rw (inner, x.1, done) at e) in
                let all : es ≡ x.0.0 ∷ tail.0 = sym (ap (λ (y : List A × List Terminal). y.0) same) in
                let here : remaining tokens close ≡ punctuator CloseBrace ∷ remaining tokens end =
                ap (λ (y : List A × List Terminal). y.1) same ∙ closed in
                rw all (
                  close,
                  omega (arith, length_ahead tokens close, length_ahead tokens end, ap length here),
                  (remaining tokens end, here),
                  list_spelled p (after_punctuator Comma) IsComma (within_braces tokens close) close close found
                      (punctuator_after Comma) from at (length x.0.1) rs x.0 tail.0 tail.1 ahead (λ q le _. le)
                      read x.1 (omega arith) refl,
                )
            | inr more ↦ absurd (cc (rw (inner, x.1, more) at e))
          ]
    ]

closed_braces : {A : Type 0} (read : List Terminal → Option (A × List Terminal)) (ts : List Terminal)
    (x : List A × List Terminal) → up_to_brace_at read ts ≡ Some x → enclosed_at ts ≡ None → ⊥
unfolding up_to_brace_at
closed_braces read ts x e none = cc (rw none at e)

pub found_in : {A : Type 0} (p : Grammar A) → Lawful (up_to_brace p) → Finds p.spells p.read → (tokens : List Token)
    (first begin end to : ℕ) (es : List A) (brace : List Terminal) (o : Option (List TokenRange))
    → (up_to_brace p).spells es (remaining tokens begin) brace → first ≤ begin
    → brace ≡ punctuator CloseBrace ∷ remaining tokens end → end ≤ to → AreReadInBraces p.read tokens begin o
    → IsSomeAnd o (λ rs. AreInBraces p tokens first to es rs)
found_in p lu found tokens first begin end to es brace None s ahead closed le none =
    absurd (closed_braces p.read (remaining tokens begin) (es, brace)
    (lu.only es (remaining tokens begin) brace s refl) none)
found_in p lu found tokens first begin end to es brace (Some rs) s ahead closed le (close, after, within, inner, parts) =
    braced_spelled p found tokens first begin close end es brace rs
    (lu.only es (remaining tokens begin) brace s refl) inner parts ahead within closed to le

-- What is read of the elements of a set or a map is what they spell.
pub block_spelled : {K A : Type 0} (k : Grammar K) (p : Grammar A)
    → ((x : K) (from to : List Terminal) → k.spells x from to → elements_start.read from ≡ None)
    → Lawful (any_field k (up_to_brace p)) → Lawful (up_to_brace p) → Finds p.spells p.read → (kind : List ℕ)
    (tokens : List Token) (first at to : ℕ) (name : Text) (all : Text × FieldValues K (List A))
    (o : Option (List TokenRange))
    → (keyword kind ▹ block k (up_to_brace p)).read (remaining tokens first) ≡ Some (all, remaining tokens to)
    → (block_start kind).read (remaining tokens first) ≡ Some (name, remaining tokens at) → first ≤ at
    → AreElementsRead (any_field k (up_to_brace p)).read p.read tokens at o
    → IsSomeAnd o (λ rs. AreInBraces p tokens first to (unwrap_or all.1.5 []) rs)
block_spelled {K} {A} k p none lf lu found kind tokens first at to name all o e start ahead (fields, read, one) =
    let parts = block_parts k (up_to_brace p) kind (remaining tokens first) all (remaining tokens to) e in
    let same = same_Some _ _ (sym parts.started ∙ start) in
    let here : parts.start.1 ≡ remaining tokens at = ap (λ (y : Text × List Terminal). y.1) same in
    let spelled = fields_spelled (any_field k (up_to_brace p)) lf tokens at to parts.fields parts.last fields
    (rw here at parts.read) parts.behind read in
    let all_kept = kept k (up_to_brace p) none (remaining tokens) to at parts.fields fields
    (None, None, None, false, None, None) all.1 spelled parts.collected refl in
    elim all_kept [
      | inl nothing ↦
          elim one [
            | inl empty ↦ rw (empty.1, nothing.1) refl
            | inr some ↦ absurd (cc (nothing.0, some.1))
          ]
      | inr it ↦
          elim one [
            | inl empty ↦ absurd (cc (empty.0, it.5))
            | inr some ↦
                let same_start : it.1 ≡ remaining tokens some.0 = same_Some _ _ (sym it.5 ∙ some.1) in
                rw it.6 (found_in p lu found tokens first some.0 it.4 to it.0 it.2 o (rw same_start at it.7)
                (omega (
                  arith,
                  ahead,
                  it.10,
                  it.11,
                  ap length same_start,
                  length_ahead tokens it.3,
                  length_ahead tokens some.0,
                )) it.8 it.9 some.2)
          ]
    ]
