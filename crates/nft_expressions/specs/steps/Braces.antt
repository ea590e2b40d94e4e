-- Lists in braces: no list holds a closing brace, so the first one closes it.
use Rattle.std.proofs.Common.{◌≡◌, ℕ, ◌<◌, ◌==◌, Bool, true, false, if◌then◌else◌, List, [], ◌∷◌, ◌++◌, length}
use Rattle.std.proofs.Common.{Option, Some, None, ◌⊎◌, inl, inr, refl, sym, ap, subst, length-append, append_assoc}
use Rattle.std.proofs.Common.{◌∙◌, arith}
use Rattle.std.proofs.lemmas.Bool.{eqb-true}
use Rattle.std.proofs.lemmas.List.{append-nil, nil_from_length}
use Rattle.std.specs.Prelude.{zero, suc, take, drop, IfSome}
use Rattle.std.proofs.lemmas.Option.{same_Some}
use Rattle.list_laws.specs.Options.{option_cases, IfSome_at, IfSome_weaker, IfSome_cond, IfSome_bind, ◌>>=◌}
use Rattle.nft_lexer.specs.declared.token.Punctuator.TheVariants.{CloseBrace, Comma}
use Rattle.nft_lexer.specs.declared.token.Punctuator.{Punctuator}
use Rattle.nft_lexer.specs.Terminal as terminals
use Rattle.nft_lexer.specs.Terminal.{Terminal, punctuator}
use Rattle.token_reader.specs.Grammar.{Grammar, Lookahead, line, begins_with, keyword, punctuation, a_word, a_number}
use Rattle.token_reader.specs.Grammar.{an_address, a_string, one_of, maybe, many, made, passing, separated, ◌⨾◌, ◌▹◌}
use Rattle.token_reader.specs.Grammar.{◌∣◌}
use Rattle.token_reader.specs.Repeats.{Many, without_newlines}
use Rattle.token_reader.specs.steps.Reading.{after_punctuator}
use Rattle.token_reader.specs.steps.TokenLaws.{punctuator_after}
use Rattle.token_reader.specs.steps.Lawful.{Lawful, are_apart, lawful_punctuation, lawful_after, lawful_separated}
use Rattle.token_reader.specs.steps.Lawful.{separated_only, unread, begins, begins_with_apart}
use Rattle.nft_expressions.specs.Elements.{CommaSeparated, up_to_brace}
use Rattle.nft_expressions.specs.steps.Reading.{inside_at, after_plain, enclosed_at, at_brace, after_last_comma, comma_separated_at, up_to_brace_at}

-- ---- up to the first brace

abbrev pub closes : Terminal → Bool
closes (punctuator CloseBrace) = true
closes t = false

-- No token is a closing brace.
abbrev pub braceless : List Terminal → Bool
braceless [] = true
braceless (t ∷ ts) = if closes t then false else braceless ts

-- The tokens before the first closing brace, without newlines, are `kept`; `to` starts with the brace.
pub record UpTo (kept ts to : List Terminal) : Type 0 where
  pub inner : List Terminal
  pub after : List Terminal
  pub joined : ts ≡ inner ++ to
  pub closed : to ≡ punctuator CloseBrace ∷ after
  pub same : without_newlines inner ≡ kept

over : (t : Terminal) (kept ts to : List Terminal)
    → ((others : List Terminal) → without_newlines (t ∷ others) ≡ t ∷ without_newlines others)
    → UpTo kept ts to → UpTo (t ∷ kept) (t ∷ ts) to
over t kept ts to one u = record {
  inner = t ∷ u.inner;
  after = u.after;
  joined = ap (λ (r : List Terminal). t ∷ r) u.joined;
  closed = u.closed;
  same = one u.inner ∙ ap (λ (r : List Terminal). t ∷ r) u.same;
}

pub enclosed_found : (ts : List Terminal) → IfSome (enclosed_at ts) (λ x. UpTo x.0 ts x.1)
unfolding enclosed_at
enclosed_found [] = tt
enclosed_found (terminals.newline ∷ ts) =
    IfSome_weaker (enclosed_at ts) _ _ (λ x u.
    record {
      inner = terminals.newline ∷ u.inner;
      after = u.after;
      joined = ap (λ (r : List Terminal). terminals.newline ∷ r) u.joined;
      closed = u.closed;
      same = u.same;
    })
    (enclosed_found ts)
enclosed_found (punctuator CloseBrace ∷ ts) = record {
  inner = [];
  after = ts;
  joined = refl;
  closed = refl;
  same = refl;
}
enclosed_found (t ∷ ts) = IfSome_bind _ (enclosed_at ts) _ (enclosed_found ts)
    (λ x u. over t x.0 ts x.1 (λ others. refl) u)

enclosed_only : (inner after : List Terminal) → braceless (without_newlines inner) ≡ true
    → enclosed_at (inner ++ punctuator CloseBrace ∷ after)
    ≡ Some (without_newlines inner, punctuator CloseBrace ∷ after)
unfolding enclosed_at
enclosed_only [] after e = refl
enclosed_only (terminals.newline ∷ inner) after e = enclosed_only inner after e
enclosed_only (punctuator CloseBrace ∷ inner) after e = absurd cc
enclosed_only (t ∷ inner) after e = rw (enclosed_only inner after e) refl

-- The tokens kept, and then those still enclosed.
abbrev pub behind_kept : List Terminal → List Terminal → Option (List Terminal × List Terminal)
behind_kept kept here = enclosed_at here >>= λ x. Some (kept ++ x.0, x.1)

-- One more token is kept; at the end nothing is left.
pub keeps_on : (kept here : List Terminal) (x : Terminal × List Terminal) → inside_at here ≡ Some x
    → behind_kept kept here ≡ behind_kept (kept ++ without_newlines (x.0 ∷ [])) x.1
unfolding enclosed_at
keeps_on kept [] x e = absurd cc
keeps_on kept (punctuator CloseBrace ∷ ts) x e = absurd cc
keeps_on kept (terminals.newline ∷ ts) x e = rw (sym (same_Some _ _ e), append-nil kept) refl
keeps_on kept (t ∷ ts) x e =
    rw (sym (same_Some _ _ e)) (elim (option_cases (enclosed_at ts)) [
      | inl none ↦ rw none refl
      | inr y ↦ rw (y.1, append_assoc kept (t ∷ []) y.0.0) refl
    ])

pub kept_all : (kept here : List Terminal) → inside_at here ≡ None
    → behind_kept kept here ≡ at_brace kept here
unfolding enclosed_at
kept_all kept [] e = refl
kept_all kept (punctuator CloseBrace ∷ ts) e = rw (append-nil kept) refl
kept_all kept (t ∷ ts) e = absurd cc

-- The same for a token that is no newline, if all tokens so far were kept.
plain_on : (n : ℕ) (kept here after : List Terminal) → after_plain (drop n here) ≡ Some after
    → (behind_kept (kept ++ take n here) (drop n here) ≡ behind_kept (kept ++ take (suc n) here) after)
    × (drop (suc n) here ≡ after)
plain_on zero kept [] after e = absurd cc
plain_on zero kept (terminals.newline ∷ here) after e = absurd cc
plain_on zero kept (punctuator CloseBrace ∷ here) after e = absurd cc
plain_on zero kept (t ∷ here) after e =
    rw (append-nil kept, sym (same_Some _ _ e)) (keeps_on kept (t ∷ here) (t, here) refl, refl)
plain_on (suc n) kept [] after e = absurd cc
plain_on (suc n) kept (t ∷ here) after e =
    let others = plain_on n (kept ++ t ∷ []) here after e in (
      rw (sym (append_assoc kept (t ∷ []) (take n here)), sym (append_assoc kept (t ∷ []) (take (suc n) here)))
          others.0,
      others.1,
    )

pub one_more : (s here after : List Terminal) (n m : ℕ) → m ≡ suc n → drop n s ≡ here
    → after_plain here ≡ Some after → (behind_kept (take n s) here ≡ behind_kept (take m s) after)
    × (drop m s ≡ after)
one_more s here after n m next rest e = rw (next, sym rest) (plain_on n [] s after (rw rest e))

-- At the closing brace.
pub brace_kept : (kept here after : List Terminal) → after_punctuator CloseBrace here ≡ Some after
    → behind_kept kept here ≡ Some (kept, here)
unfolding enclosed_at
brace_kept kept here after e = rw (
  IfSome_at (after_punctuator CloseBrace here) _ after e
      (punctuator_after CloseBrace here),
  append-nil kept,
) refl

-- ---- productions without a closing brace

pub record HoldsNoBrace {A : Type 0} (p : Grammar A) : Type 0 where
  pub keeps : (x : A) (from to : List Terminal) → p.spells x from to → braceless from ≡ braceless to

pub keeps_keyword : (w : List ℕ) → HoldsNoBrace (keyword w)
keeps_keyword w = record { keeps = λ x from to s. ap braceless s }

pub keeps_punctuation : (m : Punctuator) → closes (punctuator m) ≡ false → HoldsNoBrace (punctuation m)
keeps_punctuation m e = record { keeps = λ x from to s. ap braceless s ∙ rw e refl }

pub keeps_word : HoldsNoBrace a_word
keeps_word = record { keeps = λ x from to s. ap braceless s }

pub keeps_number : HoldsNoBrace a_number
keeps_number = record { keeps = λ x from to s. ap braceless s }

pub keeps_address : HoldsNoBrace an_address
keeps_address = record { keeps = λ x from to s. ap braceless s }

pub keeps_string : HoldsNoBrace a_string
keeps_string = record { keeps = λ x from to s. ap braceless s }

pub keeps_then : {A B : Type 0} {p : Grammar A} {q : Grammar B} → HoldsNoBrace p → HoldsNoBrace q
    → HoldsNoBrace (p ⨾ q)
keeps_then k l = record { keeps = λ x from to s. k.keeps x.0 from s.0 s.1 ∙ l.keeps x.1 s.0 to s.2 }

pub keeps_after : {B : Type 0} {p : Grammar Unit} {q : Grammar B} → HoldsNoBrace p → HoldsNoBrace q
    → HoldsNoBrace (p ▹ q)
keeps_after k l = record { keeps = λ y from to s. k.keeps tt from s.0 s.1 ∙ l.keeps y s.0 to s.2 }

pub keeps_either : {A : Type 0} {p q : Grammar A} → HoldsNoBrace p → HoldsNoBrace q → HoldsNoBrace (p ∣ q)
keeps_either k l = record {
  keeps = λ x from to s.
      elim s [ inl a ↦ k.keeps x from to a | inr b ↦ l.keeps x from to b ];
}

pub keeps_made : {A B : Type 0} (f : A → B) {p : Grammar A} → HoldsNoBrace p → HoldsNoBrace (made f p)
keeps_made f k = record { keeps = λ y from to s. k.keeps s.0 from to s.2 }

pub keeps_passing : {A : Type 0} (test : A → Bool) {p : Grammar A} → HoldsNoBrace p
    → HoldsNoBrace (passing test p)
keeps_passing test k = record { keeps = λ x from to s. k.keeps x from to s.0 }

maybe_keeps : {A : Type 0} (p : Grammar A) → HoldsNoBrace p → (o : Option A) (from to : List Terminal)
    → (maybe p).spells o from to → braceless from ≡ braceless to
maybe_keeps p k None from to s = ap braceless s
maybe_keeps p k (Some x) from to s = k.keeps x from to s

pub keeps_maybe : {A : Type 0} {p : Grammar A} → HoldsNoBrace p → HoldsNoBrace (maybe p)
keeps_maybe {p = p} k = record { keeps = maybe_keeps p k }

many_keeps : {A : Type 0} (p : Grammar A) → HoldsNoBrace p → (xs : List A) (from to : List Terminal)
    → Many p.spells xs from to → braceless from ≡ braceless to
many_keeps p k [] from to s = ap braceless s
many_keeps p k (x ∷ xs) from to s = k.keeps x from s.0 s.1 ∙ many_keeps p k xs s.0 to s.2

pub keeps_many : {A : Type 0} {p : Grammar A} → HoldsNoBrace p → HoldsNoBrace (many p)
keeps_many {p = p} k = record { keeps = many_keeps p k }

pub keeps_one_of : {A : Type 0} (rows : List (List ℕ × A)) → HoldsNoBrace (one_of rows)
keeps_one_of [] = record { keeps = λ x from to s. absurd s }
keeps_one_of (row ∷ rows) = keeps_either (keeps_made (λ u. row.1) (keeps_keyword row.0)) (keeps_one_of rows)

-- ---- x {"," x} [","]

-- Nothing is left but a comma.
last_comma : (ts : List Terminal) → length (after_last_comma ts) == 0 ≡ true
    → (ts ≡ []) ⊎ (ts ≡ punctuator Comma ∷ [])
last_comma ts e =
    let nothing : after_last_comma ts ≡ [] = nil_from_length (after_last_comma ts) (eqb-true _ _ e) in
    elim (option_cases (after_punctuator Comma ts)) [
      | inl none ↦ inl (rw none at nothing)
      | inr a ↦
          let found : ts ≡ punctuator Comma ∷ a.0 =
          IfSome_at (after_punctuator Comma ts) _ a.0 a.1 (punctuator_after Comma ts) in
          let left : a.0 ≡ [] = rw a.1 at nothing in
          inr (cc (found, left))
    ]

nothing_stands : (fs : List Lookahead) → begins_with fs [] ≡ false
nothing_stands [] = refl
nothing_stands (f ∷ fs) = nothing_stands fs

-- The tokens start as the list does, or with a newline.
starts : (fs : List Lookahead) (inner to : List Terminal) → begins_with fs (without_newlines inner) ≡ true
    → (length to < length (inner ++ to)) × (begins_with (line ∷ fs) (inner ++ to) ≡ true)
starts fs [] to e = absurd (cc (nothing_stands fs, e))
starts fs (terminals.newline ∷ inner) to e = (omega (arith, length-append inner to), refl)
starts fs (t ∷ inner) to e = (omega (arith, length-append inner to), e)

module _ {A : Type 0} (p : Grammar A) (l : Lawful p) (some : p.empty ≡ false)
    (behind : are_apart p.follow (punctuation Comma).first ≡ true) (k : HoldsNoBrace p) where
  comma_separated_found : (ts : List Terminal)
      → IfSome (comma_separated_at p.read ts) (λ xs. CommaSeparated p xs ts [])
  unfolding comma_separated_at
  comma_separated_found ts =
      IfSome_bind _ ((separated (punctuation Comma) p).read ts)
      _ ((lawful_separated (lawful_punctuation Comma) l refl some refl behind).found ts) (λ xs exs.
      IfSome_cond _ (length (after_last_comma xs.1) == 0) _ (λ e. (xs.1, exs, last_comma xs.1 e)))

  comma_separated_only : (xs : List A) (ts : List Terminal) → CommaSeparated p xs ts []
      → comma_separated_at p.read ts ≡ Some xs
  unfolding comma_separated_at
  comma_separated_only xs ts (a, s, last) =
      let all = separated_only (punctuation Comma) p (lawful_punctuation Comma) l refl some
      (lawful_after (lawful_punctuation Comma) l refl) behind xs ts a s in
      elim last [
        | inl e ↦ rw (all (rw e (nothing_stands p.follow)) (rw e refl), e) refl
        | inr e ↦ rw (
          all (rw e (begins_with_apart p.follow (punctuation Comma).first (punctuator Comma ∷ [])
              behind refl)) (rw e (unread p l some [] (nothing_stands p.first))),
          e,
        ) refl
      ]

  -- A list starts as its first part does, and holds no closing brace.
  comma_separated_starts : (xs : List A) (ts : List Terminal) → CommaSeparated p xs ts []
      → (begins_with p.first ts ≡ true) × (braceless ts ≡ true)
  comma_separated_starts [] ts (a, s, last) = absurd s
  comma_separated_starts (x ∷ xs) ts (a, (b, s, more), last) =
      let closed : braceless a ≡ true = elim last [ inl e ↦ ap braceless e | inr e ↦ ap braceless e ] in (
        begins p l some x ts b s,
        k.keeps x ts b s
            ∙ many_keeps (punctuation Comma ▹ p) (keeps_after (keeps_punctuation Comma refl) k) xs b a more
            ∙ closed,
      )

  pub lawful_up_to_brace : Lawful (up_to_brace p)
  unfolding up_to_brace_at
  lawful_up_to_brace = record {
    found = λ ts.
        IfSome_bind _ (enclosed_at ts) _ (enclosed_found ts) (λ x u.
        IfSome_bind _ (comma_separated_at p.read x.0) _ (comma_separated_found x.0) (λ xs exs.
        record {
          inner = u.inner;
          after = u.after;
          joined = u.joined;
          closed = u.closed;
          listed = rw u.same exs;
        }));
    only = λ xs from to s none.
        let enclosed = enclosed_only s.inner s.after
        (comma_separated_starts xs (without_newlines s.inner) s.listed).1 in
        rw (s.joined, s.closed, enclosed, comma_separated_only xs (without_newlines s.inner) s.listed) refl;
    front = λ xs from to s. inl (subst (λ (r : List Terminal). (length to < length r)
        × (begins_with (line ∷ p.first) r ≡ true)) (sym s.joined)
        (starts p.first s.inner to (comma_separated_starts xs (without_newlines s.inner) s.listed).0));
  }
