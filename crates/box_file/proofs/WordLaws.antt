-- The first word of a line, and the rest.
use Rattle.box_file.proofs.Names.{Bool, List, None, Option, Some, [], ap, arith, before_comment, begins_word, cases_Bool, cond, cond_both, drop, ends_word}
use Rattle.box_file.proofs.Names.{false, false_from_ne_true, false≢true, filter, inl, inr, is_blank, is_nonempty, length, ltb, ltb-false, ne_eqb}
use Rattle.box_file.proofs.Names.{one-add, onto_first, or_parts, parts_of, position_or_len, refl, rest_from, sym, take}
use Rattle.box_file.proofs.Names.{nat_tests, uncons, unwrap_or, words_of, ℕ, ◌-◌, ◌<◌, ◌==◌, ◌∙◌, ◌∷◌, ◌≡◌, ◌≤◌}

-- ---- indexes

pub place_within : (p : ℕ → Bool) (ts : List ℕ) → position_or_len p ts ≤ length ts
place_within p [] = omega arith
place_within p (b ∷ bs) = grind (arith, place_within p bs)

-- the index that `position` gave, or the end
pub place_or_end : (p : ℕ → Bool) (ts : List ℕ) (r : Option ℕ)
    → r ≡ cond (ltb (position_or_len p ts) (length ts)) (Some (position_or_len p ts)) None
    → unwrap_or r (length ts) ≡ position_or_len p ts
place_or_end p ts r e = grind (arith, position_or_len, place_within, cond_both, unwrap_or, ltb-false)

first_fails : (p : ℕ → Bool) (b : ℕ) (bs : List ℕ) → 0 < position_or_len p (b ∷ bs) → p b ≡ false
first_fails p b bs some = false_from_ne_true (p b) (λ e. let none : 0 < 0 = rw e at some in omega arith)

-- ---- blanks before a word

-- leading blanks make no word
skip_blanks : (ts : List ℕ) → words_of (drop (position_or_len begins_word ts) ts) ≡ words_of ts
skip_blanks [] = refl
skip_blanks (b ∷ bs) = elim (cases_Bool (is_blank b)) [
  | inl e ↦ rw (e, one-add, ne_eqb b 35 (λ same. false≢true (rw same at e)), e) (skip_blanks bs)
  | inr e ↦ rw e refl
]

no_blank_left : (ts : List ℕ) → position_or_len begins_word (drop (position_or_len begins_word ts) ts) ≡ 0
no_blank_left [] = refl
no_blank_left (b ∷ bs) =
    elim (cases_Bool (is_blank b)) [ inl e ↦ rw (e, one-add) (no_blank_left bs) | inr e ↦ rw e (rw e refl) ]

-- ---- the first word

onto_words : (b c : ℕ) (ps : List (List ℕ))
    → filter is_nonempty (onto_first b (onto_first c ps)) ≡ onto_first b (filter is_nonempty (onto_first c ps))
onto_words b c [] = refl
onto_words b c (p ∷ ps) = refl

-- a byte of a word, and what follows it
abbrev WordFront : ℕ → List ℕ → Type 0
WordFront b ts = filter is_nonempty (onto_first b (parts_of is_blank (before_comment ts)))
    ≡ (b ∷ take (position_or_len ends_word ts) ts) ∷ words_of (drop (position_or_len ends_word ts) ts)

front_step : (b c : ℕ) (cs : List ℕ) (s v : Bool) → (c == 35) ≡ s → is_blank c ≡ v → WordFront c cs → WordFront b (c ∷ cs)
front_step b c cs s v es ev h = grind (arith, nat_tests, onto_words, h)

word_front : (b : ℕ) (ts : List ℕ) → WordFront b ts
word_front b [] = refl
word_front b (c ∷ cs) = front_step b c cs (c == 35) (is_blank c) refl refl (word_front c cs)

word_taken : (ts : List ℕ) → 0 < position_or_len ends_word ts
    → words_of ts ≡ take (position_or_len ends_word ts) ts ∷ words_of (drop (position_or_len ends_word ts) ts)
word_taken [] some = absurd (omega arith)
word_taken (b ∷ bs) some =
    let h = or_parts (is_blank b) (b == 35) (first_fails ends_word b bs some) in
    rw (h.1, h.0, one-add) (word_front b bs)

no_word : (ts : List ℕ) → position_or_len begins_word ts ≡ 0 → position_or_len ends_word ts ≡ 0 → words_of ts ≡ []
no_word [] begins ends = refl
no_word (b ∷ bs) begins ends = grind arith

-- ---- the code's parts

abbrev pub rest_at : List ℕ → ℕ → List ℕ
rest_at ts k = take (length ts - k) (drop k ts)

-- what follows the blanks, and the length of the word there
module _ (ts : List ℕ) (k n : ℕ) (begins : k ≡ position_or_len begins_word ts) (ends : n ≡ position_or_len ends_word (rest_at ts k)) where
  after : rest_at ts k ≡ drop (position_or_len begins_word ts) ts
  after = rest_from ts k ∙ ap (λ j. drop j ts) begins

  same_words : words_of (rest_at ts k) ≡ words_of ts
  same_words = ap words_of after ∙ skip_blanks ts

  pub no_word_in : n ≡ 0 → None ≡ uncons (words_of ts)
  no_word_in zero =
      ap uncons (sym (no_word (rest_at ts k) (ap (position_or_len begins_word) after ∙ no_blank_left ts) (sym ends ∙ zero)) ∙ same_words)

  pub word_in : 0 < n → (front back : List ℕ) → front ≡ take n (rest_at ts k) → back ≡ drop n (rest_at ts k)
      → Some (front, words_of back) ≡ uncons (words_of ts)
  word_in some front back ef eb =
      rw (ef, eb, ends) (ap uncons (sym (word_taken (rest_at ts k) (rw ends at some)) ∙ same_words))
