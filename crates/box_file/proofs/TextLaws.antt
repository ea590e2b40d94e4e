-- The lines of a text, one after another.
use Rattle.box_file.proofs.Names.{Bool, Line, List, None, Option, Some, [], all_in, ap, append-nil, append_assoc, arith, cases_Bool, cases_lt, drop, drop_all}
use Rattle.box_file.proofs.Names.{eqb-true, false, filter, first_line, inl, inr, is_newline, is_nonempty, le-ltb, length, length-drop, line_in, line_of}
use Rattle.box_file.proofs.Names.{lines_in, lines_of, lt-ltb, map, nat_tests, nil_from_length, one-add, onto_first, option_map, parts_of, position_or_len, refl}
use Rattle.box_file.proofs.Names.{suc, sym, take, take_all, true, uncons, words_of, ℕ, ◌++◌, ◌<◌, ◌==◌, ◌>>=◌, ◌∙◌, ◌∷◌, ◌≡◌}

pub some_left : (ts : List ℕ) (r : Bool) → r ≡ (length ts == 0) → r ≡ false → 0 < length ts
some_left ts r e f = grind (arith, nat_tests)

-- ---- the first line

parts_first : (ends : ℕ → Bool) (b : ℕ) (bs : List ℕ) → parts_of ends (b ∷ bs)
    ≡ take (position_or_len ends (b ∷ bs)) (b ∷ bs) ∷ parts_of ends (drop (suc (position_or_len ends (b ∷ bs))) (b ∷ bs))
parts_first ends b [] = elim (cases_Bool (ends b)) [ inl e ↦ rw e refl | inr e ↦ rw e refl ]
parts_first ends b (c ∷ cs) = elim (cases_Bool (ends b)) [
  | inl e ↦ rw e refl
  | inr e ↦ rw (e, one-add) (ap (onto_first b) (parts_first ends c cs))
]

first_parts : (ts : List ℕ) → first_line ts
    ≡ (take (position_or_len is_newline ts) ts, drop (suc (position_or_len is_newline ts)) ts)
first_parts ts = grind (arith, position_or_len, lt-ltb, le-ltb, take_all, drop_all, cases_lt)

lines_next : (ts : List ℕ) (f : List ℕ × List ℕ) → f ≡ first_line ts → 0 < length ts → lines_of ts ≡ f.0 ∷ lines_of f.1
lines_next [] f cut some = absurd (omega arith)
lines_next (b ∷ bs) f cut some = rw (cut ∙ first_parts (b ∷ bs)) (parts_first is_newline b bs)

-- ---- the lines that were parsed, before the rest

abbrev pub before : List Line → Option (List Line) → Option (List Line)
before front o = option_map (λ ls. front ++ ls) o

-- the line of these words, if there are any, before the others
abbrev pub one_more : Option (List ℕ × List (List ℕ)) → Option (List Line) → Option (List Line)
one_more None rest = rest
one_more (Some x) rest = line_of x.0 x.1 >>= λ l. rest >>= λ ls. Some (l ∷ ls)

next_words : (ws : List (List ℕ)) (rest : List (List (List ℕ)))
    → all_in (filter is_nonempty (ws ∷ rest)) ≡ one_more (uncons ws) (all_in (filter is_nonempty rest))
unfolding all_in line_in
next_words [] rest = refl
next_words (w ∷ ws) rest = refl

pub before_next : (front : List Line) (l : Line) (o : Option (List Line))
    → before (front ++ l ∷ []) o ≡ before front (o >>= λ ls. Some (l ∷ ls))
before_next front l None = refl
before_next front l (Some ls) = ap Some (append_assoc front (l ∷ []) ls)

-- the text's lines, by its first line and the rest
pub lines_step : (ts : List ℕ) (f : List ℕ × List ℕ) → f ≡ first_line ts → 0 < length ts
    → lines_in ts ≡ one_more (uncons (words_of f.0)) (lines_in f.1)
lines_step ts f cut some = rw (lines_next ts f cut some) (next_words (words_of f.0) (map words_of (lines_of f.1)))

pub rest_shorter : (ts : List ℕ) (f : List ℕ × List ℕ) → f ≡ first_line ts → 0 < length ts → length f.1 < length ts
rest_shorter ts f cut some = rw (cut ∙ first_parts ts) (omega (arith, length-drop (suc (position_or_len is_newline ts)) ts))

pub no_more : (front : List Line) (ts : List ℕ) (total : Option (List Line)) (r : Bool) → r ≡ (length ts == 0) → r ≡ true
    → before front (lines_in ts) ≡ total → Some front ≡ total
unfolding all_in
no_more front ts total r e f so_far = rw append-nil at (rw (nil_from_length ts (eqb-true _ _ (sym e ∙ f))) at so_far)
