-- What the reader gives is the longest lexeme, and it gives one wherever there is one.
use Rattle.std.proofs.Common.{◌≡◌, ◌≢◌, ℕ, suc, ◌+◌, ◌-◌, ◌<◌, ◌≤◌, Bool, true, ◌==◌, List, [], ◌∷◌, ◌++◌}
use Rattle.std.proofs.Common.{length, take, Option, Some, None, inl, inr, refl, sym, ap, ◌∙◌}
use Rattle.std.proofs.Common.{append_assoc, arith}
use Rattle.std.specs.Prelude.{IfSome, IsSomeAnd, IsTrue, MatchResult, Result, Ok, Err}
use Rattle.nft_lexer.specs.declared.fault.LexFault.{LexFault}
use Rattle.std.specs.Char.{is_ascii_digit, is_ascii_hexdigit}
use Rattle.std.specs.List.{prefix_len, list_all}
use Rattle.std.specs.Option.{option_or}
use Rattle.std.proofs.lemmas.Bool.{and_parts, cond_both, eqb-true, eqb-false}
use Rattle.std.proofs.lemmas.Bool.Decides.{nat_tests}
use Rattle.std.proofs.lemmas.List.{take_at, take-append-drop, length-append, length-drop, append-nil, nil_from_length}
use Rattle.std.proofs.Math.Seq.{take-append-add, drop-append-add}
use Rattle.list_laws.specs.Options.{◌>>=◌, option_cases, IfSome_at, IfSome_bind, IfSome_weaker}
use Rattle.nft_lexer.specs.declared.token.Punctuator.{Punctuator}
use Rattle.nft_lexer.specs.declared.token.Punctuator.TheVariants.{Equals, EqualTo, AtMost, AtLeast, Below, Above}
use Rattle.nft_lexer.specs.declared.lexeme.Class.{Class}
use Rattle.nft_lexer.specs.declared.lexeme.Class.TheVariants as classes
use Rattle.nft_lexer.specs.declared.lexing.Fault.{Fault}
use Rattle.nft_lexer.specs.declared.lexing.Fault.TheVariants as faults
use Rattle.nft_lexer.specs.Terminal.{LexedToken}
use Rattle.nft_lexer.specs.Lexing.{Lexeme, blank, line_continuation, comment, line_end, name, digits, hexadecimal}
use Rattle.nft_lexer.specs.Lexing.{dotted_quad, quoted, punctuation, is_blank, begins_word, continues_word}
use Rattle.nft_lexer.specs.Lexing.{is_no_newline, is_string_byte, punctuator_text, IsDigits, SpellsLexeme}
use Rattle.nft_lexer.specs.Lexing.{IsLongestLexeme, HasTokens, BeginsNoLexeme, no_lexeme, open_string, no_token}
use Rattle.nft_lexer.specs.Lexing.{IsFaultAt}
use Rattle.nft_lexer.specs.steps.Reading.{class_of, punctuator_from, short_punctuators, long_punctuators}
use Rattle.nft_lexer.specs.steps.Reading.{after_byte, front, behind, run_at, is_zero, hexadecimal_at, next_octet_at}
use Rattle.nft_lexer.specs.steps.Reading.{dotted_quad_at, number_at, quoted_at, long_punctuator_at, punctuator_at}
use Rattle.nft_lexer.specs.steps.Reading.{class_at, lexeme_at, scanned_kind, meaning, next_at, at_line, ScansOne}
use Rattle.nft_lexer.proofs.Numbers.{meaning_found, meaning_only}

-- ---- options

else_found : {A : Type 0} (Q : A → Type 0) (o d : Option A) → IfSome o Q → IfSome d Q
    → IfSome (option_or o d) Q
else_found Q None d h k = k
else_found Q (Some x) d h k = h

-- ---- runs

-- All bytes of the leading run pass the test.
front_all : (test : ℕ → Bool) (ts : List ℕ) → list_all test (front test ts) ≡ true
front_all test [] = refl
front_all test (b ∷ bs) =
    cond_both (test b) (1 + prefix_len test bs) 0 (λ n. list_all test (take n (b ∷ bs)) ≡ true) (λ e.
    let one : 1 + prefix_len test bs ≡ suc (prefix_len test bs) = omega arith in
    rw (one, e) (front_all test bs)) (λ _. refl)

front_behind : (test : ℕ → Bool) (ts : List ℕ) → ts ≡ front test ts ++ behind test ts
front_behind test ts = sym (take-append-drop (prefix_len test ts) ts)

front_read : (test : ℕ → Bool) (b : ℕ) (bs : List ℕ) → b ∷ bs ≡ (b ∷ front test bs) ++ behind test bs
front_read test b bs = ap (λ (t : List ℕ). b ∷ t) (front_behind test bs)

behind_short : (test : ℕ → Bool) (ts : List ℕ) → length (behind test ts) ≤ length ts
behind_short test ts = omega (arith, length-drop (prefix_len test ts) ts)

-- Passing bytes before a text lengthen its leading run.
passed : (test : ℕ → Bool) (xs rest : List ℕ) → list_all test xs ≡ true
    → prefix_len test (xs ++ rest) ≡ length xs + prefix_len test rest
passed test [] rest all = omega arith
passed test (x ∷ xs) rest all = grind (arith, and_parts, passed test xs rest)

front_more : (test : ℕ → Bool) (xs rest : List ℕ) → list_all test xs ≡ true
    → front test (xs ++ rest) ≡ xs ++ front test rest
front_more test xs rest all = rw (passed test xs rest all) (take-append-add xs rest (prefix_len test rest))

behind_more : (test : ℕ → Bool) (xs rest : List ℕ) → list_all test xs ≡ true
    → behind test (xs ++ rest) ≡ behind test rest
behind_more test xs rest all = rw (passed test xs rest all) (drop-append-add xs rest (prefix_len test rest))

abbrev IsRun : (ℕ → Bool) → List ℕ → Type 0
IsRun test bytes = (bytes ≢ []) × IsTrue (list_all test bytes)

run_found : (test : ℕ → Bool) (ts : List ℕ)
    → IfSome (run_at test ts) (λ x. (ts ≡ x.0 ++ x.1) × IsRun test x.0)
unfolding run_at
run_found test [] = tt
run_found test (b ∷ bs) =
    cond_both (test b) (Some (b ∷ front test bs, behind test bs)) None
    (λ o. IfSome o (λ x. (b ∷ bs ≡ x.0 ++ x.1) × IsRun test x.0))
    (λ e. (front_read test b bs, ((λ n. absurd cc), rw e (front_all test bs))))
    (λ _. tt)

-- A run is read together with the bytes that continue it.
run_more : (test : ℕ → Bool) (ds rest : List ℕ) → IsRun test ds
    → run_at test (ds ++ rest) ≡ Some (ds ++ front test rest, behind test rest)
unfolding run_at
run_more test [] rest s = absurd (s.0 refl)
run_more test (b ∷ bs) rest s =
    let lexemes = and_parts (test b) (list_all test bs) s.1 in
    rw (lexemes.0, front_more test bs rest lexemes.1, behind_more test bs rest lexemes.1) refl

run_exact : (test : ℕ → Bool) (ds rest : List ℕ) → IsRun test ds → prefix_len test rest ≡ 0
    → run_at test (ds ++ rest) ≡ Some (ds, rest)
run_exact test ds rest s none = run_more test ds rest s ∙ rw (none, append-nil ds) refl

byte_found : (k : ℕ) (ts : List ℕ) → IfSome (after_byte k ts) (λ r. ts ≡ k ∷ r)
byte_found k [] = tt
byte_found k (b ∷ bs) = grind arith

-- ---- soundness: what is read is spelled

-- The text starts with a spelling of the lexeme, and this is the rest.
abbrev pub SpellsFront : Lexeme → List ℕ → List ℕ → Type 0
SpellsFront p ts rest = (bytes : List ℕ) × (ts ≡ bytes ++ rest) × SpellsLexeme p bytes

-- The same for digits and the text after them, of which the lexeme takes at least a byte.
abbrev Onward : List ℕ → List ℕ → Lexeme × List ℕ → Type 0
Onward first ts x = SpellsFront x.0 (first ++ ts) x.1 × (length x.1 < length ts)

zero_is : (ds : List ℕ) → is_zero ds ≡ true → ds ≡ 48 ∷ []
zero_is [] e = absurd cc
zero_is (b ∷ ds) e = grind (arith, nat_tests, nil_from_length)

hexadecimal_found : (first ts : List ℕ) → IfSome (hexadecimal_at first ts) (Onward first ts)
unfolding hexadecimal_at
hexadecimal_found first ts =
    IfSome_bind _ (after_byte 120 ts) _ (byte_found 120 ts) (λ r er.
    cond_both (is_zero first) (run_at is_ascii_hexdigit r) None
    (λ o. IfSome (o >>= (λ x. Some (hexadecimal x.0, x.1))) (Onward first ts)) (λ zero.
    IfSome_bind _ (run_at is_ascii_hexdigit r) _ (run_found is_ascii_hexdigit r) (λ x h. (
      (48 ∷ 120 ∷ x.0, rw (zero_is first zero, er, h.0) refl, (refl, h.1)),
      omega (arith, ap length er, ap length h.0, length-append x.0 x.1),
    ))) (λ _. tt))

octet_found : (ts : List ℕ)
    → IfSome (next_octet_at ts) (λ x. (ts ≡ 46 ∷ (x.0 ++ x.1)) × IsDigits x.0 × (length x.1 < length ts))
unfolding next_octet_at
octet_found ts =
    IfSome_bind _ (after_byte 46 ts) (run_at is_ascii_digit) (byte_found 46 ts) (λ r er.
    IfSome_weaker (run_at is_ascii_digit r) _ _
    (λ x h. (cc (er, h.0), h.1, omega (arith, ap length er, ap length h.0, length-append x.0 x.1)))
    (run_found is_ascii_digit r))

-- The text after the first of four octets, associated to the right.
abbrev octets_after : (b c d rest : List ℕ) → List ℕ
octets_after b c d rest = 46 ∷ (b ++ (46 ∷ (c ++ (46 ∷ (d ++ rest)))))

regroup : (a b c d rest : List ℕ) → (a ++ 46 ∷ b ++ 46 ∷ c ++ 46 ∷ d) ++ rest ≡ a ++ octets_after b c d rest
regroup a b c d rest = simp append_assoc

dotted_quad_found : (first ts : List ℕ) → IsDigits first → IfSome (dotted_quad_at first ts) (Onward first ts)
unfolding dotted_quad_at
dotted_quad_found first ts s =
    IfSome_bind _ (next_octet_at ts) _ (octet_found ts) (λ b hb.
    IfSome_bind _ (next_octet_at b.1) _ (octet_found b.1) (λ c hc.
    IfSome_bind _ (next_octet_at c.1) _ (octet_found c.1) (λ d hd.
    let all : ts ≡ octets_after b.0 c.0 d.0 d.1 = cc (hb.0, hc.0, hd.0) in
    let split = sym (regroup first b.0 c.0 d.0 d.1) in
    ((_, rw all split, (refl, s, hb.1, hc.1, hd.1)), omega (arith, hb.2, hc.2, hd.2)))))

number_found : (ts : List ℕ) → IfSome (number_at ts) (λ x. SpellsFront x.0 ts x.1)
unfolding number_at
number_found ts =
    IfSome_bind _ (run_at is_ascii_digit ts) _ (run_found is_ascii_digit ts) (λ a h.
    rw h.0 (else_found _ (hexadecimal_at a.0 a.1)
    _ (IfSome_weaker _ _ _ (λ x (g : Onward a.0 a.1 x). g.0) (hexadecimal_found a.0 a.1))
    (else_found _ (dotted_quad_at a.0 a.1)
    _ (IfSome_weaker _ _ _ (λ x (g : Onward a.0 a.1 x). g.0) (dotted_quad_found a.0 a.1 h.1))
    (a.0, refl, (refl, h.1)))))

punctuators_found : (b : ℕ) (bs : List ℕ) → IfSome (punctuator_at b bs) (λ x. SpellsFront x.0 (b ∷ bs) x.1)
unfolding punctuator_at long_punctuator_at
punctuators_found b bs =
    let long : IfSome (punctuator_from b long_punctuators) (λ m. punctuator_text m ≡ b ∷ 61 ∷ []) =
    grind (arith, nat_tests) in
    let short : IfSome (punctuator_from b short_punctuators) (λ m. punctuator_text m ≡ b ∷ []) =
    grind (arith, nat_tests) in
    else_found _ (long_punctuator_at b bs) _ (IfSome_bind _ (punctuator_from b long_punctuators) _ long (λ m e.
    IfSome_bind _ (after_byte 61 bs) _ (byte_found 61 bs) (λ r er. (b ∷ 61 ∷ [], rw er refl, sym e))))
    (IfSome_bind _ (punctuator_from b short_punctuators) _ short (λ m e. (b ∷ [], refl, sym e)))

quoted_found : (ts : List ℕ) → IfSome (quoted_at ts) (λ x. SpellsFront x.0 (34 ∷ ts) x.1)
unfolding quoted_at
quoted_found ts =
    let s = front is_string_byte ts in
    IfSome_bind _ (after_byte 34 (behind is_string_byte ts)) _ (byte_found 34 (behind is_string_byte ts))
    (λ r e.
    let all : ts ≡ (s ++ 34 ∷ []) ++ r = cc (front_behind is_string_byte ts, e, append_assoc s (34 ∷ []) r) in
    (34 ∷ (s ++ 34 ∷ []), ap (λ (t : List ℕ). 34 ∷ t) all, (refl, front_all is_string_byte ts)))

-- What is known of a byte by its class.
abbrev IsIn : ℕ → Class → Type 0
IsIn b classes.Letter = begins_word b ≡ true
IsIn b classes.Blank = is_blank b ≡ true
IsIn b classes.LineEnd = b ≡ 10
IsIn b classes.Backslash = b ≡ 92
IsIn b classes.Hash = b ≡ 35
IsIn b classes.Quote = b ≡ 34
IsIn b k = Unit {0}

in_class : (b : ℕ) → IsIn b (class_of b)
in_class b = grind (arith, nat_tests)

class_found : (b : ℕ) (bs : List ℕ) (k : Class) → IsIn b k
    → IfSome (class_at k b bs) (λ x. SpellsFront x.0 (b ∷ bs) x.1)
unfolding class_at
class_found b bs classes.Digit e = number_found (b ∷ bs)
class_found b bs classes.Letter e =
    (b ∷ front continues_word bs, front_read continues_word b bs, (refl, (e, front_all continues_word bs)))
class_found b bs classes.Blank e = (b ∷ [], refl, (b, refl, e))
class_found b bs classes.LineEnd e = (b ∷ [], refl, rw e refl)
class_found b bs classes.Backslash e = IfSome_bind _ (after_byte 10 bs) _ (byte_found 10 bs)
    (λ r h. (b ∷ 10 ∷ [], rw h refl, rw e refl))
class_found b bs classes.Hash e =
    (b ∷ front is_no_newline bs, front_read is_no_newline b bs, (rw e refl, front_all is_no_newline bs))
class_found b bs classes.Quote e = rw e (quoted_found bs)
class_found b bs classes.Other e = punctuators_found b bs

lexeme_spelled : (ts : List ℕ) → IfSome (lexeme_at ts) (λ x. SpellsFront x.0 ts x.1)
unfolding lexeme_at
lexeme_spelled [] = tt
lexeme_spelled (b ∷ bs) = class_found b bs (class_of b) (in_class b)

-- ---- completeness: each spelling is read, or a longer one

-- The reader leaves at most this text; where it leaves no less, it gives this lexeme and leaves this text.
abbrev Reads : Lexeme → List ℕ → Option (Lexeme × List ℕ) → Type 0
Reads p rest o = IsSomeAnd o (λ x. (length x.1 ≤ length rest) × (length rest ≤ length x.1 → x ≡ (p, rest)))

none_passes : (test : ℕ → Bool) (ts : List ℕ) → length ts ≤ length (behind test ts) → prefix_len test ts ≡ 0
none_passes test [] e = refl
none_passes test (b ∷ bs) e = grind (arith, length-drop)

-- The lexeme together with all bytes that continue it.
with_all : (test : ℕ → Bool) (f : List ℕ → Lexeme) (xs rest : List ℕ)
    → Reads (f xs) rest (Some (f (xs ++ front test rest), behind test rest))
with_all test f xs rest =
    (behind_short test rest, λ e. rw (none_passes test rest e, append-nil xs) refl)

digit_read : (ds rest : List ℕ) → IsDigits ds → lexeme_at (ds ++ rest) ≡ number_at (ds ++ rest)
unfolding lexeme_at class_at
digit_read [] rest s = absurd (s.0 refl)
digit_read (b ∷ bs) rest s = rw (and_parts (is_ascii_digit b) (list_all is_ascii_digit bs) s.1).0 refl

-- An alternative that takes bytes after the digits is tried before the digits alone.
else_reads : (p : Lexeme) (first ts rest : List ℕ) (o d : Option (Lexeme × List ℕ))
    → IfSome o (Onward first ts) → length ts ≤ length rest → Reads p rest d → Reads p rest (option_or o d)
else_reads p first ts rest None d h le r = r
else_reads p first ts rest (Some x) d h le r = grind arith

number_reads : (n rest : List ℕ) → IsDigits n → Reads (digits n) rest (number_at (n ++ rest))
unfolding number_at
number_reads n rest s =
    let first = n ++ front is_ascii_digit rest in
    let ts = behind is_ascii_digit rest in
    let le = behind_short is_ascii_digit rest in
    let all = rw (run_more is_ascii_digit n rest s) at (run_found is_ascii_digit (n ++ rest)) in
    rw (run_more is_ascii_digit n rest s)
    (else_reads (digits n) first ts rest (hexadecimal_at first ts) _ (hexadecimal_found first ts) le
    (else_reads (digits n) first ts rest (dotted_quad_at first ts) _ (dotted_quad_found first ts all.1) le
    (with_all is_ascii_digit digits n rest)))

-- A punctuator of one byte, where one with `=` after it may follow.
punctuation_reads : (long m : Punctuator) (rest : List ℕ)
    → Reads (punctuation m) rest (option_or (after_byte 61 rest >>= (λ r. Some (punctuation long, r)))
    (Some (punctuation m, rest)))
punctuation_reads long m [] = (omega arith, λ _. refl)
punctuation_reads long m (b ∷ bs) = grind arith

punctuators_read : (m : Punctuator) (rest : List ℕ)
    → Reads (punctuation m) rest (lexeme_at (punctuator_text m ++ rest))
unfolding lexeme_at class_at punctuator_at long_punctuator_at
punctuators_read Equals rest = punctuation_reads EqualTo Equals rest
punctuators_read Below rest = punctuation_reads AtMost Below rest
punctuators_read Above rest = punctuation_reads AtLeast Above rest
punctuators_read m rest = (omega arith, λ _. refl)

reads : (p : Lexeme) (bytes rest : List ℕ) → SpellsLexeme p bytes → Reads p rest (lexeme_at (bytes ++ rest))
unfolding lexeme_at class_at number_at run_at hexadecimal_at dotted_quad_at next_octet_at quoted_at
reads blank bytes rest s = let class : class_of s.0 ≡ classes.Blank = grind (arith, nat_tests, s.2) in
    rw (s.1, class) (omega arith, λ _. refl)
reads line_continuation bytes rest s = rw s (omega arith, λ _. refl)
reads (comment c) bytes rest s = rw (
  s.0,
  front_more is_no_newline c rest s.1,
  behind_more is_no_newline c rest s.1,
) (with_all is_no_newline comment c rest)
reads line_end bytes rest s = rw s (omega arith, λ _. refl)
reads (name []) bytes rest s = absurd s.1
reads (name (b ∷ bs)) bytes rest s = let class : class_of b ≡ classes.Letter = grind (arith, nat_tests, s.1.0) in
    rw (s.0, class, front_more continues_word bs rest s.1.1, behind_more continues_word bs rest s.1.1)
    (with_all continues_word (λ t. name (b ∷ t)) bs rest)
reads (digits n) bytes rest s = rw (s.0, digit_read n rest s.1) (number_reads n rest s.1)
reads (hexadecimal n) bytes rest s = rw (s.0, run_more is_ascii_hexdigit n rest s.1)
    (with_all is_ascii_hexdigit hexadecimal n rest)
reads (dotted_quad a b c d) bytes rest s =
    let last = 46 ∷ (d ++ rest) in
    let third = 46 ∷ (c ++ last) in
    rw (
      s.0,
      regroup a b c d rest,
      digit_read a (octets_after b c d rest) s.1,
      run_exact is_ascii_digit a (46 ∷ (b ++ third)) s.1 refl,
      run_exact is_ascii_digit b third s.2 refl,
      run_exact is_ascii_digit c last s.3 refl,
      run_more is_ascii_digit d rest s.4,
    ) (with_all is_ascii_digit (dotted_quad a b c) d rest)
reads (quoted t) bytes rest s = rw (
  s.0,
  append_assoc t (34 ∷ []) rest,
  front_more is_string_byte t (34 ∷ rest) s.1,
  behind_more is_string_byte t (34 ∷ rest) s.1,
  append-nil t,
) (omega arith, λ _. refl)
reads (punctuation m) bytes rest s = rw s (punctuators_read m rest)

-- ---- the longest lexeme

reaches : (q : Lexeme) (ts others rest : List ℕ) → SpellsLexeme q others → ts ≡ others ++ rest
    → Reads q rest (lexeme_at ts)
reaches q ts others rest s split = rw split (reads q others rest s)

-- A spelling has a byte or more, since the reader gives nothing for the empty text.
pub spelled_some : (p : Lexeme) (bytes : List ℕ) → SpellsLexeme p bytes → 0 < length bytes
unfolding lexeme_at
spelled_some p [] s = absurd (reads p [] [] s)
spelled_some p (b ∷ bs) s = omega arith

same_length : (xs vs ys ws : List ℕ) → xs ++ vs ≡ ys ++ ws
    → length xs + length vs ≡ length ys + length ws
same_length xs vs ys ws e = omega (arith, ap length e, length-append xs vs, length-append ys ws)

pub lexeme_is_longest : (ts : List ℕ) (x : Lexeme × List ℕ) → lexeme_at ts ≡ Some x
    → (bytes : List ℕ) × IsLongestLexeme x.0 bytes ts x.1
lexeme_is_longest ts x e =
    let there : SpellsFront x.0 ts x.1 =
    IfSome_at (lexeme_at ts) (λ x. SpellsFront x.0 ts x.1) x e (lexeme_spelled ts) in (
      there.0,
      record {
        joined = there.1;
        spelled = there.2;
        longest = λ q others rest s split.
            let less = (rw e at (reaches q ts others rest s split)).0 in
            omega (arith, less, same_length there.0 x.1 others rest (sym there.1 ∙ split));
      },
    )

-- The reader gives each longest lexeme, so that there is at most one at a position.
lexeme_only : (p : Lexeme) (bytes from to : List ℕ) → IsLongestLexeme p bytes from to
    → lexeme_at from ≡ Some (p, to)
lexeme_only p bytes from to s =
    let read = reaches p from bytes to s.spelled s.joined in
    elim (option_cases (lexeme_at from)) [
      | inl none ↦ absurd (rw none at read)
      | inr w ↦
          let there = lexeme_is_longest from w.0 w.1 in
          let less = s.longest w.0.0 there.0 w.0.1 there.1.spelled there.1.joined in
          let lengths = same_length there.0 w.0.1 bytes to (sym there.1.joined ∙ s.joined) in
          w.1 ∙ ap (λ x. Some x) ((rw w.1 at read).1 (omega (arith, less, lengths)))
    ]

-- ---- the next token or fault

begins_none : (ts : List ℕ) → BeginsNoLexeme ts → lexeme_at ts ≡ None
begins_none ts none = elim (option_cases (lexeme_at ts)) [
  | inl e ↦ e
  | inr w ↦ let s = lexeme_is_longest ts w.0 w.1 in absurd (none w.0.0 s.0 w.0.1 s.1.spelled s.1.joined)
]

-- The bytes before a suffix of the text.
pub before : (ts bytes rest : List ℕ) → ts ≡ bytes ++ rest → take (length ts - length rest) ts ≡ bytes
before ts bytes rest e = grind (arith, length-append, take_at)

pub lexeme_within : (ts : List ℕ) → IfSome (scanned_kind (lexeme_at ts)) (λ x. length x.1 ≤ length ts)
lexeme_within ts = grind (arith, option_cases, lexeme_is_longest, length-append)

abbrev pub IsNextOrFault : List ℕ → Result (List LexedToken × List ℕ) Fault → Type 0
IsNextOrFault ts r = MatchResult r (λ x. ScansOne ts x.0 x.1)
    (λ fault. (line : ℕ) → IsFaultAt ts line (at_line fault line))

pub next_is : (ts : List ℕ) → 0 < length ts → IsNextOrFault ts (next_at ts)
unfolding next_at
next_is [] some = absurd (omega arith)
next_is (b ∷ bs) some =
    elim (option_cases (lexeme_at (b ∷ bs))) [
      | inl none ↦
          let begins : BeginsNoLexeme (b ∷ bs) =
          λ q others after s joined. rw none at (reaches q (b ∷ bs) others after s joined) in
          rw none (cond_both (b == 34) faults.OpenString faults.Byte
          (λ fault. IsNextOrFault (b ∷ bs) (Err fault)) (λ e line. open_string (eqb-true b 34 e) begins refl)
          (λ e line. no_lexeme (eqb-false b 34 e) begins refl))
      | inr w ↦
          let there = lexeme_is_longest (b ∷ bs) w.0 w.1 in
          let bytes = before (b ∷ bs) there.0 w.0.1 there.1.joined in
          elim (option_cases (meaning w.0.0 there.0)) [
            | inl none ↦
                rw (w.1, bytes, none) (λ line.
                no_token w.0.0 there.0 w.0.1 there.1 (λ tokens m. absurd (cc (none, meaning_only w.0.0 there.0 tokens there.1.spelled m))) refl)
            | inr m ↦
                let meant = IfSome_at (meaning w.0.0 there.0) _ m.0 m.1 (meaning_found w.0.0 there.0 there.1.spelled) in
                rw (w.1, bytes, m.1) (w.0.0, there.0, there.1, meant)
          ]
    ]

-- The next tokens are those of the longest lexeme, if it has some.
pub next_only : (p : Lexeme) (bytes from to : List ℕ) (tokens : List LexedToken)
    → IsLongestLexeme p bytes from to → HasTokens p bytes tokens → next_at from ≡ Ok (tokens, to)
unfolding next_at
next_only p bytes from to tokens s m = rw (
  lexeme_only p bytes from to s,
  before from bytes to s.joined,
  meaning_only p bytes tokens s.spelled m,
) refl

pub fault_only : (ts : List ℕ) (line : ℕ) (fault : LexFault) → IsFaultAt ts line fault
    → (kind : Fault) × (next_at ts ≡ Err kind) × (fault ≡ at_line kind line)
unfolding next_at
fault_only [] line fault f = absurd f
fault_only (b ∷ bs) line fault (no_lexeme other none is) =
    (faults.Byte, grind (arith, nat_tests, begins_none (b ∷ bs) none, other), is)
fault_only (b ∷ bs) line fault (open_string quote none is) =
    (faults.OpenString, rw (quote, rw quote at (begins_none (b ∷ bs) none)) refl, is)
fault_only (b ∷ bs) line fault (no_token p bytes to s none is) =
    elim (option_cases (meaning p bytes)) [
      | inl e ↦
          (faults.Number, rw (lexeme_only p bytes (b ∷ bs) to s, before (b ∷ bs) bytes to s.joined, e) refl, is)
      | inr w ↦ absurd (none w.0 (IfSome_at (meaning p bytes) _ w.0 w.1 (meaning_found p bytes s.spelled)))
    ]
