-- The parser of a production gives exactly what it spells: the laws, proved once for each combinator.
use Rattle.std.proofs.Common.{◌≡◌, ℕ, zero, suc, ◌<◌, ◌≤◌, ◌==◌, List, [], ◌∷◌, ◌++◌, length, Bool, true, false, ◌&&◌}
use Rattle.std.proofs.Common.{not, cond, Option, Some, None, ◌⊎◌, inl, inr, ⊎_elim, refl, sym, ap, ◌∙◌, arith}
use Rattle.std.proofs.lemmas.Bool.{and_parts, or_cases, or_parts, or_left, or_right, false_from_ne_true}
use Rattle.std.proofs.lemmas.Bool.Decides.{nat_tests}
use Rattle.std.proofs.lemmas.List.{append-nil}
use Rattle.std.proofs.lemmas.List.Folds.{list_any-append}
use Rattle.std.proofs.lemmas.Option.{IfSome_then}
use Rattle.std.proofs.lemmas.Slice.Eq.{bytes_eq-Decides}
use Rattle.std.specs.Prelude.{IfSome, Result, Ok, Err, IfOk}
use Rattle.std.specs.List.{list_all}
use Rattle.std.specs.Str.{bytes_eq}
use Rattle.list_laws.specs.Options.{option_cases, IfSome_at, IfSome_cond, IfSome_bind}
use denote.Enum.Bare.{true_same}
use Rattle.nft_lexer.specs.contracts.token.Punctuator.{the_type}
use Rattle.nft_lexer.specs.declared.token.Punctuator.{Punctuator}
use Rattle.nft_lexer.specs.declared.token.Token.{Token}
use Rattle.nft_lexer.specs.Terminal as terminals
use Rattle.nft_lexer.specs.Terminal.{Terminal}
use Rattle.token_reader.specs.Repeats.{Many, EndsCounted}
use Rattle.token_reader.specs.Readers.{IsRead, Reads, remaining}
use Rattle.token_reader.specs.Grammar as grammars
use Rattle.token_reader.specs.Grammar.{Separated, Lookahead, line, this_punctuator, this_word, any_word, any_number, any_address, any_string}
use Rattle.token_reader.specs.Grammar.{matches_lookahead, begins_with, end_lookaheads, Grammar, grammar_of, ◌⨾◌, ◌▹◌, ◌◃◌, ◌∣◌, when}
use Rattle.token_reader.specs.steps.Lookaheads.{punctuator_tag}
use Rattle.token_reader.specs.steps.Parser as parser
use Rattle.token_reader.specs.steps.Reading.{after_word, after_punctuator, after_ends, many_at, with_front}
use Rattle.token_reader.specs.steps.Laws.{else_found, Finds, Takes, many_at-none, many_at-some, reader_found, reader_only}
use Rattle.token_reader.specs.steps.TokenLaws.{same_punctuator, word_after, punctuator_after, word_found, number_found, address_found, string_found}
use Rattle.token_reader.specs.steps.TokenLaws.{ends_found, some_ends_found, no_end, end_only, ends_takes, ends_only}

-- ---- lookahead

-- No token is in both sets.
abbrev pub is_apart : Lookahead → Lookahead → Bool
is_apart line line = false
is_apart (this_punctuator m) (this_punctuator n) = not (punctuator_tag m == punctuator_tag n)
is_apart (this_word v) (this_word w) = not (bytes_eq v w)
is_apart (this_word v) any_word = false
is_apart any_word (this_word w) = false
is_apart any_word any_word = false
is_apart any_number any_number = false
is_apart any_address any_address = false
is_apart any_string any_string = false
is_apart f g = true

abbrev pub are_apart : List Lookahead → List Lookahead → Bool
are_apart fs gs = list_all (λ f. list_all (is_apart f) gs) fs

other_word : (x v w : List ℕ) → not (bytes_eq v w) ≡ true → bytes_eq x w ≡ true → bytes_eq x v ≡ false
other_word x v w apart e = false_from_ne_true _ (λ is. cc ((bytes_eq-Decides x v).0 is))

other_punctuator : (k m n : ℕ) → not (m == n) ≡ true → k == n ≡ true → k == m ≡ false
other_punctuator k m n apart e = grind (arith, nat_tests)

-- Clauses for sets of one kind, so that the last one is checked at each pair of kinds and each kind of token.
front_apart : (f g : Lookahead) (ts : List Terminal) → is_apart f g ≡ true → matches_lookahead ts g ≡ true
    → matches_lookahead ts f ≡ false
front_apart line line ts apart e = absurd cc
front_apart (this_punctuator m) (this_punctuator n) (terminals.punctuator k ∷ ts) apart e = other_punctuator _ _ _ apart e
front_apart (this_word v) (this_word w) (terminals.word x ∷ ts) apart e = other_word x v w apart e
front_apart any_word any_word ts apart e = absurd cc
front_apart any_number any_number ts apart e = absurd cc
front_apart any_address any_address ts apart e = absurd cc
front_apart any_string any_string ts apart e = absurd cc
front_apart f g (terminals.newline ∷ ts) apart e = cc
front_apart f g ts apart e = cc

none_of : (f : Lookahead) (gs : List Lookahead) (ts : List Terminal) → list_all (is_apart f) gs ≡ true
    → begins_with gs ts ≡ true → matches_lookahead ts f ≡ false
none_of f [] ts apart e = absurd cc
none_of f (g ∷ gs) ts apart e =
    let parts = and_parts (is_apart f g) (list_all (is_apart f) gs) apart in
    ⊎_elim (front_apart f g ts parts.0) (none_of f gs ts parts.1) (or_cases (matches_lookahead ts g) _ e)

pub begins_with_apart : (fs gs : List Lookahead) (ts : List Terminal) → are_apart fs gs ≡ true
    → begins_with gs ts ≡ true → begins_with fs ts ≡ false
begins_with_apart [] gs ts apart e = refl
begins_with_apart (f ∷ fs) gs ts apart e =
    let parts = and_parts (list_all (is_apart f) gs) (are_apart fs gs) apart in
    rw (none_of f gs ts parts.0 e, begins_with_apart fs gs ts parts.1 e) refl

-- Lookahead sets and their concatenation.
module _ (fs gs : List Lookahead) (ts : List Terminal) where
  pub neither : begins_with (fs ++ gs) ts ≡ false → (begins_with fs ts ≡ false) × (begins_with gs ts ≡ false)
  neither e = or_parts _ _ (sym (list_any-append (matches_lookahead ts) fs gs) ∙ e)

  pub begins_with_left : begins_with fs ts ≡ true → begins_with (fs ++ gs) ts ≡ true
  begins_with_left e = list_any-append (matches_lookahead ts) fs gs ∙ or_left _ _ e

  pub begins_with_right : begins_with gs ts ≡ true → begins_with (fs ++ gs) ts ≡ true
  begins_with_right e = list_any-append (matches_lookahead ts) fs gs ∙ or_right _ _ e

-- ---- laws

-- A nonempty spelling starts with a token of FIRST; otherwise the spelling is empty.
abbrev pub Starts : List Lookahead → Bool → List Terminal → List Terminal → Type 0
Starts first empty from to =
    ((length to < length from) × (begins_with first from ≡ true)) ⊎ ((from ≡ to) × (empty ≡ true))

pub record Lawful {A : Type 0} (p : Grammar A) : Type 0 where
  -- Soundness: the result is spelled.
  pub found : Finds p.spells p.read
  -- Completeness: what is spelled is the result, if the next token isn't in FOLLOW.
  pub only : (x : A) (from to : List Terminal) → p.spells x from to → begins_with p.follow to ≡ false
      → p.read from ≡ Some (x, to)
  pub front : (x : A) (from to : List Terminal) → p.spells x from to → Starts p.first p.empty from to

-- ---- single tokens

-- A token that a reader reads, and that is in the lookahead set.
one_token : {A : Type 0} (token : A → Terminal) (read : List Terminal → Option (A × List Terminal)) (f : Lookahead)
    → Finds (λ x from to. from ≡ token x ∷ to) read
    → ((x : A) (to : List Terminal) → (read (token x ∷ to) ≡ Some (x, to)) × (matches_lookahead (token x ∷ to) f ≡ true))
    → Lawful (grammar_of (λ x from to. from ≡ token x ∷ to) (parser.token read f))
one_token token read f found reads = record {
  found = found;
  only = λ x from to s none. rw s (reads x to).0;
  front = λ x from to s. inl (omega (arith, ap length s), rw (s, (reads x to).1) refl);
}

pub lawful_keyword : (w : List ℕ) → Lawful (grammars.keyword w)
lawful_keyword w = one_token (λ u. terminals.word w) _ _
    (λ ts. IfSome_bind _ (after_word w ts) _ (word_after w ts) (λ a e. e))
    (λ x to. let same = (bytes_eq-Decides w w).1 refl in (rw same refl, same))

pub lawful_punctuation : (m : Punctuator) → Lawful (grammars.punctuation m)
lawful_punctuation m = one_token (λ u. terminals.punctuator m) _ _
    (λ ts. IfSome_bind _ (after_punctuator m ts) _ (punctuator_after m ts) (λ a e. e))
    (λ x to. let same = true_same the_type m m refl in (rw same refl, same))

pub lawful_word : Lawful grammars.a_word
lawful_word = one_token terminals.word _ _ word_found (λ x to. (refl, refl))

pub lawful_number : Lawful grammars.a_number
lawful_number = one_token terminals.number _ _ number_found (λ x to. (refl, refl))

pub lawful_address : Lawful grammars.an_address
lawful_address = one_token terminals.address _ _ address_found (λ x to. (refl, refl))

pub lawful_string : Lawful grammars.a_string
lawful_string = one_token terminals.string _ _ string_found (λ x to. (refl, refl))

-- ---- consequences of the laws

none_found : {A : Type 0} (o : Option A) → IfSome o (λ x. ⊥) → o ≡ None
none_found None h = refl
none_found (Some x) h = absurd h

-- The next token doesn't continue the part.
abbrev pub Ended : {A : Type 0} → Grammar A → List Terminal → Type 0
Ended p ts = begins_with p.follow ts ≡ false

module _ {A : Type 0} (p : Grammar A) (l : Lawful p) where
  pub no_longer : (x : A) (from to : List Terminal) → p.spells x from to → length to ≤ length from
  no_longer x from to s =
      ⊎_elim (λ a. omega (arith, a.0)) (λ e. omega (arith, ap length e.0)) (l.front x from to s)

  -- Where the second part is spelled, no token continues the first.
  pub not_continued : (fs : List Lookahead) → are_apart fs p.first ≡ true → (x : A) (from to : List Terminal)
      → p.spells x from to → begins_with (when p.empty fs) to ≡ false → begins_with fs from ≡ false
  not_continued fs apart x from to s none = ⊎_elim (λ a. begins_with_apart fs p.first from apart a.1)
      (λ e. rw (e.0, sym (rw e.1 at none)) refl) (l.front x from to s)

  module _ (some : p.empty ≡ false) where
    starts : (x : A) (from to : List Terminal) → p.spells x from to
        → (length to < length from) × (begins_with p.first from ≡ true)
    starts x from to s = ⊎_elim (λ a. a) (λ e. absurd (cc (some, e.1))) (l.front x from to s)

    pub shortens : Takes p.spells
    shortens x from to s = (starts x from to s).0

    pub begins : (x : A) (from to : List Terminal) → p.spells x from to → begins_with p.first from ≡ true
    begins x from to s = (starts x from to s).1

    -- Without a token of FIRST, the parser gives none.
    pub unread : (ts : List Terminal) → begins_with p.first ts ≡ false → p.read ts ≡ None
    unread ts none = none_found _ (IfSome_then (p.read ts) (l.found ts)
        (λ x ex. absurd (cc (none, begins x.0 ts x.1 ex))))

-- ---- combinators

starts_then : (first second : Bool) (fs gs : List Lookahead) (from mid to : List Terminal)
    → Starts fs first from mid → Starts gs second mid to → Starts (fs ++ when first gs) (cond first second false) from to
starts_then first second fs gs from mid to (inl a) b = inl (
  ⊎_elim (λ c. omega (arith, a.0, c.0)) (λ c. omega (arith, a.0, ap length c.0)) b,
  begins_with_left fs (when first gs) from a.1,
)
starts_then first second fs gs from mid to (inr a) (inl b) =
    inl (omega (arith, ap length a.0, b.0), rw (a.1, a.0) (begins_with_right fs gs mid b.1))
starts_then first second fs gs from mid to (inr a) (inr b) = inr (a.0 ∙ b.0, rw (a.1, b.1) refl)

-- What is spelled one after the other is read one after the other.
both_read : {A B : Type 0} {p : Grammar A} {q : Grammar B} → Lawful p → Lawful q
    → are_apart p.follow q.first ≡ true → (x : A) (y : B) (from mid to : List Terminal) → p.spells x from mid
    → q.spells y mid to → begins_with (q.follow ++ when q.empty p.follow) to ≡ false
    → (p.read from ≡ Some (x, mid)) × (q.read mid ≡ Some (y, to))
both_read {p = p} {q = q} lp lq apart x y from mid to ex ey none =
    let rests = neither q.follow (when q.empty p.follow) to none in
    (lp.only x from mid ex (not_continued q lq p.follow apart y mid to ey rests.1), lq.only y mid to ey rests.0)

pub lawful_then : {A B : Type 0} {p : Grammar A} {q : Grammar B} → Lawful p → Lawful q
    → are_apart p.follow q.first ≡ true → Lawful (p ⨾ q)
lawful_then {p = p} {q = q} lp lq apart = record {
  found = λ ts. IfSome_bind _ (p.read ts) _ (lp.found ts)
      (λ x ex. IfSome_bind _ (q.read x.1) _ (lq.found x.1) (λ y ey. (x.1, ex, ey)));
  only = λ x from to s none. let e = both_read lp lq apart x.0 x.1 from s.0 to s.1 s.2 none in rw (e.0, e.1) refl;
  front = λ x from to s. starts_then _ _ _ _ from s.0 to (lp.front x.0 from s.0 s.1) (lq.front x.1 s.0 to s.2);
}

pub lawful_after : {B : Type 0} {p : Grammar Unit} {q : Grammar B} → Lawful p → Lawful q
    → are_apart p.follow q.first ≡ true → Lawful (p ▹ q)
lawful_after {p = p} {q = q} lp lq apart = record {
  found = λ ts. IfSome_bind _ (p.read ts) _ (lp.found ts)
      (λ x ex. IfSome_then (q.read x.1) (lq.found x.1) (λ y ey. (x.1, ex, ey)));
  only = λ y from to s none. let e = both_read lp lq apart tt y from s.0 to s.1 s.2 none in rw e.0 e.1;
  front = λ y from to s. starts_then _ _ _ _ from s.0 to (lp.front tt from s.0 s.1) (lq.front y s.0 to s.2);
}

pub lawful_before : {A : Type 0} {p : Grammar A} {q : Grammar Unit} → Lawful p → Lawful q
    → are_apart p.follow q.first ≡ true → Lawful (p ◃ q)
lawful_before {p = p} {q = q} lp lq apart = record {
  found = λ ts. IfSome_bind _ (p.read ts) _ (lp.found ts)
      (λ x ex. IfSome_bind _ (q.read x.1) _ (lq.found x.1) (λ y ey. (x.1, ex, ey)));
  only = λ x from to s none. let e = both_read lp lq apart x tt from s.0 to s.1 s.2 none in rw (e.0, e.1) refl;
  front = λ x from to s. starts_then _ _ _ _ from s.0 to (lp.front x from s.0 s.1) (lq.front tt s.0 to s.2);
}

-- Alternatives of which no tokens begin with both: the first is tried first.
pub lawful_first : {A : Type 0} {p q : Grammar A} → Lawful p → Lawful q → p.empty ≡ false
    → ((x y : A) (from to mid : List Terminal) → q.spells x from to
    → begins_with (q.follow ++ when q.empty p.first) to ≡ false → p.spells y from mid → ⊥)
    → Lawful (p ∣ q)
lawful_first {p = p} {q = q} lp lq some apart = record {
  found = λ ts. else_found _ (p.read ts) _ _ (lp.found ts) (λ x ex. inl ex)
      (IfSome_then (q.read ts) (lq.found ts) (λ x ex. inr ex));
  only = λ x from to s none.
      let rests = neither p.follow (q.follow ++ when q.empty p.first) to none in
      elim s [
        | inl a ↦ rw (lp.only x from to a rests.0) refl
        | inr b ↦ rw (
          none_found _ (IfSome_then (p.read from) (lp.found from) (λ y ey. apart x y.0 from to y.1 b rests.1 ey)),
          lq.only x from to b (neither q.follow (when q.empty p.first) to rests.1).0,
        ) refl
      ];
  front = λ x from to s. ⊎_elim
      (λ a. let starts = starts p lp some x from to a in inl (starts.0, begins_with_left p.first q.first from starts.1))
      (λ b. ⊎_elim (λ c. inl (c.0, begins_with_right p.first q.first from c.1)) (λ c. inr c) (lq.front x from to b)) s;
}

-- Alternatives that differ in their first token.
pub lawful_either : {A : Type 0} {p q : Grammar A} → Lawful p → Lawful q → p.empty ≡ false
    → are_apart p.first q.first ≡ true → Lawful (p ∣ q)
lawful_either {p = p} {q = q} lp lq some apart = lawful_first lp lq some (λ x y from to mid other none s.
    let absent = not_continued q lq p.first apart x from to other (neither q.follow (when q.empty p.first) to none).1 in
    absurd (cc (absent, begins p lp some y from mid s)))

-- An option is what it holds.
pub known : {A : Type 0} (o : Option A) → IfSome o (λ x. o ≡ Some x)
known None = tt
known (Some x) = refl

pub lawful_made : {A B : Type 0} (f : A → B) {p : Grammar A} → Lawful p → Lawful (grammars.made f p)
lawful_made f {p = p} l = record {
  found = λ ts. IfSome_bind _ (p.read ts) _ (l.found ts) (λ x ex. (x.0, refl, ex));
  only = λ y from to s none. rw (l.only s.0 from to s.2 none, s.1) refl;
  front = λ y from to s. l.front s.0 from to s.2;
}

pub lawful_named : {A B : Type 0} (f : A → Option B) {p : Grammar A} → Lawful p → Lawful (grammars.named f p)
lawful_named f {p = p} l = record {
  found = λ ts. IfSome_bind _ (p.read ts) _ (l.found ts)
      (λ x ex. IfSome_bind _ (f x.0) _ (known (f x.0)) (λ y ey. (x.0, ey, ex)));
  only = λ y from to s none. rw (l.only s.0 from to s.2 none, s.1) refl;
  front = λ y from to s. l.front s.0 from to s.2;
}

pub lawful_passing : {A : Type 0} (test : A → Bool) {p : Grammar A} → Lawful p
    → Lawful (grammars.passing test p)
lawful_passing test {p = p} l = record {
  found = λ ts. IfSome_bind _ (p.read ts) _ (l.found ts) (λ x ex. IfSome_cond _ (test x.0) x (λ e. (ex, e)));
  only = λ x from to s none. rw (l.only x from to s.0 none, s.1) refl;
  front = λ x from to s. l.front x from to s.0;
}

-- No two rows have the same word.
abbrev pub distinct : {A : Type 0} → List (List ℕ × A) → Bool
distinct [] = true
distinct (row ∷ rows) = list_all (λ other. not (bytes_eq row.0 other.0)) rows && distinct rows

rows_apart : {A : Type 0} (w : List ℕ) (rows : List (List ℕ × A))
    → list_all (λ other. not (bytes_eq w other.0)) rows ≡ true
    → list_all (is_apart (this_word w)) (grammars.one_of rows).first ≡ true
rows_apart w [] e = refl
rows_apart w (row ∷ rows) e =
    let parts = and_parts (not (bytes_eq w row.0)) _ e in rw (parts.0, rows_apart w rows parts.1) refl

pub lawful_one_of : {A : Type 0} (rows : List (List ℕ × A)) → distinct rows ≡ true
    → Lawful (grammars.one_of rows)
lawful_one_of [] e = record {
  found = λ ts. tt;
  only = λ x from to s none. absurd s;
  front = λ x from to s. absurd s;
}
lawful_one_of (row ∷ rows) e =
    let parts = and_parts (list_all (λ other. not (bytes_eq row.0 other.0)) rows) (distinct rows) e in
    lawful_either (lawful_made (λ u. row.1) (lawful_keyword row.0)) (lawful_one_of rows parts.1) refl
    (rw (rows_apart row.0 rows parts.0) refl)

-- ---- repetition

module _ {A : Type 0} (p : Grammar A) (l : Lawful p) (some : p.empty ≡ false) where
  maybe_laws : (o : Option A) (from to : List Terminal) → (grammars.maybe p).spells o from to
      → (begins_with (p.follow ++ p.first) to ≡ false → (grammars.maybe p).read from ≡ Some (o, to))
      × Starts p.first true from to
  maybe_laws None from to s =
      (λ none. rw (s, unread p l some to (neither p.follow p.first to none).1) refl, inr (s, refl))
  maybe_laws (Some x) from to s =
      (λ none. rw (l.only x from to s (neither p.follow p.first to none).0) refl, inl (starts p l some x from to s))

  many_found : (n : ℕ) (ts : List Terminal) → Many p.spells (many_at p.read n ts).0 ts (many_at p.read n ts).1
  unfolding many_at
  many_found zero ts = refl
  many_found (suc n) ts = elim (option_cases (p.read ts)) [
    | inl e ↦ rw e refl
    | inr w ↦ rw w.1 (w.0.1, IfSome_at (p.read ts) (λ x. p.spells x.0 ts x.1) w.0 w.1 (l.found ts), many_found n w.0.1)
  ]

  many_starts : (xs : List A) (from to : List Terminal) → Many p.spells xs from to → Starts p.first true from to
  many_starts [] from to s = inr (s, refl)
  many_starts (x ∷ xs) from to s =
      let first = starts p l some x from s.0 s.1 in
      inl (⊎_elim (λ a. omega (arith, a.0, first.0)) (λ e. omega (arith, ap length e.0, first.0)) (many_starts xs s.0 to s.2), first.1)

  module _ (apart : are_apart p.follow p.first ≡ true) where
    many_ended : (xs : List A) (from to : List Terminal) → Many p.spells xs from to → Ended p to → Ended p from
    many_ended [] from to s ended = rw s ended
    many_ended (x ∷ xs) from to s ended = begins_with_apart p.follow p.first from apart (begins p l some x from s.0 s.1)

    many_only : (n : ℕ) (xs : List A) (from to : List Terminal) → Many p.spells xs from to → Ended p to
        → p.read to ≡ None → length from ≤ n → many_at p.read n from ≡ (xs, to)
    many_only n [] from to s ended none le = rw s (many_at-none p.read n to none)
    many_only zero (x ∷ xs) from to s ended none le = absurd (omega (arith, shortens p l some x from s.0 s.1))
    many_only (suc n) (x ∷ xs) from to s ended none le =
        let less = shortens p l some x from s.0 s.1 in
        many_at-some p.read n from (x, s.0) (l.only x from s.0 s.1 (many_ended xs s.0 to s.2 ended))
        ∙ ap (with_front (x ∷ [])) (many_only n xs s.0 to s.2 ended none (omega (arith, less)))

pub lawful_maybe : {A : Type 0} {p : Grammar A} → Lawful p → p.empty ≡ false → Lawful (grammars.maybe p)
lawful_maybe {p = p} l some = record {
  found = λ ts. else_found _ (p.read ts) _ _ (l.found ts) (λ x ex. ex) refl;
  only = λ o from to s. (maybe_laws p l some o from to s).0;
  front = λ o from to s. (maybe_laws p l some o from to s).1;
}

pub lawful_many : {A : Type 0} {p : Grammar A} → Lawful p → p.empty ≡ false
    → are_apart p.follow p.first ≡ true → Lawful (grammars.many p)
lawful_many {p = p} l some apart = record {
  found = λ ts. many_found p l some (length ts) ts;
  only = λ xs from to s none.
      let rests = neither p.follow p.first to none in
      ap Some (many_only p l some apart (length from) xs from to s rests.0 (unread p l some to rests.1) (omega arith));
  front = many_starts p l some;
}

-- ---- ends

lawful_ends_starts : (n : ℕ) (from to : List Terminal) → EndsCounted n from to → Starts end_lookaheads true from to
lawful_ends_starts zero from to s = inr (s, refl)
lawful_ends_starts (suc n) from to s =
    let e = end_only from s.0 s.1 in inl (omega (arith, e.2, ends_takes n s.0 to s.2), e.3)

pub lawful_ends : Lawful grammars.ends
lawful_ends = record {
  found = ends_found;
  only = λ x from to s none. rw (ends_only s.0 from to s.1 none) refl;
  front = λ x from to s. lawful_ends_starts s.0 from to s.1;
}

pub lawful_some_ends : Lawful grammars.some_ends
lawful_some_ends = record {
  found = λ ts. IfSome_bind _ (after_ends ts) _ (some_ends_found ts) (λ a e. e);
  only = λ x from to s none. rw ((end_only from s.0 s.1).0, ends_only s.2.0 s.0 to s.2.1 none) refl;
  front = λ x from to s.
      let e = end_only from s.0 s.1 in inl (omega (arith, e.2, ends_takes s.2.0 s.0 to s.2.1), e.3);
}

-- ---- x {s x}

module _ {A : Type 0} (s : Grammar Unit) (p : Grammar A) (ls : Lawful s) (l : Lawful p)
    (separator : s.empty ≡ false) (some : p.empty ≡ false) (next : Lawful (s ▹ p))
    (behind : are_apart p.follow s.first ≡ true) where
  next_some : (s ▹ p).empty ≡ false
  next_some = rw separator refl

  next_apart : are_apart (s ▹ p).follow (s ▹ p).first ≡ true
  next_apart = rw (separator, some, append-nil s.first, append-nil p.follow) behind

  -- Soundness.
  separated_found : Finds (grammars.separated s p).spells (grammars.separated s p).read
  separated_found ts = IfSome_bind _ (p.read ts) _ (l.found ts)
      (λ x ex. (x.1, ex, many_found (s ▹ p) next next_some (length x.1) x.1))

  pub separated_only : (xs : List A) (from to : List Terminal) → Separated s p xs from to → Ended p to
      → (s ▹ p).read to ≡ None → (grammars.separated s p).read from ≡ Some (xs, to)
  separated_only [] from to e ended none = absurd e
  separated_only (x ∷ xs) from to (a, ex, more) ended none =
      let after : Ended (s ▹ p) to = rw (some, append-nil p.follow) ended in
      let before = many_ended (s ▹ p) next next_some next_apart xs a to more after in
      rw (
        l.only x from a ex (rw (some, append-nil p.follow) at before),
        many_only (s ▹ p) next next_some next_apart (length a) xs a to more after none (omega arith),
      ) refl

  separated_starts : (xs : List A) (from to : List Terminal) → Separated s p xs from to
      → (length to < length from) × (begins_with p.first from ≡ true)
  separated_starts [] from to e = absurd e
  separated_starts (x ∷ xs) from to (a, ex, more) =
      let first = starts p l some x from a ex in
      let others = no_longer (grammars.many (s ▹ p)) (lawful_many next next_some next_apart) xs a to more in
      (omega (arith, first.0, others), first.1)

pub lawful_separated : {A : Type 0} {s : Grammar Unit} {p : Grammar A} → Lawful s → Lawful p → s.empty ≡ false
    → p.empty ≡ false → are_apart s.follow p.first ≡ true → are_apart p.follow s.first ≡ true
    → Lawful (grammars.separated s p)
lawful_separated {s = s} {p = p} ls l separator some ahead behind =
    let next = lawful_after ls l ahead in
    record {
      found = separated_found s p ls l separator some next behind;
      only = λ xs from to e none.
          let rests = neither s.first p.follow to none in
          separated_only s p ls l separator some next behind xs from to e rests.1
          (rw (unread s ls separator to rests.0) refl);
      front = λ xs from to e. inl (separated_starts s p ls l separator some next behind xs from to e);
    }

-- ---- x {end {end} x} {end}

module _ {A : Type 0} (p : Grammar A) (l : Lawful p) (some : p.empty ≡ false) (to : List Terminal) where
  -- After ends that nothing continues, no further part is read.
  no_more : (n : ℕ) (from : List Terminal) → EndsCounted n from to → begins_with end_lookaheads to ≡ false
      → begins_with p.first to ≡ false → (grammars.some_ends ▹ p).read from ≡ None
  no_more zero from s none no_part = rw (s, (no_end to none).1) refl
  no_more (suc n) from s none no_part =
      rw (lawful_some_ends.only tt from to (s.0, s.1, (n, s.2)) none, unread p l some to no_part) refl

  ended_at : (n : ℕ) (from : List Terminal) → are_apart p.follow end_lookaheads ≡ true → EndsCounted n from to
      → Ended p to → Ended p from
  ended_at zero from apart s none = rw s none
  ended_at (suc n) from apart s none = begins_with_apart p.follow end_lookaheads from apart (end_only from s.0 s.1).3

pub lawful_lines : {A : Type 0} {p : Grammar A} → Lawful p → p.empty ≡ false
    → are_apart end_lookaheads p.first ≡ true → are_apart p.follow end_lookaheads ≡ true → Lawful (grammars.lines p)
lawful_lines {p = p} l some ahead behind =
    let next = lawful_after lawful_some_ends l ahead in
    record {
      found = λ ts. IfSome_bind _ ((grammars.separated grammars.some_ends p).read ts) _
          (separated_found grammars.some_ends p lawful_some_ends l refl some next behind ts)
          (λ xs e. (xs.1, e, ends_found xs.1));
      only = λ xs from to (a, e, (n, closed)) none.
          let rests = neither end_lookaheads (p.first ++ p.follow) to none in
          let others = neither p.first p.follow to rests.1 in
          rw (
            separated_only grammars.some_ends p lawful_some_ends l refl some next behind xs from a e
                (ended_at p l some to n a behind closed others.1) (no_more p l some to n a closed rests.0 others.0),
            ends_only n a to closed rests.0,
          ) refl;
      front = λ xs from to (a, e, (n, closed)).
          let first = separated_starts grammars.some_ends p lawful_some_ends l refl some next behind xs from a e in
          inl (omega (arith, first.0, ends_takes n a to closed), first.1);
    }

-- ---- the answers of parsing functions

-- The first token isn't this one.
pub no_word : (w : List ℕ) (ts : List Terminal) → ((rest : List Terminal) → ts ≡ terminals.word w ∷ rest → ⊥)
    → matches_lookahead ts (this_word w) ≡ false
no_word w (terminals.word v ∷ ts) none = false_from_ne_true _
    (λ e. none ts (ap (λ (x : List ℕ). terminals.word x ∷ ts) ((bytes_eq-Decides v w).0 e)))
no_word w ts none = refl

pub no_punctuator : (m : Punctuator) (ts : List Terminal)
    → ((rest : List Terminal) → ts ≡ terminals.punctuator m ∷ rest → ⊥)
    → matches_lookahead ts (this_punctuator m) ≡ false
no_punctuator m (terminals.punctuator n ∷ ts) none = false_from_ne_true _
    (λ e. none ts (ap (λ (x : Punctuator). terminals.punctuator x ∷ ts) (same_punctuator n m e)))
no_punctuator m ts none = refl

pub reads_from : {X A : Type 0} {p : Grammar A} → Lawful p → (Behind : List Terminal → Type 0)
    → ((ts : List Terminal) → Behind ts → begins_with p.follow ts ≡ false)
    → (view : X → A) (tokens : List Token) (at : ℕ) (o : Option (X × ℕ)) → IsRead view p.read tokens at o
    → Reads p Behind view tokens at o
reads_from {p = p} l Behind ended view tokens at o e = record {
  found = reader_found p.spells view (remaining tokens) p.read (remaining tokens at) o e.0 l.found;
  only = λ a to s behind. reader_only view (remaining tokens) p.read (remaining tokens at) o e.0 a to
      (l.only a (remaining tokens at) to s (ended to behind));
}

pub taking_reads : {X A E : Type 0} {p : Grammar A} → Lawful p → (Behind : List Terminal → Type 0)
    → ((ts : List Terminal) → Behind ts → begins_with p.follow ts ≡ false)
    → (view : X → A) (tokens : List Token) (at : ℕ) (r : Result (Option (X × ℕ)) E)
    → IfOk r (IsRead view p.read tokens at) → IfOk r (Reads p Behind view tokens at)
taking_reads l Behind ended view tokens at (Ok o) e = reads_from l Behind ended view tokens at o e
taking_reads l Behind ended view tokens at (Err error) e = tt
