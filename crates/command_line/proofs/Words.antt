-- What a word of a command line is, one pass over the words of a subcommand, which takes for operands what clap
-- takes (`scan`), and that it finds what the definitions of the command line say.
use Rattle.std.proofs.Common.{◌&&◌, ◌==◌, ◌||◌, ◌∙◌, ◌∷◌, ◌≡◌, [], ℕ, Bool, List, None, Option, Some, ap, arith, codes, cond, eqb-true, false}
use Rattle.std.proofs.Common.{is_some, length, not, refl, sym, true, true≢false, option_and_then, slice_get, IsUtf8, bytes_eq, chars, encode_utf8_all}
use Rattle.std.specs.Option.{option_map_or}
use Rattle.std.specs.List.{before_first}
use Rattle.std.proofs.lemmas.Option.{option_and_then_some}
use Rattle.std.proofs.lemmas.Slice.Eq.{bytes_eq-Decides}
use Rattle.std.proofs.lemmas.Str.{chars_past_char, encodes-chars}
use Rattle.std.proofs.lemmas.List.Folds.{list_any_at}
use Rattle.clap.specs.Lexer.{has_byte, long_of, long_of_rest, short_of, strip_byte}
use Rattle.clap.specs.Walk.{Text}
use Rattle.clap.proofs.CutLemmas.{before_first-Lacks}
use Rattle.command_line.specs.CommandLine.{as_option, is_plain_word, option_named, AreTexts, are_operands, are_plain, file_given, has_flag, names_file}
use Rattle.command_line.specs.CommandLine.{operands, without_file, without_flag}

-- ---- the pass

-- where a word stands: before any `--`, after one, or behind the option that names a file
pub data Place : Type 0 where
  before : Place
  after : Place
  naming : Place

-- no short flag begins in the word
abbrev pub has_no_short : Option Text → Bool
has_no_short flags = option_map_or (λ fs. not (is_some (slice_get (chars fs) 0))) flags true

-- clap takes the word for an operand
abbrev pub is_taken : Text → Bool
is_taken word = not (bytes_eq word (codes "--")) && (not (is_some (long_of word)) && has_no_short (short_of word))

-- the word of this long name is the flag
abbrev pub is_flag : Text → Option (Text × Option Text) → Bool
is_flag flag None = false
is_flag flag (Some q) = bytes_eq q.0 flag && not (is_some q.1)

-- the word is one of these flags
abbrev pub is_open : List Text → Text → Bool
is_open [] word = false
is_open (flag ∷ free) word = bytes_eq word (45 ∷ 45 ∷ flag) || is_open free word

-- the flags without the one that the word is
abbrev pub closed : Text → List Text → List Text
closed word [] = []
closed word (flag ∷ free) = cond (bytes_eq word (45 ∷ 45 ∷ flag)) free (flag ∷ closed word free)

-- the paths by their ids, the last first; the flags that weren't met; and the option's file
abbrev pub Pairs : Type 0
Pairs = List (Text × Text)

abbrev pub Seen : Type 0
Seen = Pairs × List Text × Option Text

-- what the words after one give, by the place, the paths so far, the ids of those that are left, the flags
-- that may come, and the option's file
abbrev pub Later : Type 0
Later = Place → Pairs → List Text → List Text → Option Text → Option Seen

abbrev pub operand_met : Text → Place → Pairs → List Text → List Text → Option Text → Later → Option Seen
operand_met word place done [] free file later = None
operand_met word place done (id ∷ left) free file later = later place ((id, word) ∷ done) left free file

-- a word before any `--`, by whether it is `--`, a flag that may come, the option with any FILE in the
-- same word, an operand
abbrev pub word_met : Bool → Bool → Option (Option Text) → Bool → Text → Pairs → List Text → List Text → Option Text → Later → Option Seen
word_met true flagged option plain word done left free file later = later after done left free file
word_met false true option plain word done left free file later = later before done left (closed word free) file
word_met false false (Some v) plain word done left free file later =
    cond (is_some file) None (later (cond (is_some v) before naming) done left free v)
word_met false false None true word done left free file later = operand_met word before done left free file later
word_met d f r a word done left free file later = None

-- the later words may be read either way
met_same : (d f : Bool) (r : Option (Option Text)) (a : Bool) (word : Text) (done : Pairs) (left free : List Text) (file : Option Text)
    (later other : Later) → ((p : Place) (done : Pairs) (left : List Text) (file : Option Text) → later p done left free file ≡ other p done left free file)
    → ((p : Place) (done : Pairs) (left : List Text) (file : Option Text) → later p done left (closed word free) file ≡ other p done left (closed word free) file)
    → word_met d f r a word done left free file later ≡ word_met d f r a word done left free file other
met_same true f r a word done left free file later other same less = same after done left file
met_same false true r a word done left free file later other same less = less before done left file
met_same false false (Some v) a word done left free None later other same less = same (cond (is_some v) before naming) done left v
met_same false false (Some v) a word done left free (Some g) later other same less = refl
met_same false false None true word done [] free file later other same less = refl
met_same false false None true word done (id ∷ left) free file later other same less = same before ((id, word) ∷ done) left file
met_same false false None false word done left free file later other same less = refl

abbrev pub at_end : Pairs → List Text → List Text → Option Text → Option Seen
at_end done [] free file = Some (done, free, file)
at_end done (id ∷ left) free file = None

-- the words, where the option of this name has a file, and those that pass the test are operands
module _ (opt : Text) (is_operand : Text → Bool) where
  abbrev pub scan : List Text → Place → Pairs → List Text → List Text → Option Text → Option Seen
  scan [] naming done left free file = None
  scan [] place done left free file = at_end done left free file
  scan (word ∷ rest) before done left free file = word_met (bytes_eq word (codes "--")) (is_open free word)
      (as_option opt word) (is_operand word) word done left free file (scan rest)
  scan (word ∷ rest) after done left free file = operand_met word after done left free file (scan rest)
  scan (word ∷ rest) naming done left free file = cond (is_operand word) (scan rest before done left free (Some word)) None

-- ---- a flag, by its text

lacks_all : (xs : Text) → has_byte 61 xs ≡ false → before_first (λ x. x == 61) xs ≡ xs
lacks_all xs lacks = grind (arith, before_first-Lacks 61 xs, list_any_at (λ x. x == 61) xs)

named : (rest name : Text) → long_of_rest rest ≡ Some (name, None) → rest ≡ name
named rest name e = grind (arith, lacks_all rest)

-- what follows a hyphen
stripped : (word rest : Text) → strip_byte 45 word ≡ Some rest → word ≡ 45 ∷ rest
stripped word rest e = grind (arith, eqb-true)

pub long_text : (word name : Text) → long_of word ≡ Some (name, None) → word ≡ 45 ∷ 45 ∷ name
long_text word name e =
    option_and_then_some long_of_rest (option_and_then (strip_byte 45) (strip_byte 45 word)) (name, None) e (λ rest two is.
    option_and_then_some (strip_byte 45) (strip_byte 45 word) rest two (λ one first second.
    stripped word one first ∙ ap (λ (t : Text). 45 ∷ t) (stripped one rest second ∙ ap (λ (t : Text). 45 ∷ t) (named rest name is))))

-- ---- a word that clap takes for an operand

pub plain_taken : (word : Text) → is_plain_word word ≡ true → is_taken word ≡ true
plain_taken word e = grind arith

pub none_of : {A : Type 0} (o : Option A) → not (is_some o) ≡ true → o ≡ None
none_of o e = grind arith

pub taken_bare : (word : Text) → is_taken word ≡ true → long_of word ≡ None
taken_bare word e = grind arith

pub plain_bare : (word : Text) → is_plain_word word ≡ true → long_of word ≡ None
plain_bare word e = grind arith

-- what stands behind a hyphen begins with a character
no_first : (cs : List ℕ) → not (is_some (slice_get cs 0)) ≡ true → cs ≡ []
no_first [] e = refl
no_first (c ∷ cs) e = grind arith

character_behind : (x : ℕ) (rest : Text) → IsUtf8 (45 ∷ x ∷ rest)
    → not (is_some (slice_get (chars (x ∷ rest)) 0)) ≡ true → ⊥
unfolding lib.Utf8.encode
character_behind x rest utf8 e =
    let all : chars (45 ∷ x ∷ rest) ≡ 45 ∷ chars (x ∷ rest) = chars_past_char (45 ∷ x ∷ rest) (x ∷ rest) 45 utf8 refl in
    let same : encode_utf8_all (45 ∷ []) ≡ 45 ∷ x ∷ rest =
    sym (ap encode_utf8_all (all ∙ ap (λ cs. 45 ∷ cs) (no_first (chars (x ∷ rest)) e))) ∙ encodes-chars (45 ∷ x ∷ rest) utf8 in
    absurd (omega (arith, ap length same))

-- `--` is itself, and a word with more behind two hyphens has a long name
no_double : (rest : Text) → (not (bytes_eq rest []) && (not (is_some (long_of_rest rest)) && true)) ≡ false
no_double rest = grind arith

-- of texts clap takes the plain ones for operands
pub taken_plain : (word : Text) → IsUtf8 word → is_taken word ≡ is_plain_word word
taken_plain [] utf8 = refl
taken_plain (c ∷ []) utf8 = plain_taken (c ∷ []) refl
taken_plain (c ∷ x ∷ rest) utf8 = grind (arith, no_double rest, character_behind x rest, eqb-true)

-- ---- an option is no operand, and a flag has no file

abbrev pub Apart : Bool → Option (Option Text) → Bool → Type 0
Apart flagged option plain = (not ((is_some option || plain) && flagged) && not (is_some option && plain)) ≡ true

apart_names : (f r : Bool) (v : Option Text) → (f ≡ true → r ≡ false) → Apart (f && not (is_some v)) (cond r (Some v) None) false
apart_names f r v apart = grind (arith, apart)

-- ---- the flags that may come

-- each is a long option of its own, and none is the option that names a file
abbrev pub AreFlags : Text → List Text → Type 0
AreFlags opt [] = Unit {0}
AreFlags opt (flag ∷ free) = (long_of (45 ∷ 45 ∷ flag) ≡ Some (flag, None)) × (bytes_eq opt flag ≡ false)
    × (is_open free (45 ∷ 45 ∷ flag) ≡ false) × AreFlags opt free

-- the flag is one of these
abbrev pub is_in : List Text → Text → Bool
is_in free name = is_open free (45 ∷ 45 ∷ name)

abbrev pub is_flag_in : List Text → Option (Text × Option Text) → Bool
is_flag_in free None = false
is_flag_in free (Some q) = is_in free q.0 && not (is_some q.1)

flag_is : (flag : Text) → long_of (45 ∷ 45 ∷ flag) ≡ Some (flag, None) → (word : Text) → bytes_eq word (45 ∷ 45 ∷ flag) ≡ is_flag flag (long_of word)
flag_is flag long word = grind (arith, long, long_text word, bytes_eq-Decides word (45 ∷ 45 ∷ flag), λ (x : Text). bytes_eq-Decides x flag)

flag_or : (flag : Text) (free : List Text) (o : Option (Text × Option Text))
    → (is_flag flag o || is_flag_in free o) ≡ is_flag_in (flag ∷ free) o
flag_or flag free None = refl
flag_or flag free (Some q) = grind arith

pub flag_word : (opt : Text) (free : List Text) → AreFlags opt free → (word : Text) → is_open free word ≡ is_flag_in free (long_of word)
flag_word opt [] are word = none (long_of word)
  where
    none : (o : Option (Text × Option Text)) → false ≡ is_flag_in [] o
    none None = refl
    none (Some q) = refl
flag_word opt (flag ∷ free) are word =
    (λ j. flag_is flag are.0 word j || flag_word opt free are.3 word j) ∙ flag_or flag free (long_of word)

-- the option that names a file is no flag
pub not_flag : (opt : Text) (free : List Text) → AreFlags opt free → is_in free opt ≡ false
not_flag opt [] are = refl
not_flag opt (flag ∷ free) are = grind (arith, are, not_flag opt free are.3)

-- what is closed stays so
pub fewer : (word name : Text) (free : List Text) → is_in free name ≡ false → is_in (closed word free) name ≡ false
fewer word name [] e = refl
fewer word name (flag ∷ free) e = grind (arith, fewer word name free, e)

pub are_closed : (opt word : Text) (free : List Text) → AreFlags opt free → AreFlags opt (closed word free)
are_closed opt word [] are = tt
are_closed opt word (flag ∷ free) are = go (bytes_eq word (45 ∷ 45 ∷ flag)) (are_closed opt word free are.3)
  where
    go : (b : Bool) → AreFlags opt (closed word free) → AreFlags opt (cond b free (flag ∷ closed word free))
    go true later = are.3
    go false later = (are.0, are.1, fewer word flag free are.2, later)

-- the flag that is met is closed, and no other
pub closes : (opt name : Text) (free : List Text) → AreFlags opt free → is_in (closed (45 ∷ 45 ∷ name) free) name ≡ false
closes opt name [] are = refl
closes opt name (flag ∷ free) are = go (bytes_eq name flag) refl (closes opt name free are.3)
  where
    go : (b : Bool) → bytes_eq name flag ≡ b → is_in (closed (45 ∷ 45 ∷ name) free) name ≡ false
        → is_in (cond b free (flag ∷ closed (45 ∷ 45 ∷ name) free)) name ≡ false
    go true e later = grind (arith, bytes_eq-Decides name flag, e, are.2)
    go false e later = grind (arith, e, later)

pub keeps_open : (name other : Text) (free : List Text) → bytes_eq name other ≡ false
    → is_in (closed (45 ∷ 45 ∷ name) free) other ≡ is_in free other
keeps_open name other [] e = refl
keeps_open name other (flag ∷ free) e = go (bytes_eq name flag) refl (keeps_open name other free e)
  where
    go : (b : Bool) → bytes_eq name flag ≡ b → is_in (closed (45 ∷ 45 ∷ name) free) other ≡ is_in free other
        → is_in (cond b free (flag ∷ closed (45 ∷ 45 ∷ name) free)) other ≡ (bytes_eq other flag || is_in free other)
    go true f later = grind (arith, bytes_eq-Decides name flag, bytes_eq-Decides other flag, bytes_eq-Decides name other, e, f)
    go false f later = grind (arith, later)

pub word_apart : (opt : Text) (free : List Text) → AreFlags opt free → (is_operand : Text → Bool)
    → ((word : Text) → is_operand word ≡ true → long_of word ≡ None)
    → (word : Text) → Apart (is_open free word) (as_option opt word) (is_operand word)
word_apart opt free are is_operand bare word =
    rw (flag_word opt free are word) (go (long_of word) (is_operand word) (bare word))
  where
    go : (o : Option (Text × Option Text)) (plain : Bool) → (plain ≡ true → o ≡ None) → Apart (is_flag_in free o) (option_named opt o) plain
    go None plain none = grind arith
    go (Some q) true none = grind (arith, none)
    go (Some q) false none = apart_names _ (bytes_eq opt q.0) q.1
        (λ e. grind (arith, e, not_flag opt free are, bytes_eq-Decides opt q.0))

-- the paths with these operands
abbrev pub pairs : Pairs → List Text → List Text → Pairs
pairs done (id ∷ left) (word ∷ ops) = pairs ((id, word) ∷ done) left ops
pairs done _ _ = done

module _ (is_operand : Text → Bool) where
  abbrev pub plain_by : List Text → Bool
  plain_by [] = true
  plain_by (word ∷ rest) = cond (bytes_eq word (codes "--")) true (is_operand word && plain_by rest)

  abbrev pub name_by : Option (Option Text) → List Text → Bool → Bool
  name_by None rest later = later
  name_by (Some None) rest later = option_map_or is_operand (slice_get rest 0) false
  name_by (Some (Some file)) rest later = true

  abbrev pub names_by : Text → List Text → Bool
  names_by opt [] = true
  names_by opt (word ∷ rest) = cond (bytes_eq word (codes "--")) true (name_by (as_option opt word) rest (names_by opt rest))

-- the words without what was met before
abbrev pub without_option : Text → Option Text → List Text → List Text
without_option opt None words = without_file opt words
without_option opt (Some f) words = words

-- the words without these flags, and the flags that they don't have
abbrev pub flagless : List Text → List Text → List Text
flagless [] words = words
flagless (flag ∷ free) words = flagless free (without_flag (45 ∷ 45 ∷ flag) words)

abbrev pub open_in : List Text → List Text → List Text
open_in [] words = []
open_in (flag ∷ free) words = let later = open_in free (without_flag (45 ∷ 45 ∷ flag) words) in
    cond (has_flag (45 ∷ 45 ∷ flag) words) later (flag ∷ later)

abbrev pub words_of : Text → List Text → Option Text → List Text → List Text
words_of opt free file words = flagless free (without_option opt file words)

abbrev pub unmet : Text → List Text → Option Text → List Text → List Text
unmet opt free file words = open_in free (without_option opt file words)

abbrev pub file_of : Text → Option Text → List Text → Option Text
file_of opt None words = file_given opt words
file_of opt (Some f) words = Some f

abbrev pub seen_of : Text → Pairs → List Text → List Text → Option Text → List Text → Seen
seen_of opt done left free file words =
    (pairs done left (operands (words_of opt free file words)), unmet opt free file words, file_of opt file words)

-- ---- the flags of the words, by the first of them

past_dashes : (free : List Text) (word : Text) (rest : List Text) → bytes_eq word (codes "--") ≡ true
    → (flagless free (word ∷ rest) ≡ word ∷ rest) × (open_in free (word ∷ rest) ≡ free)
past_dashes [] word rest e = (refl, refl)
past_dashes (flag ∷ free) word rest e = grind (arith, e, past_dashes free word rest e)

past_none : (free : List Text) → (flagless free [] ≡ []) × (open_in free [] ≡ free)
past_none [] = (refl, refl)
past_none (flag ∷ free) = grind (arith, past_none free)

abbrev PastFlag : Text → List Text → List Text → Type 0
PastFlag word free rest = (flagless free (word ∷ rest) ≡ flagless (closed word free) rest)
    × (open_in free (word ∷ rest) ≡ open_in (closed word free) rest)

past_flag : (free : List Text) (word : Text) (rest : List Text) → bytes_eq word (codes "--") ≡ false → is_open free word ≡ true
    → PastFlag word free rest
past_flag [] word rest d e = absurd (true≢false (sym e))
past_flag (flag ∷ free) word rest d e =
    go (bytes_eq word (45 ∷ 45 ∷ flag)) refl (λ o. past_flag free word (without_flag (45 ∷ 45 ∷ flag) rest) d o) (λ o. past_flag free word rest d o)
  where
    go : (b : Bool) → bytes_eq word (45 ∷ 45 ∷ flag) ≡ b
        → (is_open free word ≡ true → PastFlag word free (without_flag (45 ∷ 45 ∷ flag) rest))
        → (is_open free word ≡ true → PastFlag word free rest)
        → (flagless (flag ∷ free) (word ∷ rest) ≡ flagless (cond b free (flag ∷ closed word free)) rest)
        × (open_in (flag ∷ free) (word ∷ rest) ≡ open_in (cond b free (flag ∷ closed word free)) rest)
    go true f without with_it = grind (arith, d, f)
    go false f without with_it = grind (arith, d, e, f, without, with_it)

past_other : (free : List Text) (word : Text) (rest : List Text) → bytes_eq word (codes "--") ≡ false → is_open free word ≡ false
    → (flagless free (word ∷ rest) ≡ word ∷ flagless free rest) × (open_in free (word ∷ rest) ≡ open_in free rest)
past_other [] word rest d e = (refl, refl)
past_other (flag ∷ free) word rest d e =
    grind (arith, d, e, past_other free word (without_flag (45 ∷ 45 ∷ flag) rest) d, past_other free word rest d)

-- ---- which flags are met

has_other : (flag other : Text) → bytes_eq flag other ≡ false → (words : List Text)
    → has_flag (45 ∷ 45 ∷ flag) (without_flag (45 ∷ 45 ∷ other) words) ≡ has_flag (45 ∷ 45 ∷ flag) words
has_other flag other e [] = refl
has_other flag other e (word ∷ rest) =
    grind (
      arith,
      e,
      has_other flag other e rest,
      bytes_eq-Decides word (45 ∷ 45 ∷ other),
      bytes_eq-Decides word (45 ∷ 45 ∷ flag),
      bytes_eq-Decides flag other,
    )

never_open : (name : Text) (free words : List Text) → is_in free name ≡ false → is_in (open_in free words) name ≡ false
never_open name [] words e = refl
never_open name (flag ∷ free) words e =
    grind (arith, e, never_open name free (without_flag (45 ∷ 45 ∷ flag) words))

pub met_in : (opt : Text) (free : List Text) → AreFlags opt free → (name : Text) (words : List Text) → is_in free name ≡ true
    → not (is_in (open_in free words) name) ≡ has_flag (45 ∷ 45 ∷ name) words
met_in opt [] are name words e = absurd (true≢false (sym e))
met_in opt (flag ∷ free) are name words e = go (bytes_eq name flag) refl (has_flag (45 ∷ 45 ∷ flag) words) refl
    (λ o. met_in opt free are.3 name (without_flag (45 ∷ 45 ∷ flag) words) o)
  where
    later : List Text
    later = open_in free (without_flag (45 ∷ 45 ∷ flag) words)

    go : (b : Bool) → bytes_eq name flag ≡ b → (h : Bool) → has_flag (45 ∷ 45 ∷ flag) words ≡ h
        → (is_in free name ≡ true → not (is_in later name) ≡ has_flag (45 ∷ 45 ∷ name) (without_flag (45 ∷ 45 ∷ flag) words))
        → not (is_in (cond h later (flag ∷ later)) name) ≡ has_flag (45 ∷ 45 ∷ name) words
    go true f h g rest = grind (arith, f, g, are.2, never_open name free (without_flag (45 ∷ 45 ∷ flag) words), bytes_eq-Decides name flag)
    go false f h g rest = grind (arith, f, g, e, rest, has_other name flag f words)

abbrev pub names_of : Text → (Text → Bool) → Option Text → List Text → Bool
names_of opt is_operand None words = names_by is_operand opt words
names_of opt is_operand (Some f) words = true

module _ (opt : Text) (is_operand : Text → Bool) where
  -- the flags may be among the words, and so may the option that names a file unless it was met already
  abbrev pub with_file : Pairs → List Text → List Text → Option Text → List Text → Option Seen
  with_file done left free file words = let ws = words_of opt free file words in
      cond (names_of opt is_operand file words && (plain_by is_operand ws && length (operands ws) == length left))
      (Some (seen_of opt done left free file words)) None

  abbrev pub meaning : List Text → Place → Pairs → List Text → List Text → Option Text → Option Seen
  meaning words after done left free file = cond (length words == length left) (Some (pairs done left words, free, file)) None
  meaning words before done left free file = with_file done left free file words
  meaning [] naming done left free file = None
  meaning (word ∷ rest) naming done left free file = cond (is_operand word) (with_file done left free (Some word) rest) None

  by_word : (word : Text) (rest : List Text) (done : Pairs) (left free : List Text) (file : Option Text) (d f : Bool) (r : Option (Option Text)) (a : Bool)
      → bytes_eq word (codes "--") ≡ d → is_open free word ≡ f → as_option opt word ≡ r → is_operand word ≡ a → Apart f r a
      → word_met d f r a word done left free file (meaning rest) ≡ with_file done left free file (word ∷ rest)
  by_word word rest done left free file true f r a ed ef er ea apart = grind (arith, past_dashes free word rest ed)
  by_word word rest done left free file false true r a ed ef er ea apart =
      grind (arith, past_flag free word rest ed ef, past_flag free word (without_file opt rest) ed ef)
  by_word word rest done left free file false false r a ed ef er ea apart =
      grind (arith, past_other free word rest ed ef, past_other free word (without_file opt rest) ed ef)

  pub scan_means : ((word : Text) → is_operand word ≡ true → long_of word ≡ None) → (words : List Text) (place : Place) (done : Pairs)
      (left free : List Text) (file : Option Text) → AreFlags opt free
      → scan opt is_operand words place done left free file ≡ meaning words place done left free file
  scan_means bare [] place done left free file are = grind (arith, past_none free)
  scan_means bare (word ∷ rest) before done left free file are =
      met_same (bytes_eq word (codes "--")) (is_open free word) (as_option opt word) (is_operand word) word done left free file
      (scan opt is_operand rest) (meaning rest) (λ p d l f. scan_means bare rest p d l free f are)
      (λ p d l f. scan_means bare rest p d l (closed word free) f (are_closed opt word free are))
      ∙ by_word word rest done left free file _ _ _ _ refl refl refl refl (word_apart opt free are is_operand bare word)
  scan_means bare (word ∷ rest) place done left free file are = grind (arith, scan_means bare rest, are)

-- the option of this name has a file
abbrev pub is_named : Text → Option Text → List Text → Bool
is_named opt None words = names_file opt words
is_named opt (Some f) words = true

abbrev pub is_formed : Text → List Text → List Text → Option Text → List Text → Bool
is_formed opt left free file words = is_named opt file words && are_operands (length left) (words_of opt free file words)

-- ---- the two tests of operands

-- texts pass both or none
scan_same : (opt : Text) (words : List Text) → AreTexts words → (place : Place) (done : Pairs) (left free : List Text) (file : Option Text)
    → scan opt is_taken words place done left free file ≡ scan opt is_plain_word words place done left free file
scan_same opt [] texts place done left free file = grind arith
scan_same opt (word ∷ rest) texts before done left free file =
    λ j. word_met (bytes_eq word (codes "--")) (is_open free word) (as_option opt word) (taken_plain word texts.0 j) word
    done left free file (λ p d l o f. scan_same opt rest texts.1 p d l o f j)
scan_same opt (word ∷ rest) texts place done left free file = grind (arith, taken_plain word texts.0, scan_same opt rest texts.1)

plain_all_taken : (words : List Text) → are_plain words ≡ true → plain_by is_taken words ≡ true
plain_all_taken [] e = refl
plain_all_taken (word ∷ rest) e = grind (arith, plain_taken word, plain_all_taken rest)

named_taken : (opt : Text) (file : Option Text) (words : List Text) → is_named opt file words ≡ true
    → names_of opt is_taken file words ≡ true
named_taken opt (Some f) words e = refl
named_taken opt None [] e = refl
named_taken opt None (word ∷ rest) e = grind (arith, plain_taken, named_taken opt None rest)

-- ---- the definitions of the command line

plain_all : (words : List Text) → plain_by is_plain_word words ≡ are_plain words
plain_all [] = refl
plain_all (word ∷ rest) = grind (arith, plain_all rest)

named_all : (opt : Text) (file : Option Text) (words : List Text) → names_of opt is_plain_word file words ≡ is_named opt file words
named_all opt (Some f) words = refl
named_all opt None [] = refl
named_all opt None (word ∷ rest) = grind (arith, named_all opt None rest)

module _ (opt : Text) (free : List Text) (are : AreFlags opt free) (rest left : List Text) (file : Option Text) where
  abbrev said : Seen
  said = seen_of opt [] left free file rest

  -- what the pass finds is what the words say, and if they are texts they are well-formed
  pub found_said : (seen : Seen) → scan opt is_taken rest before [] left free file ≡ Some seen
      → ((length (operands (words_of opt free file rest)) == length left) ≡ true)
      × (AreTexts rest → is_formed opt left free file rest ≡ true) × (said ≡ seen)
  found_said seen found =
      let means : (p : Text → Bool) → ((word : Text) → p word ≡ true → long_of word ≡ None)
      → scan opt p rest before [] left free file ≡ meaning opt p rest before [] left free file =
      λ p bare. scan_means opt p bare rest before [] left free file are in
      let words = words_of opt free file rest in
      grind (arith, found, means is_taken taken_bare, means is_plain_word plain_bare, scan_same opt rest, named_all opt file rest, plain_all words)

  -- the pass finds something in well-formed words
  pub formed_found : is_formed opt left free file rest ≡ true
      → scan opt is_taken rest before [] left free file ≡ Some said
  formed_found e =
      let words = words_of opt free file rest in
      let means = scan_means opt is_taken taken_bare rest before [] left free file are in
      grind (arith, means, e, named_taken opt file rest, plain_all_taken words)
