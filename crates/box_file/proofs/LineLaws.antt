-- The parsers accept exactly the lines that the words spell.
use Rattle.box_file.proofs.Names.{Bool, IdleKind, IfSome, IsLine, IsName, Line, List, None, Option, Reads, Some, [], add-one, address_in, all_in, append_assoc}
use Rattle.box_file.proofs.Names.{arith, cases_Bool, codes, cond_both, cut, decimal-digits_value, decimal_nonempty, default_line, default_words, digits_decimal}
use Rattle.box_file.proofs.Names.{digits_value-decimal, dotted, dotted_prefix, drop, each_is_line, eq-eqb, eqb-true, false, filter, first_decimal, get_or}
use Rattle.box_file.proofs.Names.{has_none, idle_line, idle_words, inl, inr, interface_line, interface_words, is_ascii_digit, is_nonempty, is_numeral, kind_in}
use Rattle.box_file.proofs.Names.{length, length-append, length-decimal-le, line_in, line_of, lines_in, lines_of, list_all, lt-ltb, ltb-true, map, name_in}
use Rattle.box_file.proofs.Names.{nat_lt, nat_tests, number_in, octet_in, option_map, position_or_len, prefixed_in, refl, route_line, route_words, same_text}
use Rattle.box_file.proofs.Names.{suc, take, take_at, true, word_of, words_in, words_of, ℕ, ◌%◌, ◌*◌, ◌++◌, ◌+◌, ◌/◌, ◌<◌, ◌==◌, ◌^◌, ◌∙◌, ◌∷◌, ◌≡◌, ◌≢◌, ◌⊎◌}
use Rattle.std.specs.Fmt.{decimal}
use Rattle.std.proofs.lemmas.List.Sums.{passes_at_first, split_at_first}
use Rattle.std.proofs.lemmas.Slice.Eq.{bytes_eq-Decides}
use Rattle.box_file.proofs.NumberLaws.{digits, numeral_digits, same_text-pointwise}

-- ---- results of parsers

-- a parser gives nothing, or what has the property
abbrev NoneOr : {A : Type 0} → Option A → (A → Type 0) → Type 0
NoneOr {A} o P = (o ≡ None) ⊎ ((x : A) × (o ≡ Some x) × P x)

none_or : {A : Type 0} (o : Option A) {P : A → Type 0} → IfSome o P → NoneOr o P
none_or None h = inl refl
none_or (Some x) h = inr (x, refl, h)

-- ---- splitting

cut_found : (at : ℕ) (ts : List ℕ) → NoneOr (cut at ts) (λ x. ts ≡ x.0 ++ at ∷ x.1)
cut_found at ts =
    let n = position_or_len (λ (b : ℕ). b == at) ts in
    none_or (cut at ts) (cond_both (nat_lt n (length ts)) (Some n) None
    (λ o. IfSome {T = List ℕ × List ℕ} (option_map (λ k. (take k ts, drop (suc k) ts)) o) (λ x. ts ≡ x.0 ++ at ∷ x.1))
    (λ e. let within = ltb-true n (length ts) e in
    let here : get_or ts n 0 ≡ at = eqb-true _ _ (passes_at_first (λ b. b == at) ts 0 within) in
    split_at_first (λ b. b == at) ts 0 within ∙ rw (here, add-one) refl)
    (λ e. tt))

-- this byte doesn't occur
abbrev Lacks : ℕ → List ℕ → Type 0
Lacks at [] = Unit {0}
Lacks at (b ∷ bs) = ((b == at) ≡ false) × Lacks at bs

place_only : (at : ℕ) (xs ys : List ℕ) → Lacks at xs
    → (position_or_len (λ b. b == at) (xs ++ at ∷ ys) ≡ length xs) × (drop (suc (length xs)) (xs ++ at ∷ ys) ≡ ys)
place_only at [] ys l = (rw (eq-eqb at at refl) refl, refl)
place_only at (x ∷ xs) ys l = grind (arith, place_only at xs ys)

cut_only : (at : ℕ) (xs ys : List ℕ) → Lacks at xs → cut at (xs ++ at ∷ ys) ≡ Some (xs, ys)
cut_only at xs ys l = grind (arith, place_only, length-append, lt-ltb, take_at)

lacks-append : (at : ℕ) (xs ys : List ℕ) → Lacks at xs → Lacks at ys → Lacks at (xs ++ ys)
lacks-append at [] ys l k = k
lacks-append at (x ∷ xs) ys l k = (l.0, lacks-append at xs ys l.1 k)

lacks_all : (test : ℕ → Bool) (at : ℕ) → test at ≡ false → (bs : List ℕ) → list_all test bs ≡ true → Lacks at bs
lacks_all test at f [] e = tt
lacks_all test at f (b ∷ bs) e = grind (arith, nat_tests, lacks_all test at f bs)

-- ---- numbers

lone_zero : (ds : List ℕ) → is_numeral ds ≡ true → get_or ds 0 0 ≡ 48 → length ds ≡ 1
lone_zero [] e z = absurd cc
lone_zero (d ∷ ds) e z = grind arith

number_found : (ds : List ℕ) → NoneOr (number_in ds) (λ n. (decimal n ≡ ds) × (n < 2 ^ 32))
unfolding number_in
number_found ds = none_or (number_in ds) (grind (arith, nat_tests, numeral_digits ds, lone_zero ds, decimal-digits_value digits ds))

numeral_from : (ds : List ℕ) → list_all is_ascii_digit ds ≡ true → 0 < length ds
    → (get_or ds 0 0 ≢ 48) ⊎ (length ds ≡ 1) → is_numeral ds ≡ true
numeral_from [] all some first = absurd (omega arith)
numeral_from (d ∷ ds) all some first = grind (arith, nat_tests)

-- a lone zero, or a first digit that is none
first_is : (n : ℕ) → n < 2 ^ 64 → (get_or (decimal n) 0 0 ≢ 48) ⊎ (length (decimal n) ≡ 1)
first_is n wide = grind (arith, length-decimal-le 1 0, decimal_nonempty n, first_decimal n)

number_only : (n : ℕ) → n < 2 ^ 32 → number_in (decimal n) ≡ Some n
unfolding number_in
number_only n small = grind (arith, nat_tests, numeral_from, digits_decimal digits n, decimal_nonempty n, first_is n, digits_value-decimal digits n)

decimal_lacks : (at n : ℕ) → is_ascii_digit at ≡ false → n < 2 ^ 32 → Lacks at (decimal n)
decimal_lacks at n other small = lacks_all is_ascii_digit at other (decimal n) (digits_decimal digits n (omega arith))

-- ---- addresses

octet_found : (ds : List ℕ) → NoneOr (octet_in ds) (λ n. (decimal n ≡ ds) × (n < 256))
unfolding octet_in
octet_found ds = none_or (octet_in ds) (grind (arith, nat_tests, number_found))

octet_only : (n : ℕ) → n < 256 → octet_in (decimal n) ≡ Some n
unfolding octet_in
octet_only n small = grind (arith, nat_tests, number_only)

-- four parts separated by dots
abbrev quad : List ℕ → List ℕ → List ℕ → List ℕ → List ℕ
quad w x y z = w ++ 46 ∷ (x ++ 46 ∷ (y ++ 46 ∷ z))

dotted_is : (a : ℕ) → dotted a ≡ quad (decimal (a / 16777216)) (decimal (a / 65536 % 256)) (decimal (a / 256 % 256)) (decimal (a % 256))
dotted_is a = simp append_assoc

-- an address of four bytes
abbrev joined : ℕ → ℕ → ℕ → ℕ → ℕ
joined w x y z = w * 16777216 + x * 65536 + y * 256 + z

dotted_joined : (w x y z : ℕ) → w < 256 → x < 256 → y < 256 → z < 256
    → (dotted (joined w x y z) ≡ quad (decimal w) (decimal x) (decimal y) (decimal z)) × (joined w x y z < 2 ^ 32)
dotted_joined w x y z hw hx hy hz = grind (arith, dotted_is)

address_found : (bs : List ℕ) → NoneOr (address_in bs) (λ a. (dotted a ≡ bs) × (a < 2 ^ 32))
unfolding address_in
address_found bs = none_or (address_in bs) (grind (arith, cut_found, octet_found, dotted_joined))

dot_lacks : (n : ℕ) → n < 256 → Lacks 46 (decimal n)
dot_lacks n small = decimal_lacks 46 n refl (omega arith)

quad_only : (w x y z : ℕ) → w < 256 → x < 256 → y < 256 → z < 256
    → address_in (quad (decimal w) (decimal x) (decimal y) (decimal z)) ≡ Some (joined w x y z)
unfolding address_in
quad_only w x y z hw hx hy hz = grind (arith, octet_only, cut_only, dot_lacks)

address_only : (a : ℕ) → a < 2 ^ 32 → address_in (dotted a) ≡ Some a
address_only a small = grind (arith, dotted_is a, quad_only)

dotted_lacks : (at a : ℕ) → is_ascii_digit at ≡ false → (46 == at) ≡ false → a < 2 ^ 32 → Lacks at (dotted a)
dotted_lacks at a other dot small = grind (arith, lacks-append, decimal_lacks, dotted_is)

prefixed_found : (bs : List ℕ) → NoneOr (prefixed_in bs) (λ p. (bs ≡ dotted_prefix p.0 p.1) × (p.0 < 2 ^ 32) × (p.1 < 33))
unfolding prefixed_in
prefixed_found bs = none_or (prefixed_in bs) (grind (arith, nat_tests, cut_found, address_found, number_found))

prefixed_only : (a p : ℕ) → a < 2 ^ 32 → p < 33 → prefixed_in (dotted_prefix a p) ≡ Some (a, p)
unfolding prefixed_in
prefixed_only a p small short = grind (arith, nat_tests, cut_only 47 (dotted a) (decimal p), dotted_lacks 47 a refl refl, address_only, number_only)

-- ---- names

name_found : (bs : List ℕ) → (name_in bs ≡ None) ⊎ ((name_in bs ≡ Some bs) × IsName bs)
unfolding name_in
name_found bs = grind (arith, nat_tests)

name_only : (n : List ℕ) → IsName n → name_in n ≡ Some n
unfolding name_in
name_only n h = grind (arith, nat_tests)

-- ---- lines

none_left : (ws : List (List ℕ)) → (has_none ws ≡ false) ⊎ (ws ≡ [])
none_left [] = inr refl
none_left (w ∷ ws) = inl refl

-- these words, after a keyword, are those of a line
abbrev Spells : List ℕ → (List (List ℕ) → Option Line) → List (List ℕ) → Type 0
Spells word parse ws = NoneOr (parse ws) (λ l. IsLine l × (words_in l ≡ word ∷ ws))

interface_found : (ws : List (List ℕ)) → Spells (codes "interface") interface_words ws
unfolding interface_words
interface_found ws = none_or (interface_words ws) (grind (arith, nat_tests, number_found, name_found, prefixed_found, none_left))

route_found : (ws : List (List ℕ)) → Spells (codes "route") route_words ws
unfolding route_words
route_found ws = none_or (route_words ws) (grind (arith, nat_tests, prefixed_found, name_found, none_left))

default_found : (ws : List (List ℕ)) → Spells (codes "default") default_words ws
unfolding default_words
default_found ws = none_or (default_words ws) (grind (arith, name_found, none_left))

same_word : (text word : List ℕ) → (same_text text word ≡ false) ⊎ (text ≡ word)
same_word text word = elim (cases_Bool (same_text text word)) [
  | inl e ↦ inr ((bytes_eq-Decides text word).0 (same_text-pointwise text word ∙ e))
  | inr e ↦ inl e
]

kind_found : (word : List ℕ) → NoneOr (kind_in word) (λ k. word_of k ≡ word)
kind_found word = none_or (kind_in word) (grind (arith, same_word))

kind_only : (k : IdleKind) → kind_in (word_of k) ≡ Some k
kind_only k = grind arith

idle_found : (ws : List (List ℕ)) → Spells (codes "idle") idle_words ws
unfolding idle_words
idle_found ws = none_or (idle_words ws) (grind (arith, kind_found, none_left))

line_found : (ws : List (List ℕ)) → NoneOr (line_in ws) (λ l. IsLine l × (words_in l ≡ ws))
unfolding line_in
line_found [] = inl refl
line_found (w ∷ ws) = none_or (line_of w ws) (grind (arith, same_word w, interface_found, route_found, default_found, idle_found))

line_only : (l : Line) → IsLine l → line_in (words_in l) ≡ Some l
unfolding line_in interface_words route_words default_words idle_words
line_only (interface_line i) h = grind (arith, nat_tests, number_only, name_only, prefixed_only)
line_only (route_line r) h = grind (arith, nat_tests, name_only, prefixed_only)
line_only (default_line n) h = grind (arith, name_only)
line_only (idle_line i) h = grind (arith, kind_only)

-- ---- texts

each_found : (ts : List (List (List ℕ))) → IfSome (all_in ts) (λ ls. each_is_line ls × (ts ≡ map words_in ls))
unfolding all_in
each_found [] = (tt, refl)
each_found (t ∷ ts) = grind (arith, line_found t, none_or (all_in ts) (each_found ts))

each_only : (ls : List Line) → each_is_line ls → all_in (map words_in ls) ≡ Some ls
unfolding all_in
each_only [] h = refl
each_only (l ∷ ls) h = rw (line_only l h.0, each_only ls h.1) refl

pub lines_found : (text : List ℕ) (ls : List Line) → lines_in text ≡ Some ls → Reads text ls
lines_found text ls e =
    let h = rw e at (each_found (filter is_nonempty (map words_of (lines_of text)))) in
    record { each = h.0; written = h.1 }

pub lines_only : (text : List ℕ) (ls : List Line) → Reads text ls → lines_in text ≡ Some ls
lines_only text ls r = rw r.written (each_only ls r.each)
