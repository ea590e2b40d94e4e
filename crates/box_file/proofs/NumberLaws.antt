-- The results of std's calls in terms of the parsers: texts, numbers.
use Rattle.box_file.proofs.Names.{nat_tests, Err, IsAscii-from_digits, List, MatchResult, Ok, Result, Some, [], and_parts, ap, arith, digits_value, eqb}
use Rattle.box_file.proofs.Names.{false, is_ascii_digit, is_numeral, length, list_all, number_in, pointwise, refl, rules}
use Rattle.box_file.proofs.Names.{same_text, subst, sym, true, ℕ, ◌&&◌, ◌<◌, ◌^◌, ◌∙◌, ◌∷◌, ◌≡◌}
use Rattle.std.specs.Result.{result_ok, OkIff}
use Rattle.std.specs.Str.{IsUtf8}
use Rattle.std.proofs.lemmas.Str.{IsUtf8-from_ascii}
use Rattle.std.proofs.lemmas.Str.Parse.{IsNumeralModel, numerals_by_value}

-- ---- texts

pub ok_holds : {S E : Type 0} (P : S → Type 0) (Q : E → Type 0) (r : Result S E) (x : S) → MatchResult r P Q → result_ok r ≡ Some x → P x
ok_holds P Q (Ok y) x h e = let same : y ≡ x = cc in subst P same h
ok_holds P Q (Err y) x h e = absurd cc

pub same_text-pointwise : (xs ys : List ℕ) → pointwise eqb xs ys ≡ same_text xs ys
same_text-pointwise [] [] = refl
same_text-pointwise [] (y ∷ ys) = refl
same_text-pointwise (x ∷ xs) [] = refl
same_text-pointwise (x ∷ xs) (y ∷ ys) = ap (λ v. eqb x y && v) (same_text-pointwise xs ys)

-- a text isn't this word, whose bytes are given
pub differ : (text word : List ℕ) {bytes : List ℕ} → bytes ≡ word → false ≡ pointwise eqb text bytes → same_text text word ≡ false
differ text word same other = sym (same_text-pointwise text word) ∙ sym (rw same at other)

-- ---- numbers

pub digits : IsNumeralModel (λ ds. list_all is_ascii_digit ds ≡ true) (digits_value 10)
digits = numerals_by_value _ (search rules)

pub numeral_digits : (ds : List ℕ) → is_numeral ds ≡ true → (list_all is_ascii_digit ds ≡ true) × (0 < length ds)
numeral_digits [] e = absurd cc
numeral_digits (d ∷ ds) e = ((and_parts (list_all is_ascii_digit (d ∷ ds)) _ e).0, omega arith)

pub numeral_is_text : (ds : List ℕ) → is_numeral ds ≡ true → IsUtf8 ds
numeral_is_text ds e = IsUtf8-from_ascii ds (IsAscii-from_digits ds (digits.to ds (numeral_digits ds e).0))

pub number_is : {E : Type 0} (ds : List ℕ) (r : Result ℕ E) → is_numeral ds ≡ true
    → OkIff r ((0 < length ds) × (digits_value 10 ds < 2 ^ 32)) (digits_value 10 ds) → result_ok r ≡ number_in ds
unfolding number_in
number_is ds r e h = grind (arith, nat_tests, numeral_digits)

pub ruleset text_tests = (same_text-pointwise)
