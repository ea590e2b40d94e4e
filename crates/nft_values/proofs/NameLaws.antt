-- A trailing star, and names as numbers.
use Rattle.std.proofs.Common.{◌≡◌, ℕ, zero, suc, ◌+◌, ◌-◌, ◌*◌, ◌^◌, ◌<◌, ◌≤◌, Bool, true, false, cond, List, [], ◌∷◌}
use Rattle.std.proofs.Common.{◌++◌, length, take, get_or, Some, None, refl, sym, ap, ◌∙◌, arith}
use Rattle.std.proofs.Common.{length-append}
use Rattle.std.specs.Prelude.{◌==◌, replicate}
use Rattle.std.specs.Option.{option_map}
use Rattle.std.proofs.lemmas.Bool.{cases_lt}
use Rattle.std.proofs.lemmas.Bool.Decides.{nat_tests}
use Rattle.std.proofs.lemmas.Grind.{get_or_default_zero}
use Rattle.std.proofs.lemmas.Nat.{pow-add}
use Rattle.std.proofs.lemmas.List.{take_more, get_or_past, get_or-replicate, get_or-append_right, length-replicate}
use Rattle.std.proofs.Math.ListN.{get_or-append}
use Rattle.std.proofs.Math.Pow.{pow_mono}
use Rattle.nft_values.specs.Values.{wildcard_prefix, bytes_number, padded}

-- ---- the star

under : (b : ℕ) (v : Bool) (rest : List ℕ) → option_map (λ (ns : List ℕ). b ∷ ns) (cond v (Some rest) None) ≡ cond v (Some (b ∷ rest)) None
under b true rest = refl
under b false rest = refl

star-append : (rest : List ℕ) (last : ℕ) → wildcard_prefix (rest ++ last ∷ []) ≡ cond (last == 42) (Some rest) None
star-append [] last = refl
star-append (b ∷ []) last = under b (last == 42) []
star-append (b ∷ c ∷ cs) last = ap (option_map (λ (ns : List ℕ). b ∷ ns)) (star-append (c ∷ cs) last) ∙ under b (last == 42) (c ∷ cs)

pub star-there : (n rest : List ℕ) (last : ℕ) → n ≡ rest ++ last ∷ [] → last ≡ 42 → Some rest ≡ wildcard_prefix n
star-there n rest last e star = let test : (last == 42) ≡ true = grind (arith, nat_tests) in sym (rw (e, star-append rest last, test) refl)

pub star-absent : (n rest : List ℕ) (last : ℕ) → n ≡ rest ++ last ∷ [] → (last ≡ 42 → ⊥) → None ≡ wildcard_prefix n
star-absent n rest last e other = let test : (last == 42) ≡ false = grind (arith, nat_tests) in sym (rw (e, star-append rest last, test) refl)

-- ---- bytes as a number

bytes-append : (so_far : ℕ) (bs : List ℕ) (b : ℕ) → bytes_number so_far (bs ++ b ∷ []) ≡ bytes_number so_far bs * 256 + b
bytes-append so_far [] b = refl
bytes-append so_far (x ∷ bs) b = bytes-append (so_far * 256 + x) bs b

-- the first bytes, padded
unfoldable pub padded_to : ℕ → ℕ → List ℕ → ℕ
padded_to count fill n = bytes_number 0 (take count (n ++ replicate 16 fill))

byte_of : (m at fill : ℕ) (n : List ℕ) → at < m → get_or (n ++ replicate m fill) at 0 ≡ get_or n at fill
byte_of m at fill n lt = grind (arith, cases_lt, get_or-append, get_or_default_zero, get_or-append_right, get_or-replicate, get_or_past)

bytes-more : (xs : List ℕ) (at : ℕ) → at < length xs → bytes_number 0 (take at xs) * 256 + get_or xs at 0 ≡ bytes_number 0 (take (at + 1) xs)
bytes-more xs at lt = sym (ap (bytes_number 0) (take_more xs at 0 lt) ∙ bytes-append 0 (take at xs) (get_or xs at 0))

long_enough : (m at fill : ℕ) (n : List ℕ) → at < m → at < length (n ++ replicate m fill)
long_enough m at fill n lt = omega (arith, length-append n (replicate m fill), length-replicate m fill)

pub padded-none : (fill : ℕ) (n : List ℕ) → 0 ≡ padded_to 0 fill n
unfolding padded_to
padded-none fill n = refl

pub padded-all : (fill : ℕ) (n : List ℕ) → padded_to 16 fill n ≡ padded fill n
unfolding padded_to
padded-all fill n = refl

pub padded-next : (at fill : ℕ) (n : List ℕ) → at < 16 → padded_to at fill n * 256 + get_or n at fill ≡ padded_to (at + 1) fill n
unfolding padded_to
padded-next at fill n lt = rw (← byte_of 16 at fill n lt) (bytes-more (n ++ replicate 16 fill) at (long_enough 16 at fill n lt))

-- one more byte has eight more bits
pub room : (number byte at : ℕ) → number < 2 ^ (8 * at) → byte < 256 → at < 16 → (number * 256 + byte < 2 ^ (8 * (at + 1))) × (number * 256 + byte < 2 ^ 128)
room number byte at small b lt =
    let eight : 2 ^ (8 * at + 8) ≡ 2 ^ (8 * at) * 2 ^ 8 = pow-add 2 (8 * at) 8 in
    let last : 8 * at + 8 ≤ 128 = omega arith in
    let whole : 2 ^ (8 * at + 8) ≤ 2 ^ 128 = pow_mono last in
    let same : 8 * (at + 1) ≡ 8 * at + 8 = omega arith in
    let next : number * 256 + byte < 2 ^ (8 * at + 8) = rw eight (omega arith) in
    (rw same next, omega arith)

-- ---- bounds of padded names

replicated-le : (low high count m : ℕ) → low ≤ high → bytes_number low (take count (replicate m 0)) ≤ bytes_number high (take count (replicate m 255))
replicated-le low high zero zero le = le
replicated-le low high zero (suc m) le = le
replicated-le low high (suc count) zero le = le
replicated-le low high (suc count) (suc m) le = replicated-le (low * 256 + 0) (high * 256 + 255) count m (omega arith)

filling-le : (low high count m : ℕ) (n : List ℕ) → low ≤ high → bytes_number low (take count (n ++ replicate m 0)) ≤
    bytes_number high (take count (n ++ replicate m 255))
filling-le low high count m [] le = replicated-le low high count m le
filling-le low high zero m (b ∷ bs) le = le
filling-le low high (suc count) m (b ∷ bs) le = filling-le (low * 256 + b) (high * 256 + b) count m bs (omega arith)

pub padded-le : (n : List ℕ) → padded 0 n ≤ padded 255 n
padded-le n = filling-le 0 0 16 16 n (omega arith)
