-- Bits that write numbers in fields, one field after the other.
use Rattle.std.proofs.Common.{◌≡◌, ◌∙◌, ◌-◌, ◌^◌, nat_le, ℕ, zero, suc, ◌<◌, ◌+◌, List, [], ◌∷◌, Bool, false, cond, refl, ap, subst, arith, inl, inr}
use Rattle.std.proofs.lemmas.Bool.{cases_lt, le-leb, lt-leb}
use Rattle.std.proofs.Math.Nat.{pow-suc}
use Rattle.packet_sets.specs.Sets.{field_value}

-- the bits of a number with this width, and then others
pub bits_for : ℕ → ℕ → (ℕ → Bool) → ℕ → Bool
bits_for zero n rest b = rest b
bits_for (suc w) n rest zero = nat_le (2 ^ w) n
bits_for (suc w) n rest (suc b) = bits_for w (cond (nat_le (2 ^ w) n) (n - 2 ^ w) n) rest b

-- fields of these widths and numbers
abbrev pub bits_of : List (ℕ × ℕ) → ℕ → Bool
bits_of [] b = false
bits_of (x ∷ xs) b = bits_for x.0 x.1 (bits_of xs) b

abbrev pub FitAll : List (ℕ × ℕ) → Type 0
FitAll [] = Unit {0}
FitAll (x ∷ xs) = (x.1 < 2 ^ x.0) × FitAll xs

-- a packet has these numbers in fields of these widths from the first bit on
abbrev pub HasAll : ℕ → List (ℕ × ℕ) → (ℕ → Bool) → Type 0
HasAll first [] p = Unit {0}
HasAll first (x ∷ xs) p = (field_value first x.0 p ≡ x.1) × HasAll (first + x.0) xs p

field-next : (first w : ℕ) (p : ℕ → Bool) → field_value (suc first) w p ≡ field_value first w (λ b. p (suc b))
unfolding field_value
field-next first zero p = refl
field-next first (suc w) p =
    let e : suc first + 1 ≡ suc (first + 1) = omega arith in
    rw e (ap (λ x. cond (p (suc first)) (2 ^ w) 0 + x) (field-next (first + 1) w p))

field-head : (w n : ℕ) (rest : ℕ → Bool) → n < 2 ^ w → field_value 0 w (bits_for w n rest) ≡ n
unfolding field_value bits_for
field-head zero n rest h = omega arith
field-head (suc w) n rest h =
    let p = pow-suc 2 w in
    let tail = field-next 0 w (bits_for (suc w) n rest) in
    elim (cases_lt n (2 ^ w)) [
      | inl l ↦
          let e = lt-leb (2 ^ w) n l in
          let r = field-head w n rest l in
          rw (tail, e) (omega (arith, r))
      | inr g ↦
          let e = le-leb (2 ^ w) n g in
          let r = field-head w (n - 2 ^ w) rest (omega (arith, p)) in
          rw (tail, e) (omega (arith, r))
    ]

field-past : (w first v n : ℕ) (rest : ℕ → Bool) → field_value (w + first) v (bits_for w n rest) ≡ field_value first v rest
unfolding bits_for
field-past zero first v n rest = ap (λ x. field_value x v rest) (omega arith)
field-past (suc w) first v n rest =
    let e : suc w + first ≡ suc (w + first) = omega arith in
    rw e (field-next (w + first) v (bits_for (suc w) n rest) ∙ field-past w first v (cond (nat_le (2 ^ w) n) (n - 2 ^ w) n) rest)

past : (w n first : ℕ) (xs : List (ℕ × ℕ)) (p : ℕ → Bool) → HasAll first xs p → HasAll (w + first) xs (bits_for w n p)
past w n first [] p h = tt
past w n first (x ∷ xs) p h =
    let e : w + (first + x.0) ≡ w + first + x.0 = omega arith in
    (field-past w first x.0 n p ∙ h.0, subst (λ i. HasAll i xs (bits_for w n p)) e (past w n (first + x.0) xs p h.1))

pub has_all : (xs : List (ℕ × ℕ)) → FitAll xs → HasAll 0 xs (bits_of xs)
has_all [] fit = tt
has_all (x ∷ xs) fit =
    let e : x.0 + 0 ≡ 0 + x.0 = omega arith in
    (field-head x.0 x.1 (bits_of xs) fit.0, subst (λ i. HasAll i xs (bits_of (x ∷ xs))) e (past x.0 x.1 0 xs (bits_of xs) (has_all xs fit.1)))
