-- Concatenations as numbers: a front and a back.
use Rattle.std.proofs.Common.{◌≡◌, ◌∙◌, ◌^◌, ◌*◌, ◌/◌, ◌%◌, ◌==◌, ◌&&◌, ◌||◌, nat_le, nat_lt, ℕ, ◌<◌, ◌≤◌, ◌+◌, List, [], ◌∷◌, map, Bool, true, false}
use Rattle.std.proofs.Common.{refl, ap, sym, subst, arith, inl, inr, min, Option, Some, None, pow-add, lit<}
use Rattle.std.specs.Option.{option_and_then, option_map}
use Rattle.std.proofs.lemmas.Bool.{cases_order, cases_lt}
use Rattle.std.proofs.lemmas.Bool.Decides.{nat_tests}
use Rattle.std.proofs.lemmas.Nat.{div-add-mod', pow_pos}
use Rattle.std.proofs.Math.Nat.{add-mul, div-eq_of_lt, mod-eq_of_lt, mod-lt, mul-le-mul_right, mul_assoc, pow-le-pow_right}
use Rattle.packet_sets.specs.declared.packet_set.PacketSet.{PacketSet}
use Rattle.packet_sets.specs.Sets.{DiagramsView, Means, holds}
use Rattle.nft_tree.specs.declared.selector.Selector.{Selector}
use Rattle.nft_tree.specs.ValueTypes.{selector_width}
use Rattle.rule_meaning.specs.declared.facts.Facts.{Facts}
use Rattle.rule_meaning.specs.Matches.{tests}
use Rattle.rule_meaning.specs.Selectors.{join, joined_value, value}
use Rattle.action_cases.specs.declared.concatenations.Bound.{Bound}
use Rattle.action_cases.specs.declared.concatenations.Bound.TheVariants as bounds
use Rattle.action_cases.specs.steps.Bounds.{bound_passes, is_beyond, is_past, joined_width}
use Rattle.fact_sets.proofs.SetLaws.{means_as}

abbrev pub total : List (ℕ × Option ℕ) → ℕ
total [] = 0
total (part ∷ parts) = part.0 + total parts

abbrev pub Below : Option ℕ → ℕ → Type 0
Below None k = Unit {0}
Below (Some n) k = n < k

abbrev pub Fit : List (ℕ × Option ℕ) → Type 0
Fit [] = Unit {0}
Fit (part ∷ parts) = Below part.1 (2 ^ part.0) × Fit parts

shifted : (high w n t j : ℕ) → (high * 2 ^ w + n) * 2 ^ t + j ≡ high * 2 ^ (w + t) + ((0 * 2 ^ w + n) * 2 ^ t + j)
shifted high w n t j =
    let a = pow-add 2 w t in
    let b = mul_assoc high (2 ^ w) (2 ^ t) in
    let d = add-mul (high * 2 ^ w) n (2 ^ t) in
    let z : 0 * 2 ^ w + n ≡ n = omega arith in
    rw (z, a, d) (omega (arith, b))

pub join-high : (parts : List (ℕ × Option ℕ)) (high : ℕ) → join high parts ≡ option_map (λ j. high * 2 ^ total parts + j) (join 0 parts)
join-high [] high = ap Some (omega arith)
join-high ((w, None) ∷ ps) high = refl
join-high ((w, Some n) ∷ ps) high =
    join-high ps (high * 2 ^ w + n) ∙ elim (join 0 ps) as (λ o. option_map (λ j. (high * 2 ^ w + n) * 2 ^ total ps + j) o ≡ option_map (λ j. high * 2 ^
    (w + total ps) + j)
    (option_map (λ j. (0 * 2 ^ w + n) * 2 ^ total ps + j) o)) [ None ↦ refl | Some j ↦ ap Some (shifted high w n (total ps) j) ]
    ∙ ap (option_map (λ j. high * 2 ^ (w + total ps) + j)) (sym (join-high ps (0 * 2 ^ w + n)))

pub join-less : (parts : List (ℕ × Option ℕ)) → Fit parts → Below (join 0 parts) (2 ^ total parts)
join-less [] fit = omega arith
join-less ((w, None) ∷ ps) fit = tt
join-less ((w, Some n) ∷ ps) fit =
    let r = join-less ps fit.1 in
    let h : n < 2 ^ w = fit.0 in
    subst (λ o. Below o (2 ^ (w + total ps))) (sym (join-high ps (0 * 2 ^ w + n))) (
    elim (join 0 ps) as (λ o. Below o (2 ^ total ps) → Below (option_map (λ j. (0 * 2 ^ w + n) * 2 ^ total ps + j) o) (2 ^ (w + total ps))) [
      | None ↦ λ b. tt
      | Some j ↦ λ b.
          let l : n + 1 ≤ 2 ^ w = omega arith in
          let m = mul-le-mul_right (2 ^ total ps) l in
          let a = pow-add 2 w (total ps) in
          let d = add-mul n 1 (2 ^ total ps) in
          let z : 0 * 2 ^ w + n ≡ n = omega arith in
          rw z (omega (arith, m, a, d, b))
    ] r)

-- numbers of a front and a back
at-below : (q r w a b : ℕ) → b < w → a < q → a * w + b < q * w + r
at-below q r w a b hb h =
    let e : a + 1 ≤ q = omega arith in
    let m = mul-le-mul_right w e in
    let d : (a + 1) * w ≡ a * w + 1 * w = add-mul a 1 w in omega (arith, m, d)

least-parts : (q r w a b : ℕ) → r < w → b < w → nat_lt q a && nat_le 0 b || (a == q) && nat_le r b ≡ nat_le (q * w + r) (a * w + b)
least-parts q r w a b hr hb = elim (cases_order a q) [
  | inl e ↦ rw e (grind (arith, nat_tests))
  | inr o ↦ elim o [
    | inl l ↦ let h = at-below q r w a b hb l in grind (arith, nat_tests)
    | inr g ↦ let h = at-below a b w q r hr g in grind (arith, nat_tests)
  ]
]

most-parts : (q r w a b : ℕ) → r < w → b < w → nat_lt a q && nat_le 0 b || (a == q) && nat_le b r ≡ nat_le (a * w + b) (q * w + r)
most-parts q r w a b hr hb = elim (cases_order a q) [
  | inl e ↦ rw e (grind (arith, nat_tests))
  | inr o ↦ elim o [
    | inl l ↦ let h = at-below q r w a b hb l in grind (arith, nat_tests)
    | inr g ↦ let h = at-below a b w q r hr g in grind (arith, nat_tests)
  ]
]

parts : (bound : Bound) (q r w a b : ℕ) → r < w → b < w
    → is_beyond bound q a && bound_passes bounds.Least 0 b || (a == q) && bound_passes bound r b ≡ bound_passes bound (q * w + r) (a * w + b)
parts bounds.Least q r w a b hr hb = least-parts q r w a b hr hb
parts bounds.Most q r w a b hr hb = most-parts q r w a b hr hb

-- the first value and the others, of which there may be none
both : (bound : Bound) (q r w : ℕ) (v rest : Option ℕ) → r < w → Below rest w
    → tests v (is_beyond bound q) && tests rest (bound_passes bounds.Least 0) || tests v (λ n. n == q) && tests rest (bound_passes bound r)
    ≡ tests (option_and_then (λ n. option_map (λ j. n * w + j) rest) v) (bound_passes bound (q * w + r))
both bound q r w None rest hr hb = refl
both bound q r w (Some a) None hr hb = elim (is_beyond bound q a) as (λ x. x && false || (a == q) && false ≡ false) [
  | true ↦ elim (a == q) as (λ y. false || y && false ≡ false) [ true ↦ refl | false ↦ refl ]
  | false ↦ elim (a == q) as (λ y. false || y && false ≡ false) [ true ↦ refl | false ↦ refl ]
]
both bound q r w (Some a) (Some b) hr hb = parts bound q r w a b hr hb

-- ---- one value

pub equal_is : (v : Option ℕ) (n : ℕ) → tests v (nat_le n) && tests v (λ x. nat_le x n) ≡ tests v (λ x. x == n)
equal_is None n = refl
equal_is (Some x) n = grind (arith, nat_tests)

pub past_is : (bound : Bound) (v : Option ℕ) (n : ℕ) → is_past bound (tests v (nat_le n)) (tests v (λ x. nat_le x n)) ≡ tests v (is_beyond bound n)
past_is bounds.Least None n = refl
past_is bounds.Most None n = refl
past_is bounds.Least (Some x) n = grind (arith, nat_tests)
past_is bounds.Most (Some x) n = grind (arith, nat_tests)

past_same : (bound : Bound) (a b p q : Bool) → a ≡ p → b ≡ q → is_past bound a b ≡ is_past bound p q
past_same bound a b p q e g = ap (λ x. is_past bound x b) e ∙ ap (λ x. is_past bound p x) g

pub past_means : (b new : DiagramsView) (bound : Bound) (left right set : PacketSet) (p q : (ℕ → Bool) → Bool) → Means b left p → Means b right q
    → Means new set (λ f. is_past bound (holds b left f) (holds b right f)) → Means new set (λ f. is_past bound (p f) (q f))
past_means b new bound left right set p q hl hr is =
    means_as new set _ _ is (λ f. past_same bound (holds b left f) (holds b right f) (p f) (q f) (hl.same f) (hr.same f))

-- ---- selectors

abbrev pub parts_of : List Selector → Facts → List (ℕ × Option ℕ)
parts_of ss f = map (λ s. (selector_width s, value s f)) ss

pub total_is : (ss : List Selector) (f : Facts) → total (parts_of ss f) ≡ joined_width ss
total_is [] f = refl
total_is (s ∷ ss) f = ap (λ x. selector_width s + x) (total_is ss f)

joined-next : (s : Selector) (ss : List Selector) (f : Facts) → joined_value (s ∷ ss) f
    ≡ option_and_then (λ n. option_map (λ j. n * 2 ^ joined_width ss + j) (joined_value ss f)) (value s f)
joined-next s ss f = elim (value s f) as (λ v. join 0 ((selector_width s, v) ∷ parts_of ss f)
    ≡ option_and_then (λ n. option_map (λ j. n * 2 ^ joined_width ss + j) (joined_value ss f)) v) [
      | None ↦ refl
      | Some n ↦
          let z : 0 * 2 ^ selector_width s + n ≡ n = omega arith in
          join-high (parts_of ss f) (0 * 2 ^ selector_width s + n)
          ∙ rw (z, total_is ss f) refl
    ]

-- a number's front and back, where there are at least as many bits as the back has
front-back : (number bits width : ℕ) → bits ≡ min 128 width → number < 2 ^ 128
    → (number ≡ (number / 2 ^ bits) * 2 ^ width + number % 2 ^ bits) × (number % 2 ^ bits < 2 ^ width)
front-back number bits width is small = elim (cases_lt width 128) [
  | inl l ↦
      let e : bits ≡ width = omega arith in
      let d = div-add-mod' number (2 ^ width) in
      let p = pow_pos width in
      rw e (sym d, mod-lt number p)
  | inr g ↦
      let e : bits ≡ 128 = omega arith in
      let q = div-eq_of_lt small in
      let r = mod-eq_of_lt small in
      let w : 2 ^ 128 ≤ 2 ^ width = pow-le-pow_right (lit< tt) g in
      rw (e, q, r) (omega arith, omega (arith, w))
]

-- the first selector's value and those of the others, with a number's front and back
pub joined_is : (bound : Bound) (number bits : ℕ) (s : Selector) (ss : List Selector) (f : Facts) → bits ≡ min 128 (joined_width ss) → number < 2 ^ 128
    → Fit (parts_of ss f)
    → tests (value s f) (is_beyond bound (number / 2 ^ bits)) && tests (joined_value ss f) (bound_passes bounds.Least 0)
    || tests (value s f) (λ n. n == number / 2 ^ bits) && tests (joined_value ss f) (bound_passes bound (number % 2 ^ bits))
    ≡ tests (joined_value (s ∷ ss) f) (bound_passes bound number)
joined_is bound number bits s ss f is small fit =
    let p = front-back number bits (joined_width ss) is small in
    let b : Below (joined_value ss f) (2 ^ joined_width ss) = subst (λ w. Below (joined_value ss f) (2 ^ w)) (total_is ss f) (join-less (parts_of ss f) fit) in
    both bound (number / 2 ^ bits) (number % 2 ^ bits) (2 ^ joined_width ss) (value s f) (joined_value ss f) p.1 b
    ∙ ap (λ n. tests (option_and_then (λ n. option_map (λ j. n * 2 ^ joined_width ss + j) (joined_value ss f)) (value s f)) (bound_passes bound n)) (sym p.0)
    ∙ ap (λ o. tests o (bound_passes bound number)) (sym (joined-next s ss f))
