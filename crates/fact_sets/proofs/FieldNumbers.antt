-- Numbers in fields, one more of them at a time.
use Rattle.std.proofs.Common.{◌≡◌, ◌^◌, ◌==◌, ◌&&◌, ◌||◌, nat_le, nat_lt, sym, ℕ, zero, suc, ◌<◌, ◌≤◌, ◌+◌, Bool, true, false, cond}
use Rattle.std.proofs.Common.{arith, lit<, inl, inr}
use Rattle.std.proofs.lemmas.Bool.{cases_order, le-leb, lt-leb}
use Rattle.std.proofs.lemmas.Bool.Decides.{nat_tests}
use Rattle.std.proofs.Math.Nat.{pow-suc}
use Rattle.packet_sets.specs.declared.packet_set.PacketSet.{PacketSet}
use Rattle.packet_sets.specs.Sets.{DiagramsView, Keeps, Means, field_value, holds}
use Rattle.fact_sets.proofs.SetLaws.{means_as, means_kept, or_means}

cond-most : (b : Bool) (x : ℕ) → cond b x 0 ≤ x
cond-most b x = elim b as (λ v. cond v x 0 ≤ x) [ true ↦ omega arith | false ↦ omega arith ]

pub value_less : (width first : ℕ) (f : ℕ → Bool) → field_value first width f < 2 ^ width
unfolding field_value
value_less zero first f = lit< tt
value_less (suc width) first f =
    let r = value_less width (first + 1) f in
    let c = cond-most (f first) (2 ^ width) in
    let p = pow-suc 2 width in
    omega (arith, r, c, p)

-- one number more
more_passes : (t : ℕ → Bool) (n x : ℕ) → t n ≡ true → (nat_lt x n && t x) || x == n ≡ nat_lt x (n + 1) && t x
more_passes t n x h = elim (cases_order x n) [
  | inl e ↦ rw (e, h) (grind (arith, nat_tests))
  | inr o ↦ elim o [ inl l ↦ grind (arith, nat_tests) | inr g ↦ grind (arith, nat_tests) ]
]

more_fails : (t : ℕ → Bool) (n x : ℕ) → t n ≡ false → nat_lt x n && t x ≡ nat_lt x (n + 1) && t x
more_fails t n x h = elim (cases_order x n) [
  | inl e ↦ rw (e, h) (grind (arith, nat_tests))
  | inr o ↦ elim o [ inl l ↦ grind (arith, nat_tests) | inr g ↦ grind (arith, nat_tests) ]
]

-- a set of the packets whose number is below n and passes, and one of those with the number n
pub one_more : (a b new : DiagramsView) (set one all : PacketSet) (t : ℕ → Bool) (x : (ℕ → Bool) → ℕ) (n : ℕ) → t n ≡ true → Keeps a b
    → Means a set (λ f. nat_lt (x f) n && t (x f)) → Means b one (λ f. x f == n) → Means new all (λ f. holds b set f || holds b one f)
    → Means new all (λ f. nat_lt (x f) (n + 1) && t (x f))
one_more a b new set one all t x n passes k hs ho is =
    means_as new all _ _ (or_means b new set one all _ _ (means_kept a b set _ k hs) ho is) (λ f. more_passes t n (x f) passes)

pub none_more : (a : DiagramsView) (set : PacketSet) (t : ℕ → Bool) (x : (ℕ → Bool) → ℕ) (n : ℕ) → t n ≡ false
    → Means a set (λ f. nat_lt (x f) n && t (x f)) → Means a set (λ f. nat_lt (x f) (n + 1) && t (x f))
none_more a set t x n fails hs = means_as a set _ _ hs (λ f. more_fails t n (x f) fails)

below : (n x : ℕ) (b : Bool) → x < n → nat_lt x n && b ≡ b
below n x b h = grind (arith, nat_tests)

-- the numbers of a field are all below their limit
pub all_numbers : (a : DiagramsView) (set : PacketSet) (t : ℕ → Bool) (first width n : ℕ) → 2 ^ width ≤ n
    → Means a set (λ f. nat_lt (field_value first width f) n && t (field_value first width f)) → Means a set (λ f. t (field_value first width f))
all_numbers a set t first width n h hs =
    means_as a set _ _ hs (λ f. let l = value_less width first f in below n (field_value first width f) (t (field_value first width f)) (omega arith))

pub no_numbers : (a : DiagramsView) (set : PacketSet) (t : ℕ → Bool) (x : (ℕ → Bool) → ℕ) → Means a set (λ f. false)
    → Means a set (λ f. nat_lt (x f) 0 && t (x f))
no_numbers a set t x hs = means_as a set _ _ hs (λ f. grind (arith, nat_tests))

-- ---- numbers that don't fit

pub none_least : (a : DiagramsView) (set : PacketSet) (first width n : ℕ) → 2 ^ width ≤ n → Means a set (λ f. false)
    → Means a set (λ f. nat_le n (field_value first width f))
none_least a set first width n h hs =
    means_as a set _ _ hs (λ f. let l = value_less width first f in sym (lt-leb n (field_value first width f) (omega arith)))

pub all_most : (a : DiagramsView) (set : PacketSet) (first width n : ℕ) → 2 ^ width ≤ n → Means a set (λ f. true)
    → Means a set (λ f. nat_le (field_value first width f) n)
all_most a set first width n h hs =
    means_as a set _ _ hs (λ f. let l = value_less width first f in sym (le-leb (field_value first width f) n (omega arith)))

pub none_equal : (a : DiagramsView) (set : PacketSet) (first width n : ℕ) → 2 ^ width ≤ n → Means a set (λ f. false)
    → Means a set (λ f. field_value first width f == n)
none_equal a set first width n h hs = means_as a set _ _ hs (λ f. let l = value_less width first f in grind (arith, nat_tests))

pub one_within : (low high x : ℕ) → low ≡ high → x == low ≡ nat_le low x && nat_le x high
one_within low high x e = rw e (grind (arith, nat_tests))
