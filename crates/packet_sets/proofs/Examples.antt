-- The walk to an example.
use Rattle.std.proofs.Common.{◌≡◌, ◌≢◌, ◌∙◌, ◌==◌, ◌||◌, ◌++◌, ◌∷◌, [], ℕ, zero, suc, ◌<◌, ◌≤◌}
use Rattle.std.proofs.Common.{List, length, Bool, true, false, cond, refl, ap, sym, subst, arith, inl, inr}
use Rattle.std.proofs.lemmas.Bool.{OnFalse_from, OnTrue_from, cases_eq, cases_lt, eqb-false, eqb-true}
use Rattle.std.specs.Bool.{OnFalse, OnTrue}
use Rattle.std.proofs.lemmas.Bool.Decides.{nat_tests}
use Rattle.packet_sets.specs.declared.branch.Branch.{Branch}
use Rattle.packet_sets.specs.Sets.{branch_at, has_bit, meaning}
use Rattle.packet_sets.specs.steps.Nodes.{AreNodes, bit_of}
use Rattle.packet_sets.specs.steps.Walking.{IsAlong}
use Rattle.packet_sets.proofs.Walks.{meaning_all, meaning_at, meaning_none}

has-push : (bits : List ℕ) (bit b : ℕ) → has_bit (bits ++ bit ∷ []) b ≡ has_bit bits b || bit == b
unfolding has_bit
has-push [] bit b = elim (bit == b) as (λ v. v || false ≡ v) [ true ↦ refl | false ↦ refl ]
has-push (x ∷ xs) bit b =
    rw (has-push xs bit b) (elim (x == b) as (λ v. v || (has_bit xs b || bit == b) ≡ (v || has_bit xs b) || bit == b) [ true ↦ refl | false ↦ refl ])

has-other : (bits : List ℕ) (bit b : ℕ) → bit ≢ b → has_bit (bits ++ bit ∷ []) b ≡ has_bit bits b
has-other bits bit b h =
    let e : (bit == b) ≡ false = grind (arith, nat_tests) in
    has-push bits bit b ∙ ap (λ v. has_bit bits b || v) e ∙ elim (has_bit bits b) as (λ v. v || false ≡ v) [ true ↦ refl | false ↦ refl ]

has-new : (bits : List ℕ) (bit : ℕ) → has_bit (bits ++ bit ∷ []) bit ≡ true
has-new bits bit =
    let e : (bit == bit) ≡ true = grind (arith, nat_tests) in
    has-push bits bit bit ∙ ap (λ v. has_bit bits bit || v) e ∙ elim (has_bit bits bit) as (λ v. v || true ≡ true) [ true ↦ refl | false ↦ refl ]

pub along_first : (nodes : List Branch) (n : ℕ) → n < length nodes → n ≢ 0 → IsAlong nodes n [] n
unfolding has_bit
along_first nodes n below some = record { below = below; inner = some; absent = λ b h. refl; same = λ f h. refl }

pub along_high : (nodes : List Branch) (n at : ℕ) (bits : List ℕ) → AreNodes nodes → 2 ≤ at → IsAlong nodes n bits at → (branch_at nodes at).low ≡ 0
    → IsAlong nodes n (bits ++ bit_of nodes at ∷ []) (branch_at nodes at).high
along_high nodes n at bits are two is none =
    let i = are.branches at two is.below in
    let d = i.differ in
    let ha = i.high_after in
    record {
      below = omega (arith, i.high_before, is.below);
      inner = λ e. d (none ∙ sym e);
      absent = λ b h. has-other bits (bit_of nodes at) b (omega (arith, ha, h)) ∙ is.absent b (omega (arith, ha, h));
      same = λ f h.
          is.same f (λ b l. h b (omega (arith, ha, l)) ∙ has-other bits (bit_of nodes at) b (omega (arith, l)))
          ∙ meaning_at nodes at _ _ _ f are is.below refl
          ∙ ap (λ v. cond v (meaning nodes (branch_at nodes at).high f) (meaning nodes (branch_at nodes at).low f)) (h (bit_of nodes at) ha
          ∙ has-new bits (bit_of nodes at));
    }

pub along_low : (nodes : List Branch) (n at : ℕ) (bits : List ℕ) → AreNodes nodes → 2 ≤ at → IsAlong nodes n bits at → (branch_at nodes at).low ≢ 0
    → IsAlong nodes n bits (branch_at nodes at).low
along_low nodes n at bits are two is some =
    let i = are.branches at two is.below in
    let la = i.low_after in
    record {
      below = omega (arith, i.low_before, is.below);
      inner = some;
      absent = λ b h. is.absent b (omega (arith, la, h));
      same = λ f h.
          is.same f (λ b l. h b (omega (arith, la, l)))
          ∙ meaning_at nodes at _ _ _ f are is.below refl
          ∙ ap (λ v. cond v (meaning nodes (branch_at nodes at).high f) (meaning nodes (branch_at nodes at).low f)) (h (bit_of nodes at) la
          ∙ is.absent (bit_of nodes at) (omega arith));
    }

pub along_end : (nodes : List Branch) (n at : ℕ) (bits : List ℕ) → AreNodes nodes → at < 2 → IsAlong nodes n bits at → meaning nodes n (has_bit bits) ≡ true
along_end nodes n at bits are h is =
    let i = is.inner in
    let e : at ≡ 1 = omega arith in
    is.same (has_bit bits) (λ b l. refl) ∙ ap (λ x. meaning nodes x (has_bit bits)) e ∙ meaning_all nodes (has_bit bits) are

-- there is a packet from each node on the way
along-some : (k : ℕ) (nodes : List Branch) (n at : ℕ) (bits : List ℕ) → AreNodes nodes → at ≤ k → IsAlong nodes n bits at → (f : ℕ
    → Bool) × (meaning nodes n f ≡ true)
along-some zero nodes n at bits are h is = (has_bit bits, along_end nodes n at bits are (omega arith) is)
along-some (suc k) nodes n at bits are h is = elim (cases_lt at 2) [
  | inl l ↦ (has_bit bits, along_end nodes n at bits are l is)
  | inr two ↦
      let i = are.branches at two is.below in
      elim (cases_eq (branch_at nodes at).low 0) [
        | inl none ↦ along-some k nodes n (branch_at nodes at).high (bits ++ bit_of nodes at ∷ []) are (omega (arith, i.high_before)) (along_high nodes n
            at bits are two is none)
        | inr some ↦ along-some k nodes n (branch_at nodes at).low bits are (omega (arith, i.low_before)) (along_low nodes n at bits are two is some)
      ]
]

pub some_packet : (nodes : List Branch) (n : ℕ) → AreNodes nodes → n < length nodes → n ≢ 0 → (f : ℕ → Bool) × (meaning nodes n f ≡ true)
some_packet nodes n are below some = along-some n nodes n n [] are (omega arith) (along_first nodes n below some)

pub never : (nodes : List Branch) (n : ℕ) → OnTrue (n == 0) ((f : ℕ → Bool) → meaning nodes n f ≡ false)
never nodes n = OnTrue_from (n == 0) ((f : ℕ → Bool) → meaning nodes n f ≡ false) (λ e f. ap (λ x. meaning nodes x f) (eqb-true n 0 e) ∙ meaning_none nodes f)

pub sometimes : (nodes : List Branch) (n : ℕ) → AreNodes nodes → n < length nodes → OnFalse (n == 0) ((f : ℕ → Bool) × (meaning nodes n f ≡ true))
sometimes nodes n are below = OnFalse_from (n == 0) ((f : ℕ → Bool) × (meaning nodes n f ≡ true)) (λ e. some_packet nodes n are below (eqb-false n 0 e))

-- ---- the same, where a node was read

pub high_read : (nodes : List Branch) (n at : ℕ) (bits items : List ℕ) (b : Branch) → AreNodes nodes → 1 < at → IsAlong nodes n bits at
    → b ≡ branch_at nodes at → items ≡ bits ++ b.bit ∷ []
    → b.low ≡ 0 → IsAlong nodes n items b.high
high_read nodes n at bits items b are two is read e none =
    let r = sym read in
    let P : Branch → Type 0 = λ x. IsAlong nodes n (bits ++ x.bit ∷ []) x.high in
    subst (λ xs. IsAlong nodes n xs b.high) (sym e) (subst P r (along_high nodes n at bits are (omega arith) is (ap (λ x. x.low) r ∙ none)))

pub low_read : (nodes : List Branch) (n at : ℕ) (bits : List ℕ) (b : Branch) → AreNodes nodes → 1 < at → IsAlong nodes n bits at → b ≡ branch_at nodes at
    → b.low ≢ 0 → IsAlong nodes n bits b.low
low_read nodes n at bits b are two is read some =
    let r = sym read in
    let P : Branch → Type 0 = λ x. IsAlong nodes n bits x.low in
    subst P r (along_low nodes n at bits are (omega arith) is (λ z. some (sym (ap (λ x. x.low) r) ∙ z)))
