-- Fields compared with numbers.
use Rattle.std.proofs.Common.{◌≡◌, ◌∙◌, ◌-◌, ◌^◌, ℕ, zero, suc, ◌<◌, ◌≤◌, ◌+◌, List, length, Bool, true, false, cond, refl, ap, sym, subst, arith, lit<}
use Rattle.std.proofs.lemmas.Bool.Decides.{nat_tests}
use Rattle.std.proofs.Math.Nat.{pow-suc}
use Rattle.packet_sets.specs.declared.branch.Branch.{Branch}
use Rattle.packet_sets.specs.declared.fields.Comparison.{Comparison}
use Rattle.packet_sets.specs.declared.fields.Comparison.TheVariants.{AtLeast, AtMost, Equal}
use Rattle.packet_sets.specs.declared.fields.Field.{Field}
use Rattle.packet_sets.specs.Sets.{DiagramsView, field_value, meaning}
use Rattle.packet_sets.specs.steps.Nodes.{AreNodes, Grows, IsJoined, bit_of}
use Rattle.packet_sets.specs.steps.Comparisons.{IsComparison, compared, greater_passes, less_passes}
use Rattle.packet_sets.proofs.Walks.{end_at, meaning_all, meaning_none}

-- ---- numbers

pub power_split : (width : ℕ) → 0 < width → 2 ^ width ≡ 2 ^ (width - 1) + 2 ^ (width - 1)
power_split zero h = absurd (omega arith)
power_split (suc width) h =
    let e : suc width - 1 ≡ width = omega arith in
    let p = pow-suc 2 width in
    rw e (omega (arith, p))

pub value_split : (first width : ℕ) (f : ℕ → Bool) → 0 < width → field_value first width f ≡ cond (f first) (2 ^ (width - 1)) 0 + field_value (first + 1)
    (width - 1) f
unfolding field_value
value_split first zero f h = absurd (omega arith)
value_split first (suc width) f h = let e : suc width - 1 ≡ width = omega arith in rw e refl

cond-most : (b : Bool) (x : ℕ) → cond b x 0 ≤ x
cond-most b x = elim b as (λ v. cond v x 0 ≤ x) [ true ↦ omega arith | false ↦ omega arith ]

pub value_less : (width first : ℕ) (f : ℕ → Bool) → field_value first width f < 2 ^ width
unfolding field_value
value_less zero first f = lit< tt
value_less (suc width) first f =
    let r = value_less width (first + 1) f in
    let c = cond-most (f first) (2 ^ width) in
    let p = pow-suc 2 width in
    omega (arith, r, c, p)

-- ---- one bit more

high-true : (c : Comparison) (half rest number : ℕ) → rest < half → half ≤ number → compared c rest (number - half) ≡ compared c (half + rest) number
high-true AtLeast half rest number h n = grind (arith, nat_tests)
high-true AtMost half rest number h n = grind (arith, nat_tests)
high-true Equal half rest number h n = grind (arith, nat_tests)

high-false : (c : Comparison) (half rest number : ℕ) → rest < half → half ≤ number → less_passes c ≡ compared c (0 + rest) number
high-false AtLeast half rest number h n = grind (arith, nat_tests)
high-false AtMost half rest number h n = grind (arith, nat_tests)
high-false Equal half rest number h n = grind (arith, nat_tests)

low-true : (c : Comparison) (half rest number : ℕ) → rest < half → number < half → greater_passes c ≡ compared c (half + rest) number
low-true AtLeast half rest number h n = grind (arith, nat_tests)
low-true AtMost half rest number h n = grind (arith, nat_tests)
low-true Equal half rest number h n = grind (arith, nat_tests)

low-false : (c : Comparison) (half rest number : ℕ) → rest < half → number < half → compared c rest number ≡ compared c (0 + rest) number
low-false c half rest number h n = let e : 0 + rest ≡ rest = omega arith in rw e refl

step-high : (c : Comparison) (b : Bool) (half rest number : ℕ) → rest < half → half ≤ number
    → cond b (compared c rest (number - half)) (less_passes c) ≡ compared c (cond b half 0 + rest) number
step-high c b half rest number h n = elim b as (λ v. cond v (compared c rest (number - half)) (less_passes c) ≡ compared c (cond v half 0 + rest) number) [
  | true ↦ high-true c half rest number h n
  | false ↦ high-false c half rest number h n
]

step-low : (c : Comparison) (b : Bool) (half rest number : ℕ) → rest < half → number < half
    → cond b (greater_passes c) (compared c rest number) ≡ compared c (cond b half 0 + rest) number
step-low c b half rest number h n = elim b as (λ v. cond v (greater_passes c) (compared c rest number) ≡ compared c (cond v half 0 + rest) number) [
  | true ↦ low-true c half rest number h n
  | false ↦ low-false c half rest number h n
]

-- the end that stands for a truth value
pub end_means : (nodes : List Branch) (b : Bool) (f : ℕ → Bool) → AreNodes nodes → meaning nodes (cond b 1 0) f ≡ b
end_means nodes b f are = elim b as (λ v. meaning nodes (cond v 1 0) f ≡ v) [ true ↦ meaning_all nodes f are | false ↦ meaning_none nodes f ]

pub end_below : (nodes : List Branch) (b : Bool) → AreNodes nodes → cond b 1 0 < length nodes
end_below nodes b are = let two = are.ends in elim b as (λ v. cond v 1 0 < length nodes) [ true ↦ omega arith | false ↦ omega arith ]

pub end_after : (nodes : List Branch) (b : Bool) → AreNodes nodes → bit_of nodes (cond b 1 0) ≡ 2 ^ 32 - 1
end_after nodes b are = elim b as (λ v. bit_of nodes (cond v 1 0) ≡ 2 ^ 32 - 1) [ true ↦ end_at nodes 1 are (lit< tt) | false ↦ end_at nodes 0 are (lit< tt) ]

-- ---- results

zeros : (c : Comparison) (first : ℕ) (f : ℕ → Bool) → compared c (field_value first 0 f) 0 ≡ true
unfolding field_value
zeros AtLeast first f = refl
zeros AtMost first f = refl
zeros Equal first f = refl

pub compared_none : (nodes : List Branch) (c : Comparison) (field : Field) (number : ℕ) → AreNodes nodes → field.width ≡ 0 → field.first < 2 ^ 32
    → number < 2 ^ field.width → IsComparison nodes c field number 1
compared_none nodes c field number are e small n =
    let two = are.ends in
    let p : number < 2 ^ 0 = subst (λ w. number < 2 ^ w) e n in
    let z : number ≡ 0 = omega (arith, p) in
    record {
      below = omega arith;
      after = omega (arith, end_at nodes 1 are (lit< tt));
      meaning = λ f. meaning_all nodes f are ∙ sym (ap (λ w. compared c (field_value field.first w f) number) e
          ∙ ap (λ x. compared c (field_value field.first 0 f) x) z ∙ zeros c field.first f);
    }

pub compared_high : (nodes new : DiagramsView) (c : Comparison) (field : Field) (number less high n : ℕ) → Grows nodes new → AreNodes nodes.nodes
    → 0 < field.width → 2 ^ (field.width - 1) ≤ number
    → less ≡ cond (less_passes c) 1 0 → IsComparison nodes.nodes c (record { first = field.first + 1; width = field.width - 1 }) (number - 2 ^ (field.width
    - 1)) high
    → IsJoined new.nodes field.first less high n → IsComparison new.nodes c field number n
compared_high nodes new c field number less high n g are wide big is highs joined = record {
  below = joined.below;
  after = joined.after;
  meaning = λ f.
      let rest = field_value (field.first + 1) (field.width - 1) f in
      let two = end_below nodes.nodes (less_passes c) are in
      let lm : meaning new.nodes less f ≡ less_passes c = ap (λ x. meaning new.nodes x f) is ∙ g.same (cond (less_passes c) 1 0) f two
      ∙ end_means nodes.nodes (less_passes c) f are in
      let hm : meaning new.nodes high f ≡ compared c rest (number - 2 ^ (field.width - 1)) = g.same high f highs.below ∙ highs.meaning f in
      joined.meaning f ∙ ap (λ x. cond (f field.first) x (meaning new.nodes less f)) hm
      ∙ ap (λ x. cond (f field.first) (compared c rest (number - 2 ^ (field.width - 1))) x) lm
      ∙ step-high c (f field.first) (2 ^ (field.width - 1)) rest number (value_less (field.width - 1) (field.first + 1) f) big
      ∙ ap (λ x. compared c x number) (sym (value_split field.first field.width f wide));
}

pub compared_low : (nodes new : DiagramsView) (c : Comparison) (field : Field) (number greater low n : ℕ) → Grows nodes new → AreNodes nodes.nodes
    → 0 < field.width → number < 2 ^ (field.width - 1)
    → greater ≡ cond (greater_passes c) 1 0 → IsComparison nodes.nodes c (record { first = field.first + 1; width = field.width - 1 }) number low
    → IsJoined new.nodes field.first low greater n → IsComparison new.nodes c field number n
compared_low nodes new c field number greater low n g are wide small is lows joined = record {
  below = joined.below;
  after = joined.after;
  meaning = λ f.
      let rest = field_value (field.first + 1) (field.width - 1) f in
      let two = end_below nodes.nodes (greater_passes c) are in
      let gm : meaning new.nodes greater f ≡ greater_passes c = ap (λ x. meaning new.nodes x f) is ∙ g.same (cond (greater_passes c) 1 0) f two
      ∙ end_means nodes.nodes (greater_passes c) f are in
      let lm : meaning new.nodes low f ≡ compared c rest number = g.same low f lows.below ∙ lows.meaning f in
      joined.meaning f ∙ ap (λ x. cond (f field.first) x (meaning new.nodes low f)) gm
      ∙ ap (λ x. cond (f field.first) (greater_passes c) x) lm
      ∙ step-low c (f field.first) (2 ^ (field.width - 1)) rest number (value_less (field.width - 1) (field.first + 1) f) small
      ∙ ap (λ x. compared c x number) (sym (value_split field.first field.width f wide));
}
