-- Results of operations.
use Rattle.std.proofs.Common.{◌≡◌, ◌∙◌, ◌-◌, ◌^◌, ◌&&◌, ◌||◌, not, ℕ, suc, ◌<◌, ◌≤◌, List, length}
use Rattle.std.proofs.Common.{Bool, true, false, cond, refl, ap, sym, subst, arith, get_or, inl, inr, replicate, set}
use Rattle.std.proofs.lemmas.Bool.{cases_lt}
use Rattle.std.proofs.lemmas.List.Elements.{All-get_or, All-replicate, All-set, All-weaker}
use Rattle.packet_sets.specs.declared.branch.Branch.{Branch}
use Rattle.packet_sets.specs.declared.diagrams.Step.{Step}
use Rattle.packet_sets.specs.declared.memo.Entry.{Entry}
use Rattle.packet_sets.specs.declared.operation.Operation.{Operation}
use Rattle.packet_sets.specs.declared.operation.Operation.TheVariants.{And, Or, Without}
use Rattle.packet_sets.specs.Sets.{DiagramsView, meaning}
use Rattle.packet_sets.specs.steps.Nodes.{AreNodes, Grows, IsJoined, IsPart, bit_of}
use Rattle.packet_sets.specs.steps.Operations.{AreRight, IsResult, IsRight, IsStep, combined}
use Rattle.packet_sets.proofs.Walks.{end_at, grows_trans, meaning_all, meaning_none}

-- ---- results without a walk

pub bit_most : (nodes : List Branch) (n : ℕ) → AreNodes nodes → n < length nodes → bit_of nodes n ≤ 2 ^ 32 - 1
bit_most nodes n are below = elim (cases_lt n 2) [
  | inl h ↦ let e = end_at nodes n are h in omega arith
  | inr h ↦ let b = (are.branches n h below).bit in omega arith
]

to-end : (nodes : List Branch) (operation : Operation) (l r n : ℕ) → AreNodes nodes → l < length nodes → n < 2
    → ((f : ℕ → Bool) → meaning nodes n f ≡ combined operation (meaning nodes l f) (meaning nodes r f)) → IsResult nodes operation l r n
to-end nodes operation l r n are left h same =
    let e = end_at nodes n are h in
    let m = bit_most nodes l are left in
    let two = are.ends in
    record { below = omega arith; after = λ bit hl hr. omega arith; meaning = same }

to-left : (nodes : List Branch) (operation : Operation) (l r : ℕ) → l < length nodes
    → ((f : ℕ → Bool) → meaning nodes l f ≡ combined operation (meaning nodes l f) (meaning nodes r f)) → IsResult nodes operation l r l
to-left nodes operation l r left same = record { below = left; after = λ bit hl hr. hl; meaning = same }

to-right : (nodes : List Branch) (operation : Operation) (l r : ℕ) → r < length nodes
    → ((f : ℕ → Bool) → meaning nodes r f ≡ combined operation (meaning nodes l f) (meaning nodes r f)) → IsResult nodes operation l r r
to-right nodes operation l r right same = record { below = right; after = λ bit hl hr. hr; meaning = same }

none-is : (nodes : List Branch) (n : ℕ) (f : ℕ → Bool) → n ≡ 0 → meaning nodes n f ≡ false
none-is nodes n f e = ap (λ x. meaning nodes x f) e ∙ meaning_none nodes f

all-is : (nodes : List Branch) (n : ℕ) (f : ℕ → Bool) → AreNodes nodes → n ≡ 1 → meaning nodes n f ≡ true
all-is nodes n f are e = ap (λ x. meaning nodes x f) e ∙ meaning_all nodes f are

same-is : (nodes : List Branch) (l r : ℕ) (f : ℕ → Bool) → l ≡ r → meaning nodes r f ≡ meaning nodes l f
same-is nodes l r f e = ap (λ x. meaning nodes x f) (sym e)

and-false : (a : Bool) → false ≡ a && false
and-false a = elim a as (λ v. false ≡ v && false) [ true ↦ refl | false ↦ refl ]

and-true : (a : Bool) → a ≡ a && true
and-true a = elim a as (λ v. v ≡ v && true) [ true ↦ refl | false ↦ refl ]

and-same : (a : Bool) → a ≡ a && a
and-same a = elim a as (λ v. v ≡ v && v) [ true ↦ refl | false ↦ refl ]

and-not : (a : Bool) → false ≡ a && not a
and-not a = elim a as (λ v. false ≡ v && not v) [ true ↦ refl | false ↦ refl ]

or-true : (a : Bool) → true ≡ a || true
or-true a = elim a as (λ v. true ≡ v || true) [ true ↦ refl | false ↦ refl ]

or-false : (a : Bool) → a ≡ a || false
or-false a = elim a as (λ v. v ≡ v || false) [ true ↦ refl | false ↦ refl ]

or-same : (a : Bool) → a ≡ a || a
or-same a = elim a as (λ v. v ≡ v || v) [ true ↦ refl | false ↦ refl ]

pub and_left_none : (nodes : List Branch) (l r : ℕ) → AreNodes nodes → l < length nodes → r < length nodes → l ≡ 0 → IsResult nodes And l r 0
and_left_none nodes l r are hl hr e = to-end nodes And l r 0 are hl (omega arith) (λ f. meaning_none nodes f
    ∙ ap (λ v. v && meaning nodes r f) (sym (none-is nodes l f e)))

pub and_right_none : (nodes : List Branch) (l r : ℕ) → AreNodes nodes → l < length nodes → r < length nodes → r ≡ 0 → IsResult nodes And l r 0
and_right_none nodes l r are hl hr e = to-end nodes And l r 0 are hl (omega arith)
    (λ f. meaning_none nodes f ∙ and-false (meaning nodes l f) ∙ ap (λ v. meaning nodes l f && v) (sym (none-is nodes r f e)))

pub and_left_all : (nodes : List Branch) (l r : ℕ) → AreNodes nodes → l < length nodes → r < length nodes → l ≡ 1 → IsResult nodes And l r r
and_left_all nodes l r are hl hr e = to-right nodes And l r hr (λ f. ap (λ v. v && meaning nodes r f) (sym (all-is nodes l f are e)))

pub and_right_all : (nodes : List Branch) (l r : ℕ) → AreNodes nodes → l < length nodes → r < length nodes → r ≡ 1 → IsResult nodes And l r l
and_right_all nodes l r are hl hr e = to-left nodes And l r hl (λ f. and-true (meaning nodes l f)
    ∙ ap (λ v. meaning nodes l f && v) (sym (all-is nodes r f are e)))

pub and_same : (nodes : List Branch) (l r : ℕ) → AreNodes nodes → l < length nodes → r < length nodes → l ≡ r → IsResult nodes And l r l
and_same nodes l r are hl hr e = to-left nodes And l r hl (λ f. and-same (meaning nodes l f) ∙ ap (λ v. meaning nodes l f && v) (sym (same-is nodes l r f e)))

pub or_left_all : (nodes : List Branch) (l r : ℕ) → AreNodes nodes → l < length nodes → r < length nodes → l ≡ 1 → IsResult nodes Or l r 1
or_left_all nodes l r are hl hr e = to-end nodes Or l r 1 are hl (omega arith) (λ f. meaning_all nodes f are
    ∙ ap (λ v. v || meaning nodes r f) (sym (all-is nodes l f are e)))

pub or_right_all : (nodes : List Branch) (l r : ℕ) → AreNodes nodes → l < length nodes → r < length nodes → r ≡ 1 → IsResult nodes Or l r 1
or_right_all nodes l r are hl hr e = to-end nodes Or l r 1 are hl (omega arith)
    (λ f. meaning_all nodes f are ∙ or-true (meaning nodes l f) ∙ ap (λ v. meaning nodes l f || v) (sym (all-is nodes r f are e)))

pub or_left_none : (nodes : List Branch) (l r : ℕ) → AreNodes nodes → l < length nodes → r < length nodes → l ≡ 0 → IsResult nodes Or l r r
or_left_none nodes l r are hl hr e = to-right nodes Or l r hr (λ f. ap (λ v. v || meaning nodes r f) (sym (none-is nodes l f e)))

pub or_right_none : (nodes : List Branch) (l r : ℕ) → AreNodes nodes → l < length nodes → r < length nodes → r ≡ 0 → IsResult nodes Or l r l
or_right_none nodes l r are hl hr e = to-left nodes Or l r hl (λ f. or-false (meaning nodes l f) ∙ ap (λ v. meaning nodes l f || v) (sym (none-is nodes r f e)))

pub or_same : (nodes : List Branch) (l r : ℕ) → AreNodes nodes → l < length nodes → r < length nodes → l ≡ r → IsResult nodes Or l r l
or_same nodes l r are hl hr e = to-left nodes Or l r hl (λ f. or-same (meaning nodes l f) ∙ ap (λ v. meaning nodes l f || v) (sym (same-is nodes l r f e)))

pub without_left_none : (nodes : List Branch) (l r : ℕ) → AreNodes nodes → l < length nodes → r < length nodes → l ≡ 0 → IsResult nodes Without l r 0
without_left_none nodes l r are hl hr e = to-end nodes Without l r 0 are hl (omega arith) (λ f. meaning_none nodes f
    ∙ ap (λ v. v && not (meaning nodes r f)) (sym (none-is nodes l f e)))

pub without_right_all : (nodes : List Branch) (l r : ℕ) → AreNodes nodes → l < length nodes → r < length nodes → r ≡ 1 → IsResult nodes Without l r 0
without_right_all nodes l r are hl hr e = to-end nodes Without l r 0 are hl (omega arith)
    (λ f. meaning_none nodes f ∙ and-false (meaning nodes l f) ∙ ap (λ v. meaning nodes l f && not v) (sym (all-is nodes r f are e)))

pub without_right_none : (nodes : List Branch) (l r : ℕ) → AreNodes nodes → l < length nodes → r < length nodes → r ≡ 0 → IsResult nodes Without l r l
without_right_none nodes l r are hl hr e = to-left nodes Without l r hl (λ f. and-true (meaning nodes l f)
    ∙ ap (λ v. meaning nodes l f && not v) (sym (none-is nodes r f e)))

pub without_same : (nodes : List Branch) (l r : ℕ) → AreNodes nodes → l < length nodes → r < length nodes → l ≡ r → IsResult nodes Without l r 0
without_same nodes l r are hl hr e = to-end nodes Without l r 0 are hl (omega arith)
    (λ f. meaning_none nodes f ∙ and-not (meaning nodes l f) ∙ ap (λ v. meaning nodes l f && not v) (sym (same-is nodes l r f e)))

-- ---- results where there are more nodes

pub result_grows : (old new : DiagramsView) (operation : Operation) (l r n : ℕ) → Grows old new → l < length old.nodes → r < length old.nodes
    → IsResult old.nodes operation l r n → IsResult new.nodes operation l r n
result_grows old new operation l r n g hl hr is = record {
  below = omega (arith, is.below, g.longer);
  after = λ bit a b.
      let m = is.after bit (subst (λ x. bit ≤ x) (g.bits l hl) a) (subst (λ x. bit ≤ x) (g.bits r hr) b) in
      subst (λ x. bit ≤ x) (sym (g.bits n is.below)) m;
  meaning = λ f. rw (g.same n f is.below, g.same l f hl, g.same r f hr) (is.meaning f);
}

pub right_grows : (old new : DiagramsView) (entries : List Entry) → Grows old new → AreRight old.nodes entries → AreRight new.nodes entries
right_grows old new entries g = All-weaker (λ e. IsRight old.nodes e) (λ e. IsRight new.nodes e) (λ e is. record {
  left = omega (arith, is.left, g.longer);
  right = omega (arith, is.right, g.longer);
  result = result_grows old new e.operation e.left e.right e.result g is.left is.right is.result;
}) entries

-- ---- a result by a bit

combined-cond : (operation : Operation) (b x y z w : Bool) → cond b (combined operation x z) (combined operation y w) ≡ combined operation (cond b x y)
    (cond b z w)
combined-cond operation b x y z w =
    elim b as (λ v. cond v (combined operation x z) (combined operation y w) ≡ combined operation (cond v x y) (cond v z w)) [ true ↦ refl | false ↦ refl ]

-- the result of two nodes by what their parts' results are joined to
pub joined_result : (nodes : List Branch) (operation : Operation) (l r : ℕ) (step : Step) (low high n : ℕ)
    → ((f : ℕ → Bool) → meaning nodes l f ≡ cond (f step.bit) (meaning nodes step.left.high f) (meaning nodes step.left.low f))
    → ((f : ℕ → Bool) → meaning nodes r f ≡ cond (f step.bit) (meaning nodes step.right.high f) (meaning nodes step.right.low f))
    → IsResult nodes operation step.left.low step.right.low low → IsResult nodes operation step.left.high step.right.high high
    → IsJoined nodes step.bit low high n → ((bit : ℕ) → bit ≤ bit_of nodes l → bit ≤ bit_of nodes r → bit ≤ step.bit) → IsResult nodes operation l r n
joined_result nodes operation l r step low high n left right lows highs joined least = record {
  below = joined.below;
  after = λ bit a b. let m = least bit a b in omega (arith, m, joined.after);
  meaning = λ f.
      joined.meaning f ∙ ap (λ x. cond (f step.bit) x (meaning nodes low f)) (highs.meaning f)
      ∙ ap (λ x. cond (f step.bit) (combined operation (meaning nodes step.left.high f) (meaning nodes step.right.high f)) x) (lows.meaning f)
      ∙ combined-cond operation (f step.bit) (meaning nodes step.left.high f) (meaning nodes step.left.low f) (meaning nodes step.right.high f) (meaning
      nodes step.right.low f)
      ∙ ap (λ x. combined operation x (cond (f step.bit) (meaning nodes step.right.high f) (meaning nodes step.right.low f))) (sym (left f))
      ∙ ap (λ x. combined operation (meaning nodes l f) x) (sym (right f));
}

-- what a part tells, where there are more nodes
part-grows : (old new : DiagramsView) (n bit : ℕ) (part : Branch) → Grows old new → n < length old.nodes → IsPart old.nodes n bit part
    → (f : ℕ → Bool) → meaning new.nodes n f ≡ cond (f bit) (meaning new.nodes part.high f) (meaning new.nodes part.low f)
part-grows old new n bit part g below is f =
    rw (g.same n f below, g.same part.high f (omega (arith, is.high_most)), g.same part.low f (omega (arith, is.low_most))) (is.meaning f)

pub applied : (d a b c : DiagramsView) (operation : Operation) (l r : ℕ) (step : Step) (low high n : ℕ) → l < length d.nodes → r < length d.nodes
    → IsStep d.nodes l r step
    → Grows d a → IsResult a.nodes operation step.left.low step.right.low low → Grows a b → IsResult b.nodes operation step.left.high step.right.high high
    → Grows b c → IsJoined c.nodes step.bit low high n → IsResult c.nodes operation l r n
applied d a b c operation l r step low high n hl hr is da lows ab highs bc joined =
    let db = grows_trans d a b da ab in
    let dc = grows_trans d b c db bc in
    let ac = grows_trans a b c ab bc in
    let pl = is.left_part in
    let pr = is.right_part in
    joined_result c.nodes operation l r step low high n (part-grows d c l step.bit step.left dc hl is.left_part) (part-grows d c r step.bit step.right dc
    hr is.right_part)
    (result_grows a c operation step.left.low step.right.low low ac (omega (arith, pl.low_most, hl, da.longer)) (omega (arith, pr.low_most, hr, da.longer))
    lows)
    (result_grows b c operation step.left.high step.right.high high bc (omega (arith, pl.high_most, hl, db.longer)) (omega (
      arith,
      pr.high_most,
      hr,
      db.longer,
    )) highs)
    joined (λ bit x y. is.least bit (subst (λ v. bit ≤ v) (dc.bits l hl) x) (subst (λ v. bit ≤ v) (dc.bits r hr) y))

-- the results of the parts have later bits
pub result_after : (d a : DiagramsView) (operation : Operation) (bit l r n : ℕ) → Grows d a → l < length d.nodes → r < length d.nodes
    → bit < bit_of d.nodes l → bit < bit_of d.nodes r
    → IsResult a.nodes operation l r n → bit < bit_of a.nodes n
result_after d a operation bit l r n g hl hr bl br is =
    let x = g.bits l hl in
    let y = g.bits r hr in
    let m = is.after (suc bit) (omega (arith, x, bl)) (omega (arith, y, br)) in omega (arith, m)

-- ---- the memo

pub begun : (nodes : List Branch) (n : ℕ) → AreNodes nodes → AreRight nodes (replicate n (record { operation = And; left = 0; right = 0; result = 0 }))
begun nodes n are =
    let two = are.ends in
    let first : Entry = record { operation = And; left = 0; right = 0; result = 0 } in
    All-replicate (λ e. IsRight nodes e) n first (record {
      left = omega arith;
      right = omega arith;
      result = and_left_none nodes 0 0 are (omega arith)
          (omega arith) refl;
    })

pub recalled : (nodes : List Branch) (entries : List Entry) (place : ℕ) (e : Entry) (operation : Operation) (l r : ℕ) → AreRight nodes entries
    → place < length entries
    → e ≡ get_or entries place e → e.operation ≡ operation → e.left ≡ l → e.right ≡ r → IsResult nodes operation l r e.result
recalled nodes entries place e operation l r are below read eo el er =
    let is : IsRight nodes e = subst (λ x. IsRight nodes x) (sym read) (All-get_or (λ x. IsRight nodes x) entries place e below are) in
    subst (λ x. IsResult nodes operation l x e.result) er
    (subst (λ x. IsResult nodes operation x e.right e.result) el (subst (λ x. IsResult nodes x e.left e.right e.result) eo is.result))

pub kept : (nodes : List Branch) (entries : List Entry) (place : ℕ) (e : Entry) → AreRight nodes entries → IsRight nodes e
    → AreRight nodes (set entries place e)
kept nodes entries place e are is = All-set (λ x. IsRight nodes x) entries place e is are
