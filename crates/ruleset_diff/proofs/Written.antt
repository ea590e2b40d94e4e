-- What rules have written differs exactly where the facts do.
use Rattle.std.proofs.Common.{◌≡◌, ◌∙◌, ◌==◌, ◌&&◌, ◌||◌, not, nat_le, ℕ, Bool, true, false, List, cond, refl, ap, sym, arith, eq-eqb}
use Rattle.std.proofs.lemmas.Bool.{eqb-true, false≢true}
use Rattle.std.proofs.lemmas.Bool.Decides.{nat_tests}
use Rattle.ip_headers.specs.declared.tuple.Direction.TheVariants as directions
use Rattle.rule_meaning.specs.declared.facts.CtFacts.{CtFacts}
use Rattle.rule_meaning.specs.declared.facts.CtFacts.TheVariants as ct
use Rattle.rule_meaning.specs.declared.facts.Interface.{Interface}
use Rattle.fact_sets.specs.declared.written.MarkSource.{MarkSource}
use Rattle.fact_sets.specs.declared.written.Written.{Written}
use Rattle.fact_sets.specs.Facts.{TRACKING, ct_at, facts_of, mark_number, number_in, state_at}
use Rattle.ruleset_diff.specs.steps.Pieces.{has_connection, is_before_lookup, marks_differ, unlike, written_differ}

-- ---- tests

pub like_same : (a b : Bool) → unlike a b ≡ false → a ≡ b
like_same true true e = refl
like_same true false e = e
like_same false b e = sym e

pub same_like : (a b : Bool) → a ≡ b → unlike a b ≡ false
same_like true b e = rw (← e) refl
same_like false b e = sym e

pub apart_unlike : (a b : Bool) → (a ≡ b → ⊥) → unlike a b ≡ true
apart_unlike true true apart = absurd (apart refl)
apart_unlike true false apart = refl
apart_unlike false true apart = refl
apart_unlike false false apart = absurd (apart refl)

not-false : (b : Bool) → not b ≡ false → b ≡ true
not-false true e = refl
not-false false e = sym e

and-false : (a b : Bool) → (a && b) ≡ false → a ≡ true → b ≡ false
and-false true b e h = e
and-false false b e h = absurd (false≢true h)

either-false : (a b : Bool) → (a || b) ≡ false → (a ≡ false) × (b ≡ false)
either-false true b e = absurd (false≢true (sym e))
either-false false b e = (refl, e)

neither : (a b : Bool) → a ≡ false → b ≡ false → (a || b) ≡ false
neither a b ea eb = rw (ea, eb) refl

where-so : (a b : Bool) → (a ≡ true → b ≡ false) → (a && b) ≡ false
where-so true b h = h refl
where-so false b h = refl

pick : {X : Type 0} (b : Bool) (x y v w : X) → (b ≡ true → x ≡ v) → (b ≡ false → y ≡ w) → cond b x y ≡ cond b v w
pick true x y v w first second = first refl
pick false x y v w first second = second refl

-- ---- marks

pub same_marks : (a b : MarkSource) (p : ℕ → Bool) → marks_differ a b p ≡ false → mark_number a p ≡ mark_number b p
same_marks a b p e = eqb-true (mark_number a p) (mark_number b p) (not-false _ e)

pub marks_same : (a b : MarkSource) (p : ℕ → Bool) → mark_number a p ≡ mark_number b p → marks_differ a b p ≡ false
marks_same a b p e = ap not (eq-eqb (mark_number a p) (mark_number b p) e)

-- ---- what is known of the connection

known : ℕ → ℕ → (ℕ → Bool) → CtFacts
known n mark p = ct.Known (record {
  state = state_at n;
  direction = cond (p 26) directions.Reply directions.Original;
  mark = mark;
  seen_reply = p 29;
  source_translated = p 28;
  destination_translated = p 27;
})

tracked : ℕ → Bool → CtFacts → CtFacts
tracked n untracked behind = cond (n == 0) (cond untracked ct.Notrack ct.NotLookedUp)
    (cond (n == 1) ct.Notrack (cond (n == 2) ct.Untracked (cond (n == 3) ct.Invalid behind)))

is-tracked : (w : Written) (n : ℕ) (p : ℕ → Bool) → ct_at w n p ≡ tracked n w.untracked (known n (mark_number w.connection p) p)
unfolding tracked known
is-tracked w n p = refl

four : (n : ℕ) → (n == 0) ≡ false → (n == 1) ≡ false → (n == 2) ≡ false → (n == 3) ≡ false → nat_le 4 n ≡ true
four n a b c d = grind (arith, nat_tests)

past : (n k : ℕ) → nat_le 4 n ≡ true → nat_le k 3 ≡ true → (n == k) ≡ false
past n k h less = grind (arith, nat_tests)

tracked-same : (n : ℕ) (u v : Bool) (x y : CtFacts) → ((n == 0) ≡ true → u ≡ v) → (nat_le 4 n ≡ true → x ≡ y) → tracked n u x ≡ tracked n v y
unfolding tracked
tracked-same n u v x y early late =
    pick (n == 0) _ _ _ _ (λ e. ap (λ t. cond t ct.Notrack ct.NotLookedUp) (early e)) (λ e0.
    pick (n == 1) _ _ _ _ (λ e. refl) (λ e1.
    pick (n == 2) _ _ _ _ (λ e. refl) (λ e2.
    pick (n == 3) _ _ _ _ (λ e. refl) (λ e3. late (four n e0 e1 e2 e3)))))

tracked-early : (n : ℕ) (u : Bool) (x : CtFacts) → (n == 0) ≡ true → tracked n u x ≡ cond u ct.Notrack ct.NotLookedUp
unfolding tracked
tracked-early n u x e = rw e refl

tracked-late : (n : ℕ) (u : Bool) (x : CtFacts) → nat_le 4 n ≡ true → tracked n u x ≡ x
unfolding tracked
tracked-late n u x e = rw (past n 0 e refl, past n 1 e refl, past n 2 e refl, past n 3 e refl) refl

is-notrack : CtFacts → Bool
is-notrack ct.Notrack = true
is-notrack _ = false

notrack-is : (u : Bool) → is-notrack (cond u ct.Notrack ct.NotLookedUp) ≡ u
unfolding is-notrack
notrack-is true = refl
notrack-is false = refl

mark-of : CtFacts → ℕ
mark-of (ct.Known c) = c.mark
mark-of _ = 0

mark-is : (n mark : ℕ) (p : ℕ → Bool) → mark-of (known n mark p) ≡ mark
unfolding mark-of known
mark-is n mark p = refl

-- ---- facts

module _ (interfaces : List Interface) (w v : Written) (p : ℕ → Bool) where
  abbrev tracking : ℕ
  tracking = number_in TRACKING p

  same-ct : (is_before_lookup p && unlike w.untracked v.untracked) ≡ false
      → (has_connection p && marks_differ w.connection v.connection p) ≡ false → ct_at w tracking p ≡ ct_at v tracking p
  same-ct early late =
      is-tracked w tracking p
      ∙ tracked-same tracking w.untracked v.untracked _ _ (λ e. like_same _ _ (and-false _ _ early e))
      (λ e. ap (λ m. known tracking m p) (same_marks w.connection v.connection p (and-false _ _ late e)))
      ∙ sym (is-tracked v tracking p)

  pub facts_alike : written_differ w v p ≡ false → facts_of interfaces w p ≡ facts_of interfaces v p
  unfolding facts_of
  facts_alike e =
      let parts = either-false _ _ e in
      let marks = either-false _ _ parts.0 in
      let ct = same-ct parts.1 marks.1 in
      let mark = same_marks w.packet v.packet p marks.0 in
      rw (ct, mark) refl

  untracked-alike : ct_at w tracking p ≡ ct_at v tracking p → is_before_lookup p ≡ true → w.untracked ≡ v.untracked
  untracked-alike e early =
      sym (notrack-is w.untracked) ∙ ap is-notrack (sym (tracked-early tracking w.untracked _ early) ∙ sym (is-tracked w tracking p)
      ∙ e ∙ is-tracked v tracking p ∙ tracked-early tracking v.untracked _ early) ∙ notrack-is v.untracked

  marks-alike : ct_at w tracking p ≡ ct_at v tracking p → has_connection p ≡ true → mark_number w.connection p ≡ mark_number v.connection p
  marks-alike e late =
      sym (mark-is tracking (mark_number w.connection p) p) ∙ ap mark-of (sym (tracked-late tracking w.untracked _ late) ∙ sym (is-tracked w tracking p)
      ∙ e ∙ is-tracked v tracking p ∙ tracked-late tracking v.untracked _ late) ∙ mark-is tracking (mark_number v.connection p) p

  mark-part : facts_of interfaces w p ≡ facts_of interfaces v p → mark_number w.packet p ≡ mark_number v.packet p
  unfolding facts_of
  mark-part e = ap (λ f. f.mark) e

  ct-part : facts_of interfaces w p ≡ facts_of interfaces v p → ct_at w tracking p ≡ ct_at v tracking p
  unfolding facts_of
  ct-part e = ap (λ f. f.ct) e

  pub alike_facts : facts_of interfaces w p ≡ facts_of interfaces v p → written_differ w v p ≡ false
  alike_facts e =
      neither _ _
      (neither _ _ (marks_same w.packet v.packet p (mark-part e))
      (where-so _ _ (λ late. marks_same w.connection v.connection p (marks-alike (ct-part e) late))))
      (where-so _ _ (λ early. same_like _ _ (untracked-alike (ct-part e) early)))
