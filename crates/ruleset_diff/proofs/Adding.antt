-- Sets of packets that are added one after another.
use Rattle.std.proofs.Common.{◌≡◌, ◌∙◌, ◌&&◌, ◌||◌, ◌==◌, ◌+◌, ◌-◌, ◌^◌, ◌<◌, ◌≤◌, not, ℕ, suc, Bool, true, false, cond, List, [], ◌∷◌, ◌++◌, All, refl, ap, sym, subst, arith, eq-eqb, Result, Ok, Err, OnOk}
use Rattle.std.proofs.lemmas.Bool.{false≢true}
use Rattle.std.proofs.lemmas.Bool.Decides.{nat_tests}
use Rattle.std.proofs.lemmas.List.Elements.{All-head, All-nil, All-push, All-tail, All-weaker}
use Rattle.std.proofs.lemmas.List.Folds.{list_any-append}
use Rattle.packet_sets.specs.declared.packet_set.PacketSet.{PacketSet}
use Rattle.packet_sets.specs.Sets.{DiagramsView, IsSet, Keeps, Means, field_value, holds}
use Rattle.rule_meaning.specs.declared.event.HookVerdict.{HookVerdict}
use Rattle.rule_meaning.specs.declared.event.HookVerdict.TheVariants.{Dropped}
use Rattle.fact_sets.specs.Facts.{CT_MARK, MARK, mark_number, facts_of}
use Rattle.fact_sets.specs.declared.written.Written.{Written}
use Rattle.packet_sets.specs.declared.fault.SetError.{SetError}
use Rattle.stage_sets.specs.declared.outcome.StageOutcome.{StageOutcome}
use Rattle.rule_meaning.specs.Same.{GoesOn}
use Rattle.fact_sets.specs.declared.written.MarkSource.{MarkSource}
use Rattle.fact_sets.specs.declared.written.MarkSource.TheVariants as sources
use Rattle.fact_sets.proofs.FieldNumbers.{value_less}
use Rattle.fact_sets.proofs.SetLaws.{keeps_same, keeps_trans, means_kept}
use Rattle.ruleset_diff.proofs.Written.{alike_facts}
use Rattle.ruleset_diff.specs.steps.Pieces.{AddsPieces, ArePieces, connection_mark_bit, has_connection, is_before_lookup, mark_bit, marks_differ}
use Rattle.ruleset_diff.specs.steps.Pieces.{some_has, unlike, written_differ}

or-assoc : (a b c : Bool) → ((a || b) || c) ≡ (a || (b || c))
or-assoc true b c = refl
or-assoc false b c = refl

or-none : (a b : Bool) → b ≡ false → a ≡ (a || b)
or-none true b e = refl
or-none false b e = sym e

or-one : (a b : Bool) → (a || (b || false)) ≡ (a || b)
or-one true b = refl
or-one false true = refl
or-one false false = refl

pub some_kept : (d e : DiagramsView) (sets : List PacketSet) (p : ℕ → Bool) → Keeps d e → All (IsSet d) sets → some_has e sets p ≡ some_has d sets p
some_kept d e [] p k all = refl
some_kept d e (s ∷ ss) p k all =
    ap (λ x. x || some_has e ss p) (k.same s p (All-head (IsSet d) s ss all))
    ∙ ap (λ x. holds d s p || x) (some_kept d e ss p k (All-tail (IsSet d) s ss all))

all_kept : (d e : DiagramsView) (sets : List PacketSet) → Keeps d e → All (IsSet d) sets → All (IsSet e) sets
all_kept d e sets k all = All-weaker (IsSet d) (IsSet e) (λ s h. k.sets s h) sets all

pub one_added : (d e : DiagramsView) (before after : List PacketSet) (set : PacketSet) (test : (ℕ → Bool) → Bool) → Keeps d e
    → after ≡ before ++ set ∷ [] → Means e set test → AddsPieces d e before after test
one_added d e before after set test k pushed is = subst (λ l. AddsPieces d e before l test) (sym pushed) (record {
  sets = λ all. All-push (IsSet e) before set (all_kept d e before k all) is.is_set;
  same = λ all p. list_any-append (λ s. holds e s p) before (set ∷ [])
      ∙ or-one (some_has e before p) (holds e set p)
      ∙ ap (λ x. x || holds e set p) (some_kept d e before p k all) ∙ ap (λ x. some_has d before p || x) (is.same p);
})

pub none_added : (d e : DiagramsView) (before : List PacketSet) (test : (ℕ → Bool) → Bool) → Keeps d e → ((p : ℕ → Bool) → test p ≡ false)
    → AddsPieces d e before before test
none_added d e before test k none = record {
  sets = λ all. all_kept d e before k all;
  same = λ all p. some_kept d e before p k all ∙ or-none (some_has d before p) (test p) (none p);
}

pub added_then : (d e f : DiagramsView) (a b c : List PacketSet) (t u : (ℕ → Bool) → Bool) → AddsPieces d e a b t → AddsPieces e f b c u
    → AddsPieces d f a c (λ p. t p || u p)
added_then d e f a b c t u first second = record {
  sets = λ all. second.sets (first.sets all);
  same = λ all p. second.same (first.sets all) p ∙ ap (λ x. x || u p) (first.same all p) ∙ or-assoc (some_has d a p) (t p) (u p);
}

pub added_as : (d e : DiagramsView) (a b : List PacketSet) (t u : (ℕ → Bool) → Bool) → AddsPieces d e a b t → ((p : ℕ → Bool) → t p ≡ u p)
    → AddsPieces d e a b u
added_as d e a b t u is same = record {
  sets = is.sets;
  same = λ all p. is.same all p ∙ ap (λ x. some_has d a p || x) (same p);
}

-- of earlier diagrams
pub added_since : (c d e : DiagramsView) (a b : List PacketSet) (t : (ℕ → Bool) → Bool) → Keeps c d → AddsPieces d e a b t → AddsPieces c e a b t
added_since c d e a b t k is = record {
  sets = λ all. is.sets (all_kept c d a k all);
  same = λ all p. is.same (all_kept c d a k all) p ∙ ap (λ x. x || t p) (some_kept c d a p k all);
}

-- ---- bits

both-bits : (h x y : Bool) → (((h && x) && not y) || ((h && y) && not x)) ≡ (h && unlike x y)
both-bits true true true = refl
both-bits true true false = refl
both-bits true false true = refl
both-bits true false false = refl
both-bits false x y = refl

module _ (d0 d1 d2 d3 d4 d5 d6 : DiagramsView) (k01 : Keeps d0 d1) (k12 : Keeps d1 d2) (k23 : Keeps d2 d3) (k34 : Keeps d3 d4) (k45 : Keeps d4 d5)
    (set marked connected with_mark with_connected : PacketSet) (is_set : IsSet d0 set) (x y : ℕ)
    (is_marked : Means d1 marked (λ p. p x)) (is_connected : Means d2 connected (λ p. p y))
    (is_with_mark : Means d3 with_mark (λ p. holds d2 set p && holds d2 marked p))
    (is_with_connected : Means d5 with_connected (λ p. holds d4 set p && holds d4 connected p)) where
  k02 : Keeps d0 d2
  k02 = keeps_trans d0 d1 d2 k01 k12

  k24 : Keeps d2 d4
  k24 = keeps_trans d2 d3 d4 k23 k34

  k03 : Keeps d0 d3
  k03 = keeps_trans d0 d2 d3 k02 k23

  connected3 : Means d3 connected (λ p. p y)
  connected3 = means_kept d2 d3 connected _ k23 is_connected

  marked5 : Means d5 marked (λ p. p x)
  marked5 = means_kept d4 d5 marked _ k45 (means_kept d2 d4 marked _ k24 (means_kept d1 d2 marked _ k12 is_marked))

  first-test : (p : ℕ → Bool) → (holds d3 with_mark p && not (holds d3 connected p)) ≡ ((holds d0 set p && p x) && not (p y))
  first-test p =
      ap (λ v. v && not (holds d3 connected p)) (is_with_mark.same p ∙ ap (λ v. v && holds d2 marked p) (k02.same set p is_set)
      ∙ ap (λ v. holds d0 set p && v) ((means_kept d1 d2 marked _ k12 is_marked).same p))
      ∙ ap (λ v. (holds d0 set p && p x) && not v) (connected3.same p)

  second-test : (p : ℕ → Bool) → (holds d5 with_connected p && not (holds d5 marked p)) ≡ ((holds d0 set p && p y) && not (p x))
  second-test p =
      ap (λ v. v && not (holds d5 marked p)) (is_with_connected.same p
      ∙ ap (λ v. v && holds d4 connected p) ((keeps_trans d0 d2 d4 k02 k24).same set p is_set)
      ∙ ap (λ v. holds d0 set p && v) ((means_kept d2 d4 connected _ k24 is_connected).same p))
      ∙ ap (λ v. (holds d0 set p && p y) && not v) (marked5.same p)

  pub unlike_bit : (a b c : List PacketSet) → AddsPieces d3 d4 a b (λ p. holds d3 with_mark p && not (holds d3 connected p))
      → AddsPieces d5 d6 b c (λ p. holds d5 with_connected p && not (holds d5 marked p)) → AddsPieces d0 d6 a c (λ p. holds d0 set p && unlike (p x) (p y))
  unlike_bit a b c first second =
      added_as d0 d6 a c _ _ (added_then d0 d4 d6 a b c _ _
      (added_since d0 d3 d4 a b _ k03 (added_as d3 d4 a b _ _ first first-test))
      (added_since d4 d5 d6 b c _ k45 (added_as d5 d6 b c _ _ second second-test)))
      (λ p. both-bits (holds d0 set p) (p x) (p y))

-- ---- fields, one bit after another

-- the fields from these bits on have other numbers
pub fields_differ : ℕ → ℕ → ℕ → (ℕ → Bool) → Bool
fields_differ x y width p = not (field_value x width p == field_value y width p)

bit-differs : (a b : Bool) (half v w : ℕ) → v < half → w < half
    → not (cond a half 0 + v == cond b half 0 + w) ≡ (unlike a b || not (v == w))
bit-differs true true half v w hv hw = grind (arith, nat_tests)
bit-differs true false half v w hv hw = grind (arith, nat_tests)
bit-differs false true half v w hv hw = grind (arith, nat_tests)
bit-differs false false half v w hv hw = grind (arith, nat_tests)

pub differ_next : (x y width : ℕ) (p : ℕ → Bool) → fields_differ x y (suc width) p ≡ (unlike (p x) (p y) || fields_differ (x + 1) (y + 1) width p)
unfolding fields_differ field_value
differ_next x y width p =
    bit-differs (p x) (p y) (2 ^ width) (field_value (x + 1) width p) (field_value (y + 1) width p) (value_less width (x + 1) p) (value_less width (y + 1) p)

pub differ_none : (x y : ℕ) (p : ℕ → Bool) → fields_differ x y 0 p ≡ false
unfolding fields_differ field_value
differ_none x y p = refl

pub marks_are : (p : ℕ → Bool) → marks_differ sources.Packet sources.Connection p ≡ fields_differ MARK.first CT_MARK.first 32 p
unfolding fields_differ
marks_are p = refl

-- as far as a loop over the places of bits has come: with the bits that are left all that differ
pub record BitsTo (d e : DiagramsView) (set : PacketSet) (before after : List PacketSet) (place : ℕ) : Type 0 where
  pub keeps : Keeps d e
  pub sets : All (IsSet d) before → All (IsSet e) after
  pub same : All (IsSet d) before → (p : ℕ → Bool)
      → (some_has e after p || (holds d set p && fields_differ (mark_bit place) (connection_mark_bit place) (32 - place) p))
      ≡ (some_has d before p || (holds d set p && marks_differ sources.Packet sources.Connection p))

pub bits_none : (d : DiagramsView) (set : PacketSet) (before : List PacketSet) → BitsTo d d set before before 0
bits_none d set before = record {
  keeps = keeps_same d;
  sets = λ all. all;
  same = λ all p. ap (λ x. some_has d before p || (holds d set p && x)) (sym (marks_are p));
}

pub one_bit : (s h u r : Bool) → ((s || (h && u)) || (h && r)) ≡ (s || (h && (u || r)))
one_bit true h u r = refl
one_bit false true true r = refl
one_bit false true false r = refl
one_bit false false u r = refl

left-bits : (place : ℕ) → place < 32 → 32 - place ≡ suc (32 - (place + 1))
left-bits place h = omega arith

next-bit : (first place : ℕ) → first + place + 1 ≡ first + (place + 1)
next-bit first place = omega arith

pub bits_more : (d e f : DiagramsView) (set : PacketSet) (before between after : List PacketSet) (place : ℕ) → place < 32 → IsSet d set
    → BitsTo d e set before between place → Keeps e f
    → AddsPieces e f between after (λ p. holds e set p && unlike (p (mark_bit place)) (p (connection_mark_bit place)))
    → BitsTo d f set before after (place + 1)
bits_more d e f set before between after place inside is_set so_far k adds = record {
  keeps = keeps_trans d e f so_far.keeps k;
  sets = λ all. adds.sets (so_far.sets all);
  same = λ all p.
      let x = mark_bit place in
      let y = connection_mark_bit place in
      let rest = fields_differ (mark_bit (place + 1)) (connection_mark_bit (place + 1)) (32 - (place + 1)) p in
      let fields : fields_differ x y (32 - place) p ≡ (unlike (p x) (p y) || rest) =
      ap (λ w. fields_differ x y w p) (left-bits place inside) ∙ differ_next x y (32 - (place + 1)) p
      ∙ ap (λ v. unlike (p x) (p y) || fields_differ v (y + 1) (32 - (place + 1)) p) (next-bit MARK.first place)
      ∙ ap (λ v. unlike (p x) (p y) || fields_differ (mark_bit (place + 1)) v (32 - (place + 1)) p) (next-bit CT_MARK.first place) in
      ap (λ v. v || (holds d set p && rest)) (adds.same (so_far.sets all) p
      ∙ ap (λ v. some_has e between p || (v && unlike (p x) (p y))) (so_far.keeps.same set p is_set))
      ∙ one_bit (some_has e between p) (holds d set p) (unlike (p x) (p y)) rest
      ∙ ap (λ v. some_has e between p || (holds d set p && v)) (sym fields)
      ∙ so_far.same all p;
}

or-nothing : (s h x : Bool) → x ≡ false → (s || (h && x)) ≡ s
or-nothing true h x e = refl
or-nothing false true x e = e
or-nothing false false x e = refl

pub bits_all : (d e : DiagramsView) (set : PacketSet) (before after : List PacketSet) (place : ℕ) → 32 ≤ place → BitsTo d e set before after place
    → AddsPieces d e before after (λ p. holds d set p && marks_differ sources.Packet sources.Connection p)
bits_all d e set before after place past so_far =
    let none : 32 - place ≡ 0 = omega arith in
    record {
      sets = so_far.sets;
      same = λ all p. sym (or-nothing (some_has e after p) (holds d set p) _
          (ap (λ w. fields_differ (mark_bit place) (connection_mark_bit place) w p) none ∙ differ_none (mark_bit place) (connection_mark_bit place) p))
          ∙ so_far.same all p;
    }

-- ---- numbers

pub others_added : (d0 d1 d2 : DiagramsView) → Keeps d0 d1 → (set equal : PacketSet) (test : (ℕ → Bool) → Bool) → IsSet d0 set → Means d1 equal test
    → (a b : List PacketSet) → AddsPieces d1 d2 a b (λ p. holds d1 set p && not (holds d1 equal p)) → AddsPieces d0 d2 a b (λ p. holds d0 set p && not (test p))
others_added d0 d1 d2 k set equal test is_set means a b adds =
    added_since d0 d1 d2 a b _ k (added_as d1 d2 a b _ _ adds
    (λ p. ap (λ v. v && not (holds d1 equal p)) (k.same set p is_set) ∙ ap (λ v. holds d0 set p && not v) (means.same p)))

eqb-swap : (x y : ℕ) → (x == y) ≡ (y == x)
eqb-swap x y = grind (arith, nat_tests)

pub marks_swap : (x y : MarkSource) (p : ℕ → Bool) → marks_differ x y p ≡ marks_differ y x p
marks_swap x y p = ap not (eqb-swap (mark_number x p) (mark_number y p))

-- of a call that may fail
pub swapped : (d e : DiagramsView) (set : PacketSet) (a b : List PacketSet) (x y : MarkSource) (r : Result (Unit {0}) SetError)
    → OnOk r (AddsPieces d e a b (λ p. holds d set p && marks_differ x y p)) → OnOk r (AddsPieces d e a b (λ p. holds d set p && marks_differ y x p))
swapped d e set a b x y (Ok u) adds = added_as d e a b _ _ adds (λ p. ap (λ v. holds d set p && v) (marks_swap x y p))
swapped d e set a b x y (Err fault) adds = adds

same-mark : (x : MarkSource) (p : ℕ → Bool) → marks_differ x x p ≡ false
same-mark x p = ap not (eq-eqb (mark_number x p) (mark_number x p) refl)

and-nothing : (h x : Bool) → x ≡ false → (h && x) ≡ false
and-nothing true x e = e
and-nothing false x e = refl

pub same_marks_added : (d : DiagramsView) (set : PacketSet) (before : List PacketSet) (x y : MarkSource)
    → ((p : ℕ → Bool) → mark_number x p ≡ mark_number y p)
    → AddsPieces d d before before (λ p. holds d set p && marks_differ x y p)
same_marks_added d set before x y same =
    none_added d d before _ (keeps_same d) (λ p. and-nothing (holds d set p) _ (ap not (eq-eqb (mark_number x p) (mark_number y p) (same p))))

and-all : (h x : Bool) → x ≡ true → h ≡ (h && x)
and-all true x e = sym e
and-all false x e = refl

pub set_added : (d : DiagramsView) (set : PacketSet) (before after : List PacketSet) (test : (ℕ → Bool) → Bool) → IsSet d set
    → after ≡ before ++ set ∷ [] → ((p : ℕ → Bool) → test p ≡ true) → AddsPieces d d before after (λ p. holds d set p && test p)
set_added d set before after test is_set pushed all =
    one_added d d before after set _ (keeps_same d) pushed (record { is_set = is_set; same = λ p. and-all (holds d set p) (test p) (all p) })

pub with_true : (h b u : Bool) → u ≡ true → (h && b) ≡ (h && (b && u))
with_true h b u e = ap (λ v. h && v) (and-all b u e)

-- ---- all that was written

three-bits : (h m c n e u : Bool) → ((h && m) || ((h && c) && n)) || (h && (e && u)) ≡ (h && ((m || (c && n)) || (e && u)))
three-bits true m c n e u = refl
three-bits false m c n e u = refl

pub written_added : (d0 d1 d2 d3 d4 : DiagramsView) → Keeps d0 d1 → Keeps d1 d2 → Keeps d2 d3 → (set known : PacketSet) → IsSet d0 set → (old new : Written)
    → Means d2 known (λ p. holds d1 set p && has_connection p) → (a b c f : List PacketSet)
    → AddsPieces d0 d1 a b (λ p. holds d0 set p && marks_differ old.packet new.packet p)
    → AddsPieces d2 d3 b c (λ p. holds d2 known p && marks_differ old.connection new.connection p)
    → AddsPieces d3 d4 c f (λ p. holds d3 set p && (is_before_lookup p && unlike old.untracked new.untracked))
    → AddsPieces d0 d4 a f (λ p. holds d0 set p && written_differ old new p)
written_added d0 d1 d2 d3 d4 k01 k12 k23 set known is_set old new means a b c f marks connections untracked =
    let k03 = keeps_trans d0 d2 d3 (keeps_trans d0 d1 d2 k01 k12) k23 in
    added_as d0 d4 a f _ _ (added_then d0 d3 d4 a c f _ _
    (added_then d0 d1 d3 a b c _ _ marks (added_since d1 d2 d3 b c _ k12 (added_as d2 d3 b c _ _ connections
    (λ p. ap (λ v. v && marks_differ old.connection new.connection p)
    (means.same p ∙ ap (λ v. v && has_connection p) (k01.same set p is_set))))))
    (added_as d3 d4 c f _ _ untracked (λ p. ap (λ v. v && (is_before_lookup p && unlike old.untracked new.untracked)) (k03.same set p is_set))))
    (λ p. three-bits (holds d0 set p) (marks_differ old.packet new.packet p) (has_connection p) (marks_differ old.connection new.connection p)
    (is_before_lookup p) (unlike old.untracked new.untracked))

-- ---- by outcomes

pub apart_pieces : (d e : DiagramsView) (set : PacketSet) (old new : StageOutcome) (pieces : List PacketSet) → Keeps d e → IsSet d set
    → pieces ≡ [] ++ set ∷ [] → (old.verdict ≡ new.verdict → ⊥) → ArePieces d e set old new pieces
apart_pieces d e set old new pieces k is_set pushed apart =
    let adds = one_added d e [] pieces set (λ p. holds d set p) k pushed (record { is_set = k.sets set is_set; same = λ p. k.same set p is_set }) in
    let none = All-nil (IsSet d) in
    record {
      sets = adds.sets none;
      within = λ p has. sym (adds.same none p) ∙ has;
      differ = λ p has same. apart same.verdict;
      others = λ p has not_has. absurd (false≢true (sym not_has ∙ adds.same none p ∙ has));
    }

goes-not : (v : HookVerdict) → v ≡ Dropped → GoesOn v → ⊥
goes-not v e goes = subst GoesOn e goes

pub dropped_pieces : (d e : DiagramsView) (set : PacketSet) (old new : StageOutcome) (pieces : List PacketSet)
    → pieces ≡ [] → old.verdict ≡ new.verdict → old.verdict ≡ Dropped → ArePieces d e set old new pieces
dropped_pieces d e set old new pieces none same dropped = subst (ArePieces d e set old new) (sym none) (record {
  sets = All-nil (IsSet e);
  within = λ p has. absurd (false≢true has);
  differ = λ p has both. false≢true has;
  others = λ p has not_has. record { verdict = same; written = λ goes. absurd (goes-not old.verdict dropped goes) };
})

both-parts : (a b : Bool) → (a && b) ≡ true → (a ≡ true) × (b ≡ true)
both-parts true b e = (refl, e)
both-parts false b e = absurd (false≢true e)

not-both : (a b : Bool) → (a && b) ≡ false → a ≡ true → b ≡ false
not-both true b e h = e
not-both false b e h = absurd (false≢true h)

pub written_pieces : (d e : DiagramsView) (set : PacketSet) (old new : StageOutcome) (none pieces : List PacketSet) → none ≡ []
    → AddsPieces d e none pieces (λ p. holds d set p && written_differ old.written new.written p) → old.verdict ≡ new.verdict → GoesOn old.verdict
    → ArePieces d e set old new pieces
written_pieces d e set old new none pieces is_none adds same goes =
    let all = subst (All (IsSet d)) (sym is_none) (All-nil (IsSet d)) in
    let is : (p : ℕ → Bool) → some_has e pieces p ≡ (holds d set p && written_differ old.written new.written p) =
    λ p. adds.same all p ∙ ap (λ l. some_has d l p || (holds d set p && written_differ old.written new.written p)) is_none in
    record {
      sets = adds.sets all;
      within = λ p has. (both-parts (holds d set p) (written_differ old.written new.written p) (sym (is p) ∙ has)).0;
      differ = λ p has both. false≢true (sym (both.written goes)
          ∙ (both-parts (holds d set p) (written_differ old.written new.written p) (sym (is p) ∙ has)).1);
      others = λ p has not_has. record {
        verdict = same;
        written = λ goes_on. not-both (holds d set p) (written_differ old.written new.written p) (sym (is p) ∙ not_has) has;
      };
    }

pub same_written_pieces : (d : DiagramsView) (set : PacketSet) (old new : StageOutcome) (pieces : List PacketSet) → pieces ≡ []
    → old.verdict ≡ new.verdict → old.written ≡ new.written → ArePieces d d set old new pieces
same_written_pieces d set old new pieces none same written = subst (ArePieces d d set old new) (sym none) (record {
  sets = All-nil (IsSet d);
  within = λ p has. absurd (false≢true has);
  differ = λ p has both. false≢true has;
  others = λ p has not_has. record {
    verdict = same;
    written = λ goes. alike_facts [] old.written new.written p (ap (λ w. facts_of [] w p) written);
  };
})
