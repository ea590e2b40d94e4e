-- Ways of a set by a field.
use Rattle.std.proofs.Common.{◌≡◌, ◌∙◌, ◌+◌, ◌<◌, ◌≤◌, ◌||◌, ◌++◌, ◌∷◌, [], ℕ}
use Rattle.std.proofs.Common.{List, length, Bool, true, false, cond, refl, ap, sym, subst, arith, inl, inr, get_or, set, take, zero-add}
use Rattle.std.specs.List.{All, list_any}
use Rattle.std.proofs.lemmas.Bool.{cases_lt}
use Rattle.std.proofs.lemmas.Bool.Decides.{nat_tests}
use Rattle.std.proofs.lemmas.List.Elements.{All-get_or, All-nil}
use Rattle.std.proofs.lemmas.List.Folds.{list_any-append}
use Rattle.std.proofs.lemmas.List.Sums.{get_or-le-sum_by, sum_by-set, sum_by_more, sum_by_push}
use Rattle.packet_sets.specs.Sets.{DiagramsView, holds}
use Rattle.packet_sets.specs.declared.fields.Field.{Field}
use Rattle.packet_sets.specs.declared.packet_set.PacketSet.{PacketSet}
use Rattle.set_lines.specs.Lines.{lies, lies_in, number_in}
use Rattle.set_lines.specs.steps.Parts.{ArePieces, AreWays, AreWaysOf, IsAdded, IsPiece, IsWay, pieces_with, ways_with}
use Rattle.set_lines.specs.declared.line.Numbers.{Numbers}
use Rattle.set_lines.specs.declared.pieces.Piece.{Piece}
use Rattle.set_lines.specs.declared.ways.Way.{Way}

-- ---- ranges, and one more

or-false : (a : Bool) → a ≡ (a || false)
or-false a = elim a as (λ v. v ≡ (v || false)) [ true ↦ refl | false ↦ refl ]

or-assoc : (a b c : Bool) → ((a || b) || c) ≡ (a || (b || c))
or-assoc a b c = elim a as (λ v. ((v || b) || c) ≡ (v || (b || c))) [ true ↦ refl | false ↦ refl ]

pub in-push : (ranges : List Numbers) (range : Numbers) (n : ℕ) → lies_in (ranges ++ range ∷ []) n ≡ (lies_in ranges n || lies range n)
unfolding lies_in
in-push ranges range n =
    list_any-append (λ (r : Numbers). lies r n) ranges (range ∷ []) ∙ ap (λ v. list_any (λ (r : Numbers). lies r n) ranges || v) (sym (or-false (lies range n)))

-- two ranges that touch are one
pub touching : (a b c : Numbers) (n : ℕ) → a.high + 1 ≡ b.low → c.low ≡ a.low → c.high ≡ b.high → lies c n ≡ (lies a n || lies b n)
touching a b c n touch low high = let x = a.rising in let y = b.rising in grind (arith, nat_tests)

pub in_one : (items : List Numbers) (x : Numbers) → items ≡ x ∷ [] → (n : ℕ) → lies_in items n ≡ lies x n
unfolding lies_in
in_one items x e n = rw e (sym (or-false (lies x n)))

append-none : (now : List Numbers) → now ++ [] ≡ now
append-none [] = refl
append-none (x ∷ xs) = ap (λ ys. x ∷ ys) (append-none xs)

pub in_first : (old now items : List Numbers) (x : Numbers) → old ≡ now ++ [] → items ≡ now ++ x ∷ [] → (n : ℕ) → lies_in items n ≡ (lies_in old n || lies x n)
in_first old now items x was e n =
    ap (λ xs. lies_in xs n) e ∙ in-push now x n ∙ ap (λ xs. lies_in xs n || lies x n) (sym (was ∙ append-none now))

pub in_apart : (old now mid items : List Numbers) (last x : Numbers) → old ≡ now ++ last ∷ [] → mid ≡ now ++ last ∷ [] → items ≡ mid ++ x ∷ []
    → (n : ℕ) → lies_in items n ≡ (lies_in old n || lies x n)
in_apart old now mid items last x was again e n =
    ap (λ xs. lies_in xs n) e ∙ in-push mid x n ∙ ap (λ xs. lies_in xs n || lies x n) (again ∙ sym was)

pub in_joined : (old now items : List Numbers) (last x both : Numbers) → old ≡ now ++ last ∷ [] → items ≡ now ++ both ∷ [] → last.high + 1 ≡ x.low
    → both.low ≡ last.low → both.high ≡ x.high → (n : ℕ) → lies_in items n ≡ (lies_in old n || lies x n)
in_joined old now items last x both was e touch low high n =
    ap (λ xs. lies_in xs n) e ∙ in-push now both n ∙ ap (λ v. lies_in now n || v) (touching last x both n touch low high)
    ∙ sym (or-assoc (lies_in now n) (lies last n) (lies x n)) ∙ ap (λ v. v || lies x n) (sym (in-push now last n))
    ∙ ap (λ xs. lies_in xs n || lies x n) (sym was)

-- ---- a way more

pub way_of : (d : DiagramsView) (set : PacketSet) (field : Field) (piece : Piece) (way : Way) → IsPiece d set field 0 piece → way.rest ≡ piece.rest
    → ((n : ℕ) → lies_in way.ranges.items n ≡ lies piece.numbers n) → IsWay d set field way
way_of d set field piece way is e same = record {
  is_set = rw e is.is_set;
  same = λ f h.
      is.same f (ap (λ n. lies piece.numbers n) (zero-add (number_in field f)) ∙ sym (same (number_in field f)) ∙ h)
      ∙ ap (λ s. holds d s f) (sym e);
}

-- ---- how many ways have a number

pub record OrCounts (a b : Bool) : Type 0 where
  pub left : cond a 1 0 ≤ cond (a || b) 1 0
  pub right : cond b 1 0 ≤ cond (a || b) 1 0
  pub both : cond (a || b) 1 0 ≤ cond a 1 0 + cond b 1 0

or-counts : (a b : Bool) → OrCounts a b
or-counts true true = record { left = omega arith; right = omega arith; both = omega arith }
or-counts true false = record { left = omega arith; right = omega arith; both = omega arith }
or-counts false true = record { left = omega arith; right = omega arith; both = omega arith }
or-counts false false = record { left = omega arith; right = omega arith; both = omega arith }

pub added_set : (ways : List Way) (i : ℕ) (d new : Way) (piece : Piece) (n : ℕ) → i < length ways
    → lies_in new.ranges.items n ≡ (lies_in (get_or ways i d).ranges.items n || lies piece.numbers n) → IsAdded ways (set ways i new) piece n
unfolding ways_with
added_set ways i d new piece n here same =
    let F : Way → ℕ = λ way. cond (lies_in way.ranges.items n) 1 0 in
    let a = lies_in (get_or ways i d).ranges.items n in
    let b = lies piece.numbers n in
    let c = or-counts a b in
    let sums = sum_by-set F ways i new d here in
    let least = get_or-le-sum_by F ways i d here in
    let e : F new ≡ cond (a || b) 1 0 = ap (λ v. cond v 1 0) same in
    let l = c.left in
    let r = c.right in
    let m = c.both in
    record { most = omega arith; least = omega arith; here = omega arith }

pub added_at : (ways : List Way) (i : ℕ) (old new : Way) (piece : Piece) (n : ℕ) → i < length ways → old ≡ get_or ways i old
    → lies_in new.ranges.items n ≡ (lies_in old.ranges.items n || lies piece.numbers n) → IsAdded ways (set ways i new) piece n
added_at ways i old new piece n here at same =
    added_set ways i old new piece n here (same ∙ ap (λ w. lies_in w.ranges.items n || lies piece.numbers n) at)

pub added_push : (ways : List Way) (new : Way) (piece : Piece) (n : ℕ) → lies_in new.ranges.items n ≡ lies piece.numbers n
    → IsAdded ways (ways ++ new ∷ []) piece n
unfolding ways_with
added_push ways new piece n same =
    let F : Way → ℕ = λ way. cond (lies_in way.ranges.items n) 1 0 in
    let sums = sum_by_push F ways new in
    let e : F new ≡ cond (lies piece.numbers n) 1 0 = ap (λ v. cond v 1 0) same in
    record { most = omega arith; least = omega arith; here = omega arith }

-- ---- the ways of pieces

pub ways_none : (d : DiagramsView) (set : PacketSet) (field : Field) (pieces : List Piece) → AreWaysOf d set field (take 0 pieces) []
unfolding pieces_with ways_with
ways_none d set field pieces = record {
  each = All-nil (IsWay d set field);
  most = λ n. omega arith;
  some = λ n h. h;
}

pieces-more : (pieces : List Piece) (i : ℕ) (x : Piece) (n : ℕ) → i < length pieces → x ≡ get_or pieces i x
    → pieces_with (take (i + 1) pieces) n ≡ pieces_with (take i pieces) n + cond (lies x.numbers n) 1 0
unfolding pieces_with
pieces-more pieces i x n here at =
    sum_by_more (λ (piece : Piece). cond (lies piece.numbers n) 1 0) pieces i x here
    ∙ ap (λ (piece : Piece). pieces_with (take i pieces) n + cond (lies piece.numbers n) 1 0) (sym at)

pub piece_at : (d : DiagramsView) (set : PacketSet) (field : Field) (start : ℕ) (pieces items : List Piece) (i : ℕ) (piece : Piece)
    → ArePieces d set field start pieces → start ≡ 0 → items ≡ pieces → i < length items → piece ≡ get_or items i piece → IsPiece d set field 0 piece
piece_at d set field start pieces items i piece are begins same here at =
    let each = subst (λ xs. All (IsPiece d set field start) xs) (sym same) are.each in
    let is : IsPiece d set field start piece =
    subst (λ p. IsPiece d set field start p) (sym at) (All-get_or (IsPiece d set field start) items i piece here each) in
    subst (λ n. IsPiece d set field n piece) begins is

pub ways_more : (d : DiagramsView) (set : PacketSet) (field : Field) (pieces : List Piece) (i : ℕ) (x : Piece) (old new : List Way) → i < length pieces
    → x ≡ get_or pieces i x → AreWaysOf d set field (take i pieces) old → All (IsWay d set field) new → ((n : ℕ) → IsAdded old new x n)
    → AreWaysOf d set field (take (i + 1) pieces) new
ways_more d set field pieces i x old new here at are ways added = record {
  each = ways;
  most = λ n.
      let a = added n in
      let m = a.most in
      let o = are.most n in
      let s = pieces-more pieces i x n here at in
      omega arith;
  some = λ n h.
      let a = added n in
      let l = a.least in
      let w = a.here in
      let s = pieces-more pieces i x n here at in
      elim (cases_lt 0 (pieces_with (take i pieces) n)) [
        | inl before ↦ let o = are.some n before in omega arith
        | inr none ↦ omega arith
      ];
}

pub ways_all : (d : DiagramsView) (set : PacketSet) (field : Field) (pieces : List Piece) (ways : List Way) → ArePieces d set field 0 pieces
    → AreWaysOf d set field pieces ways → AreWays d set field ways
ways_all d set field pieces ways are of = record {
  each = of.each;
  once = λ f.
      let n = number_in field f in
      let one : pieces_with pieces n ≡ 1 = subst (λ k. pieces_with pieces k ≡ 1) (zero-add n) (are.once f) in
      let m = of.most n in
      let s = of.some n in
      omega arith;
}
