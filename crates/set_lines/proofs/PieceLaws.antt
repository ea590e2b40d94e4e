-- Pieces of a set by a field.
use Rattle.std.proofs.Common.{◌≡◌, ◌∙◌, ◌+◌, ◌-◌, ◌/◌, ◌^◌, ◌<◌, ◌≤◌, ◌++◌, ◌∷◌, [], ℕ, zero, suc}
use Rattle.std.proofs.Common.{List, Bool, true, false, cond, refl, ap, sym, subst, arith}
use Rattle.std.specs.List.{All}
use Rattle.std.proofs.lemmas.Bool.Decides.{nat_tests}
use Rattle.std.proofs.lemmas.List.Elements.{All-append, All-cons, All-nil, All-weaker}
use Rattle.std.proofs.lemmas.List.Sums.{sum_by-append, sum_by-le}
use Rattle.std.proofs.Math.Nat.{pow-suc}
use Rattle.packet_sets.specs.Sets.{DiagramsView, IsSet, holds}
use Rattle.packet_sets.specs.declared.fields.Field.{Field}
use Rattle.packet_sets.specs.declared.packet_set.PacketSet.{PacketSet}
use Rattle.packet_sets.proofs.FieldLaws.{value_less, value_split}
use Rattle.set_lines.specs.Lines.{lies, number_in}
use Rattle.set_lines.specs.steps.Parts.{AreHalves, ArePieces, IsPiece, pieces_with}
use Rattle.set_lines.specs.declared.halves.Halves.{Halves}
use Rattle.set_lines.specs.declared.line.Numbers.{Numbers}
use Rattle.set_lines.specs.declared.pieces.Piece.{Piece}

-- ---- ranges

pub lies_inside : (range : Numbers) (n : ℕ) → range.low ≤ n → n ≤ range.high → lies range n ≡ true
lies_inside range n l h = grind (arith, nat_tests)

pub lies_from : (range : Numbers) (n : ℕ) → lies range n ≡ true → range.low ≤ n
lies_from range n h = grind (arith, nat_tests)

pub lies_to : (range : Numbers) (n : ℕ) → lies range n ≡ true → n ≤ range.high
lies_to range n h = grind (arith, nat_tests)

pub lies_before : (range : Numbers) (n : ℕ) → n < range.low → lies range n ≡ false
lies_before range n h = grind (arith, nat_tests)

pub lies_behind : (range : Numbers) (n : ℕ) → range.high < n → lies range n ≡ false
lies_behind range n h = grind (arith, nat_tests)

-- ---- halves of numbers

pub two_halves : (width : ℕ) → 0 < width → 2 ^ width ≡ 2 ^ (width - 1) + 2 ^ (width - 1)
two_halves zero h = absurd (omega arith)
two_halves (suc w) h = let e : suc w - 1 ≡ w = omega arith in rw e (omega (arith, pow-suc 2 w))

pub half_some : (width : ℕ) → 0 < 2 ^ width
half_some zero = omega arith
half_some (suc w) = omega (arith, pow-suc 2 w, half_some w)

-- the lower half ends here
pub middle_is : (low high width : ℕ) → 0 < width → high + 1 ≡ low + 2 ^ width → (low + (high - low) / 2) + 1 ≡ low + 2 ^ (width - 1)
middle_is low high width wide e = omega (arith, two_halves width wide, half_some (width - 1))

-- ---- one piece

pub one_piece : (d : DiagramsView) (set : PacketSet) (field : Field) (numbers : Numbers) (items : List Piece)
    → items ≡ record { numbers = numbers; rest = set } ∷ [] → IsSet d set → numbers.high + 1 ≡ numbers.low + 2 ^ field.width
    → ArePieces d set field numbers.low items
unfolding pieces_with
one_piece d set field numbers items only is e =
    let piece : Piece = record { numbers = numbers; rest = set } in
    subst (λ xs. ArePieces d set field numbers.low xs) (sym only) (record {
      each = All-cons (IsPiece d set field numbers.low) piece [] (record {
        is_set = is;
        above = omega arith;
        below = omega arith;
        same = λ f h. refl;
      }) (All-nil (IsPiece d set field numbers.low));
      once = λ f.
          let n = numbers.low + number_in field f in
          let less = value_less field.width field.first f in
          let l : lies numbers n ≡ true = lies_inside numbers n (omega arith) (omega arith) in
          rw l refl;
    })

-- ---- numbers outside

none-of : (pieces : List Piece) (n : ℕ) → All (λ piece. lies piece.numbers n ≡ false) pieces → pieces_with pieces n ≡ 0
unfolding pieces_with
none-of pieces n none =
    let P : Piece → Type 0 = λ piece. lies piece.numbers n ≡ false in
    let Q : Piece → Type 0 = λ piece. cond (lies piece.numbers n) 1 0 ≤ 0 in
    let each = All-weaker P Q (λ piece e. rw e (omega arith)) pieces none in
    omega (arith, sum_by-le (λ (piece : Piece). cond (lies piece.numbers n) 1 0) 0 pieces each)

none-before : (d : DiagramsView) (set : PacketSet) (field : Field) (start n : ℕ) (pieces : List Piece) → All (IsPiece d set field start) pieces → n < start
    → pieces_with pieces n ≡ 0
none-before d set field start n pieces all before =
    none-of pieces n (All-weaker (IsPiece d set field start) (λ piece. lies piece.numbers n ≡ false)
    (λ piece is. let a = is.above in lies_before piece.numbers n (omega arith)) pieces all)

none-behind : (d : DiagramsView) (set : PacketSet) (field : Field) (start n : ℕ) (pieces : List Piece) → All (IsPiece d set field start) pieces
    → start + 2 ^ field.width ≤ n → pieces_with pieces n ≡ 0
none-behind d set field start n pieces all behind =
    none-of pieces n (All-weaker (IsPiece d set field start) (λ piece. lies piece.numbers n ≡ false)
    (λ piece is. let b = is.below in lies_behind piece.numbers n (omega arith)) pieces all)

-- ---- both halves

-- the number in a field, by its first bit
number-low : (field : Field) (f : ℕ → Bool) → 0 < field.width → f field.first ≡ false
    → number_in field f ≡ number_in (record { first = field.first + 1; width = field.width - 1 }) f
number-low field f wide e = value_split field.first field.width f wide ∙ rw e (omega arith)

number-high : (field : Field) (f : ℕ → Bool) → 0 < field.width → f field.first ≡ true
    → number_in field f ≡ 2 ^ (field.width - 1) + number_in (record { first = field.first + 1; width = field.width - 1 }) f
number-high field f wide e = value_split field.first field.width f wide ∙ rw e refl

low-piece : (d : DiagramsView) (set : PacketSet) (field : Field) (halves : Halves) (start : ℕ) (piece : Piece) → AreHalves d set field halves
    → IsPiece d halves.low (record { first = field.first + 1; width = field.width - 1 }) start piece → IsPiece d set field start piece
low-piece d set field halves start piece are is =
    let two = two_halves field.width are.wide in
    let a = is.above in
    let b = is.below in
    let go : (f : ℕ → Bool) (bit : Bool) → f field.first ≡ bit → lies piece.numbers (start + number_in field f) ≡ true → holds d set f ≡ holds d piece.rest f =
    λ f bit. elim bit as (λ v. f field.first ≡ v → lies piece.numbers (start + number_in field f) ≡ true → holds d set f ≡ holds d piece.rest f) [
      | true ↦ λ e h.
          let n = number-high field f are.wide e in
          let l = lies_to piece.numbers (start + number_in field f) h in
          absurd (omega arith)
      | false ↦ λ e h.
          are.same f ∙ rw e (is.same f (subst (λ n. lies piece.numbers (start + n) ≡ true) (number-low field f are.wide e) h))
    ] in
    record {
      is_set = is.is_set;
      above = is.above;
      below = omega arith;
      same = λ f h. go f (f field.first) refl h;
    }

high-piece : (d : DiagramsView) (set : PacketSet) (field : Field) (halves : Halves) (start : ℕ) (piece : Piece) → AreHalves d set field halves
    → IsPiece d halves.high (record { first = field.first + 1; width = field.width - 1 }) (start + 2 ^ (field.width - 1)) piece
    → IsPiece d set field start piece
high-piece d set field halves start piece are is =
    let two = two_halves field.width are.wide in
    let a = is.above in
    let b = is.below in
    let go : (f : ℕ → Bool) (bit : Bool) → f field.first ≡ bit → lies piece.numbers (start + number_in field f) ≡ true → holds d set f ≡ holds d piece.rest f =
    λ f bit. elim bit as (λ v. f field.first ≡ v → lies piece.numbers (start + number_in field f) ≡ true → holds d set f ≡ holds d piece.rest f) [
      | true ↦ λ e h.
          let n : start + number_in field f ≡ start + 2 ^ (field.width - 1) + number_in (record { first = field.first + 1; width = field.width - 1 }) f =
          omega (arith, number-high field f are.wide e) in
          are.same f ∙ rw e (is.same f (subst (λ n. lies piece.numbers n ≡ true) n h))
      | false ↦ λ e h.
          let n = number-low field f are.wide e in
          let less = value_less (field.width - 1) (field.first + 1) f in
          let l = lies_from piece.numbers (start + number_in field f) h in
          absurd (omega arith)
    ] in
    record {
      is_set = is.is_set;
      above = omega arith;
      below = omega arith;
      same = λ f h. go f (f field.first) refl h;
    }

pub both_pieces : (d : DiagramsView) (set : PacketSet) (field : Field) (halves : Halves) (start middle : ℕ) (low high all : List Piece)
    → AreHalves d set field halves → middle ≡ start + 2 ^ (field.width - 1)
    → ArePieces d halves.low (record { first = field.first + 1; width = field.width - 1 }) start low
    → ArePieces d halves.high (record { first = field.first + 1; width = field.width - 1 }) middle high
    → all ≡ low ++ high → ArePieces d set field start all
unfolding pieces_with
both_pieces d set field halves start middle low high all are m lows highs joined =
    let behind : Field = record { first = field.first + 1; width = field.width - 1 } in
    let half = 2 ^ (field.width - 1) in
    let uppers : ArePieces d halves.high behind (start + half) high = subst (λ n. ArePieces d halves.high behind n high) m highs in
    let lower = All-weaker (IsPiece d halves.low behind start) (IsPiece d set field start)
    (λ piece is. low-piece d set field halves start piece are is) low lows.each in
    let upper = All-weaker (IsPiece d halves.high behind (start + half)) (IsPiece d set field start)
    (λ piece is. high-piece d set field halves start piece are is) high
    uppers.each in
    let go : (f : ℕ → Bool) (bit : Bool) → f field.first ≡ bit → pieces_with (low ++ high) (start + number_in field f) ≡ 1 =
    λ f bit. elim bit as (λ v. f field.first ≡ v → pieces_with (low ++ high) (start + number_in field f) ≡ 1) [
      | true ↦ λ e.
          let n : start + number_in field f ≡ start + half + number_in behind f = omega (arith, number-high field f are.wide e) in
          let none = none-behind d halves.low behind start (start + number_in field f) low lows.each (omega arith) in
          let one = subst (λ n. pieces_with high n ≡ 1) (sym n) (uppers.once f) in
          sum_by-append (λ (piece : Piece). cond (lies piece.numbers (start + number_in field f)) 1 0) low high
          ∙ ap (λ x. x + pieces_with high (start + number_in field f)) none ∙ omega (arith, one)
      | false ↦ λ e.
          let n : start + number_in field f ≡ start + number_in behind f = omega (arith, number-low field f are.wide e) in
          let less = value_less (field.width - 1) (field.first + 1) f in
          let none = none-before d halves.high behind (start + half) (start + number_in field f) high uppers.each (omega arith) in
          let one = subst (λ n. pieces_with low n ≡ 1) (sym n) (lows.once f) in
          sum_by-append (λ (piece : Piece). cond (lies piece.numbers (start + number_in field f)) 1 0) low high
          ∙ ap (λ x. pieces_with low (start + number_in field f) + x) none ∙ omega (arith, one)
    ] in
    subst (λ xs. ArePieces d set field start xs) (sym joined) (record {
      each = All-append (IsPiece d set field start) low high lower upper;
      once = λ f. go f (f field.first) refl;
    })
