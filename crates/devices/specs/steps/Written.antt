-- Lemmas on bytes that are written one after another.
use Rattle.std.proofs.Common.{◌≡◌, refl, ℕ, List, [], ◌++◌, append_assoc, append-nil, ap, sym, ◌∙◌}
use Rattle.std.specs.declared.option.Option.{Option}
use Rattle.std.specs.Io.KnownBytes.{Appends}
use Rattle.std.proofs.KnownBytes.{Appends-trans, Appends-nil}
use Rattle.devices.specs.Counting.{AppendsBuffered, AppendsPrefix}

pub part_same : (a b : Option (List ℕ)) (xs ys : List ℕ) → AppendsPrefix a b xs → xs ≡ ys
    → AppendsPrefix a b ys
part_same a b xs ys (part, rest, whole, w) e = (part, rest, sym e ∙ whole, w)

-- nothing so far
pub part_none : (a : Option (List ℕ)) (xs : List ℕ) → AppendsPrefix a a xs
part_none a xs = ([], xs, refl, Appends-nil a)

-- all
pub part_whole : (a b : Option (List ℕ)) (xs : List ℕ) → Appends a b xs → AppendsPrefix a b xs
part_whole a b xs w = (xs, [], sym (append-nil xs), w)

-- a prefix of the first is a prefix of both
pub part_first : (a b : Option (List ℕ)) (xs ys : List ℕ) → AppendsPrefix a b xs
    → AppendsPrefix a b (xs ++ ys)
part_first a b xs ys (part, rest, e, w) = (
  part,
  rest ++ ys,
  ap (λ zs. zs ++ ys) e ∙ append_assoc part rest ys,
  w,
)

-- the first, and a prefix of the second
pub part_after : (a b c : Option (List ℕ)) (xs ys : List ℕ) → Appends a b xs → AppendsPrefix b c ys
    → AppendsPrefix a c (xs ++ ys)
part_after a b c xs ys whole (part, rest, e, w) = (
  xs ++ part,
  rest,
  ap (λ zs. xs ++ zs) e ∙ sym (append_assoc xs part rest),
  Appends-trans a b c xs part whole w,
)

-- ---- with buffered bytes

-- nothing more
pub gets_none : (waits : List ℕ) (a : Option (List ℕ)) → AppendsBuffered waits a a waits []
gets_none waits a = ([], append-nil waits, Appends-nil a)

-- more, and more after that
pub gets_more : (u v w : List ℕ) (a b c : Option (List ℕ)) (xs ys : List ℕ) → AppendsBuffered u a b v xs
    → AppendsBuffered v b c w ys → AppendsBuffered u a c w (xs ++ ys)
gets_more u v w a b c xs ys (p, e, g) (q, f, h) = (
  p ++ q,
  sym (append_assoc u xs ys) ∙ ap (λ zs. zs ++ ys) e ∙ append_assoc p v ys ∙ ap (λ zs. p ++ zs) f
      ∙ sym (append_assoc p q w),
  Appends-trans a b c p q g h,
)

-- more, and a prefix of the buffered bytes and of more
pub gets_part : (u v : List ℕ) (a b c : Option (List ℕ)) (xs ys : List ℕ) → AppendsBuffered u a b v xs
    → AppendsPrefix b c (v ++ ys) → AppendsPrefix a c (u ++ (xs ++ ys))
gets_part u v a b c xs ys (p, e, g) rest =
    part_same a c (p ++ (v ++ ys)) (u ++ (xs ++ ys)) (part_after a b c p (v ++ ys) g rest)
    (sym (append_assoc p v ys) ∙ ap (λ zs. zs ++ ys) (sym e) ∙ append_assoc u xs ys)
